use Rattle.std.proofs.Common.{refl}
use Rattle.page_plan.specs.Sliding.{page}
use Rattle.comp_history.specs.Merged.{history}
use Rattle.comp_cycles.proofs.drawn.cycles_are_one_story.Goals as goal

pub returns : goal.returns
unfolding page history
returns c = record { numbers = refl; story = refl; last = refl }
