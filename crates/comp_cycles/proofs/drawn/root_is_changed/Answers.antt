use Rattle.std.proofs.Common.{refl}
use Rattle.page_plan.specs.Sliding.{page}
use Rattle.comp_history.specs.Merged.{history}
use Rattle.comp_cycles.proofs.drawn.root_is_changed.Goals as goal

pub returns : goal.returns
unfolding page history
returns c = record { story = refl; first = refl; last = refl; next = refl }
