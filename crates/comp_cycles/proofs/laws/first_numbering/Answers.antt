use Rattle.comp_cycles.proofs.Chapters.{first_is}
use Rattle.comp_cycles.proofs.laws.first_numbering.Goals as goal

pub returns : goal.returns
returns c = first_is
