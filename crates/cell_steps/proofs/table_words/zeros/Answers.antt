use Rattle.std.proofs.Common.{refl, arith}
use Rattle.cell_steps.proofs.table_words.zeros.Goals as goal

pub first-requires : goal.first-requires
first-requires c = (omega arith, (c.requires, refl))
