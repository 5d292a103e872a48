use Rattle.std.proofs.Common.{◌∙◌, arith}
use Rattle.std.proofs.lemmas.Nat.Bits.{bit_at_and, bit_at-lt}
use Rattle.young_heap.proofs.promoting.low_part.Goals as goal

pub returns-clause-below : goal.returns-clause-below
returns-clause-below c = λ k lt. bit_at_and c.args.block c.mask.result k ∙ omega (arith, c.mask.ensures.inside k (omega arith) lt, bit_at-lt c.args.block k)

pub returns-clause-above : goal.returns-clause-above
returns-clause-above c = λ k le. bit_at_and c.args.block c.mask.result k ∙ omega (arith, c.mask.ensures.above k le)
