use Rattle.std.proofs.Common.{◌∙◌, arith}
use Rattle.std.proofs.lemmas.Nat.Bits.{bit_at_ones, bit_at_ones_above, bit_at_mask_inside, bit_at_mask_below}
use Rattle.mark_tables.proofs.Masks.{mask-bit}
use Rattle.rest_marks.proofs.bits.mask.Goals as goal

pub returns-clause-below : goal.returns-clause-below
returns-clause-below c =
    λ k lt. mask-bit c.args.from c.args.to k (omega arith) (omega arith) ∙ omega (arith, bit_at_mask_below c.args.from 64 k lt)

pub returns-clause-inside : goal.returns-clause-inside
returns-clause-inside c =
    λ k le lt. mask-bit c.args.from c.args.to k (omega arith) (omega arith)
    ∙ omega (arith, bit_at_mask_inside c.args.from 64 k le (omega arith), bit_at_ones c.args.to k lt)

pub returns-clause-above : goal.returns-clause-above
returns-clause-above c =
    λ k le. mask-bit c.args.from c.args.to k (omega arith) (omega arith) ∙ omega (arith, bit_at_ones_above c.args.to k le)
