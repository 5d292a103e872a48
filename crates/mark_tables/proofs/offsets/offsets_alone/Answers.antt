use Rattle.std.proofs.Common.{◌≡◌, ◌∙◌, arith, map, count_ones}
use Rattle.mark_tables.proofs.Counting.{counts-small, are_offsets}
use Rattle.mark_tables.proofs.offsets.offsets_alone.Goals as goal

pub sums-requires-clause-small : goal.sums-requires-clause-small
sums-requires-clause-small c =
    let bits = c.args.bits.now in
    let counts : c.deref.result.now ≡ map count_ones bits = c.deref.ensures.value ∙ c.in_ok-counts.ensures in
    rw counts (counts-small bits (λ b lt. omega (arith, c.type_inv.bits b)))

pub returns : goal.returns
returns c =
    let bits = c.args.bits.now in
    let counts : c.deref.result.now ≡ map count_ones bits = c.deref.ensures.value ∙ c.in_ok-counts.ensures in
    are_offsets bits c.in_ok-sums.field-0.items c.requires (λ b lt. omega (arith, c.type_inv.bits b)) (rw counts at c.in_ok-sums.ensures)
