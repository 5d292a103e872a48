use Rattle.std.proofs.Common.{◌≡◌, ℕ, ◌-◌, ◌*◌, ◌/◌, ◌%◌, ◌^◌, bit_and, count_ones, ap, ◌∙◌, arith}
use Rattle.std.proofs.lemmas.Nat.{one_shl, and_mask}
use Rattle.page_plan.proofs.starts.later_starts.Goals as goal

pub returns : goal.returns
returns c =
    let block = c.args.block in
    let o = c.args.offset in
    let mask : 1 * 2 ^ o % 18446744073709551616 ≡ 2 ^ o = one_shl o 64 (omega arith) in
    let low : bit_and (block / 2) (1 * 2 ^ o % 18446744073709551616 - 1) ≡ block / 2 % 2 ^ o = ap (λ (m : ℕ). bit_and (block / 2) (m - 1)) mask ∙ and_mask (block / 2) o in
    ap count_ones low
