use Rattle.std.proofs.Common.{◌≡◌, ℕ, suc, ◌+◌, ◌*◌, ◌/◌, ◌%◌, ◌^◌, sym, ap, ◌∙◌, arith}
use Rattle.std.specs.Int.{bit_at}
use Rattle.std.proofs.lemmas.Nat.Bits.{bit_at_or, bit_at-suc, bit_at-zero, bit_at_lowest, bit_at_cat_low}
use Rattle.rest_marks.proofs.runs.behind_live.Goals as goal

up : (n k : ℕ) → bit_at n (k + 1) ≡ bit_at (n / 2) k
up n k = (let e : k + 1 ≡ suc k = omega arith in ap (bit_at n) e ∙ bit_at-suc n k)

pub returns-clause-first : goal.returns-clause-first
returns-clause-first c =
    let shifted = c.args.block * 2 % 2 ^ 64 in
    let before = c.args.before in
    omega (arith, bit_at_or shifted before 0, bit_at_lowest shifted, bit_at_lowest before, c.requires)

pub returns-clause-next : goal.returns-clause-next
returns-clause-next c = λ k lt.
    let block = c.args.block in
    let shifted = block * 2 % 2 ^ 64 in
    let before = c.args.before in
    let half : shifted / 2 ≡ block % 2 ^ 63 = omega arith in
    let whole : block ≡ block / 2 ^ 63 * 2 ^ 63 + block % 2 ^ 63 = omega arith in
    let low : bit_at (block % 2 ^ 63) k ≡ bit_at block k = sym (bit_at_cat_low (block / 2 ^ 63) 63 (block % 2 ^ 63) k lt) ∙ ap (λ (n : ℕ). bit_at n k) (sym whole) in
    let moved : bit_at shifted (k + 1) ≡ bit_at block k = up shifted k ∙ ap (λ (n : ℕ). bit_at n k) half ∙ low in
    let half_before : before / 2 ≡ 0 = omega (arith, c.requires) in
    let none : bit_at before (k + 1) ≡ 0 = up before k ∙ ap (λ (n : ℕ). bit_at n k) half_before ∙ bit_at-zero k in
    omega (arith, bit_at_or shifted before (k + 1), moved, none)
