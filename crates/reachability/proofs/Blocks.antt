-- A walk over the bits of a block that are set.
use Rattle.std.proofs.Common.{◌≡◌, ℕ, zero, suc, ◌+◌, ◌-◌, ◌*◌, ◌/◌, ◌%◌, ◌^◌, ◌<◌, ◌≤◌, ◌==◌, ◌&&◌, Bool, true, false, not, min, w64, bit_and, List, [], ◌∷◌, ◌++◌, inl, inr, get_or, filter, refl, sym, ap, ◌∙◌, arith}
use Rattle.std.specs.Int.{bit_at, bit_not, trailing_zeros}
use Rattle.std.specs.List.{range_with_len}
use Rattle.std.proofs.lemmas.Bool.{cases_lt}
use Rattle.std.proofs.lemmas.Nat.{shr-shr}
use Rattle.std.proofs.lemmas.Nat.Bits.{bit_at-zero, bit_at-lt, bit_at_above, bit_at_and, bit_at_not, bit_at-trailing_zeros}
use Rattle.heap_layout.specs.Bits.{bit}
use Rattle.reachability.specs.Queue.{is_met}
use Rattle.reachability.proofs.Indices.{indices-more, indices-gap}

-- the bits of a block say which of its 64 indices pass a test
abbrev pub IsBlock : (ℕ → Bool) → ℕ → ℕ → Type 0
IsBlock test b block = (k : ℕ) → k < 64 → test (64 * b + k) ≡ (bit_at block k == 1)

-- The walk over block `b` came to index `i`: the list has the indices below, and `rest` is the block from there on.
pub record IsListed (test : ℕ → Bool) (b block : ℕ) (list : List ℕ) (i rest : ℕ) : Type 0 where
  pub from : 64 * b ≤ i
  pub to : i ≤ 64 * b + 64
  pub rest_is : rest ≡ block / 2 ^ (i - 64 * b)
  pub listed : list ≡ filter test (range_with_len 0 i)

-- a bit of the rest says whether an index passes
rest-bit : (test : ℕ → Bool) (b block i rest k : ℕ) → IsBlock test b block → 64 * b ≤ i → rest ≡ block / 2 ^ (i - 64 * b) → i + k < 64 * b + 64 → test (i + k) ≡ (bit_at rest k == 1)
rest-bit test b block i rest k of from is inside =
    let place : i + k ≡ 64 * b + (i - 64 * b + k) = omega arith in
    ap test place ∙ of (i - 64 * b + k) (omega arith)
    ∙ ap (λ (n : ℕ). n % 2 == 1) (sym (ap (λ (n : ℕ). n / 2 ^ k) is ∙ shr-shr block (i - 64 * b) k))

-- the next bit that is set is in the block
next-inside : (test : ℕ → Bool) (b block : ℕ) (list : List ℕ) (i rest : ℕ) → IsListed test b block list i rest → block < 2 ^ 64 → 0 < rest → rest < 2 ^ 64
    → i + trailing_zeros w64 rest < 64 * b + 64
next-inside test b block list i rest at small some below =
    let gap = trailing_zeros w64 rest in
    let lowest = bit_at-trailing_zeros w64 rest some below in
    let place = i - 64 * b + gap in
    let there : bit_at block place ≡ 1 =
    sym (ap (λ (n : ℕ). n % 2) (ap (λ (n : ℕ). n / 2 ^ gap) at.rest_is ∙ shr-shr block (i - 64 * b) gap)) ∙ lowest.1 in
    let from = at.from in
    elim (cases_lt place 64) [
      | inl inside ↦ omega arith
      | inr above ↦ absurd (let no = bit_at_above block 64 place small above in omega arith)
    ]

-- one bit more
pub listed-next : (test : ℕ → Bool) (b block : ℕ) (list : List ℕ) (i rest gap : ℕ) → IsBlock test b block → IsListed test b block list i rest
    → block < 2 ^ 64 → 0 < rest → rest < 2 ^ 64 → gap ≡ trailing_zeros w64 rest → IsListed test b block (list ++ (i + gap) ∷ []) (i + gap + 1) (rest / 2 ^ gap / 2)
listed-next test b block list i rest gap of at small some below is_gap =
    let lowest = bit_at-trailing_zeros w64 rest some below in
    let inside = next-inside test b block list i rest at small some below in
    let gap_inside : i + gap < 64 * b + 64 = omega (arith, inside, is_gap) in
    let from = at.from in
    let place : i - 64 * b + gap + 1 ≡ i + gap + 1 - 64 * b = omega arith in
    let passes : test (i + gap) ≡ true =
    rest-bit test b block i rest gap of at.from at.rest_is gap_inside ∙ ap (λ (n : ℕ). n == 1) (ap (bit_at rest) is_gap ∙ lowest.1) in
    let none : (j : ℕ) → j < gap → test (i + j) ≡ false =
    λ j before. rest-bit test b block i rest j of at.from at.rest_is (omega arith) ∙ ap (λ (n : ℕ). n == 1) (lowest.2 j (omega (arith, before, is_gap))) in
    record {
      from = omega arith;
      to = omega arith;
      rest_is = ap (λ (n : ℕ). n / 2 ^ gap / 2) at.rest_is ∙ ap (λ (n : ℕ). n / 2) (shr-shr block (i - 64 * b) gap)
          ∙ shr-shr block (i - 64 * b + gap) 1 ∙ ap (λ (n : ℕ). block / 2 ^ n) place;
      listed = ap (λ (xs : List ℕ). xs ++ (i + gap) ∷ []) (at.listed ∙ sym (indices-gap test i gap none)) ∙ sym (indices-more test (i + gap) passes);
    }

-- after the last bit of the block that is set
pub listed-all : (test : ℕ → Bool) (b block : ℕ) (list : List ℕ) (i rest : ℕ) → IsBlock test b block → IsListed test b block list i rest → rest ≡ 0
    → list ≡ filter test (range_with_len 0 (64 * (b + 1)))
listed-all test b block list i rest of at done =
    let from = at.from in
    let to = at.to in
    let left = 64 * b + 64 - i in
    let end : i + left ≡ 64 * (b + 1) = omega arith in
    let none : (j : ℕ) → j < left → test (i + j) ≡ false =
    λ j before. rest-bit test b block i rest j of at.from at.rest_is (omega arith) ∙ ap (λ (n : ℕ). n == 1) (ap (λ (n : ℕ). bit_at n j) done ∙ bit_at-zero j) in
    at.listed ∙ sym (indices-gap test i left none) ∙ ap (λ (n : ℕ). filter test (range_with_len 0 n)) end

-- ---- the block of the objects that were met

-- a bit that is set in one block and not in the other
one-not-other : (a b : ℕ) → a < 2 → b < 2 → ((a == 1) && not (b == 1)) ≡ (min a (1 - b) == 1)
one-not-other zero zero a_bit b_bit = refl
one-not-other zero (suc zero) a_bit b_bit = refl
one-not-other zero (suc (suc b)) a_bit b_bit = absurd (omega arith)
one-not-other (suc zero) zero a_bit b_bit = refl
one-not-other (suc zero) (suc zero) a_bit b_bit = refl
one-not-other (suc zero) (suc (suc b)) a_bit b_bit = absurd (omega arith)
one-not-other (suc (suc a)) b a_bit b_bit = absurd (omega arith)

-- a bit of a block is a bit of all blocks
block-bit : (bits : List ℕ) (b k : ℕ) → k < 64 → bit bits (64 * b + k) ≡ (bit_at (get_or bits b 0) k == 1)
block-bit bits b k inside =
    let block : (64 * b + k) / 64 ≡ b = omega arith in
    let place : (64 * b + k) % 64 ≡ k = omega arith in
    ap (λ (n : ℕ). bit_at (get_or bits n 0) ((64 * b + k) % 64) == 1) block ∙ ap (λ (n : ℕ). bit_at (get_or bits b 0) n == 1) place

pub met-block : (row unmet : List ℕ) (b : ℕ) → get_or unmet b 0 < 2 ^ 64 → IsBlock (is_met row unmet) b (bit_and (get_or row b 0) (bit_not w64 (get_or unmet b 0)))
met-block row unmet b small k inside =
    let one = get_or row b 0 in
    let other = get_or unmet b 0 in
    ap (λ (x : Bool). x && not (bit unmet (64 * b + k))) (block-bit row b k inside) ∙ ap (λ (x : Bool). (bit_at one k == 1) && not x) (block-bit unmet b k inside)
    ∙ one-not-other (bit_at one k) (bit_at other k) (bit_at-lt one k) (bit_at-lt other k)
    ∙ ap (λ (n : ℕ). n == 1) (ap (λ (n : ℕ). min (bit_at one k) n) (sym (bit_at_not w64 other k small inside)) ∙ sym (bit_at_and one (bit_not w64 other) k))
