-- Bits of two sets, block by block.
use Rattle.std.proofs.Common.{◌≡◌, ◌≢◌, ℕ, ◌+◌, ◌*◌, ◌/◌, ◌%◌, ◌^◌, ◌<◌, ◌≤◌, ◌==◌, ◌||◌, Bool, true, false, w64, List, length, get_or, set, bit_and, bit_or, inl, inr, refl, sym, ap, subst, ◌∙◌, arith, get_or-set_same, get_or-set_other, length-set}
use Rattle.std.specs.Int.{bit_at, bit_not, trailing_zeros}
use Rattle.std.proofs.lemmas.Bool.{cases_eq, cases_lt, eq-eqb, ne_eqb, or_left}
use Rattle.std.proofs.lemmas.Nat.Bits.{bit_at_and, bit_at_or, bit_at_not, bit_at-lt, bit_at-trailing_zeros, bit_at-zero}
use Rattle.std.proofs.lemmas.Nat.{and_le_l}
use Rattle.heap_layout.specs.Bits.{bit}
use Rattle.rest_marks.specs.LaneParts.{AreBoth}
use Rattle.rest_marks.proofs.Bounding.{bit-past}
use Rattle.rest_marks.proofs.RunBlocks.{bit-one, one-bit, zero-bit}

-- a bit of block b
set-at : (bits : List ℕ) (b t : ℕ) → t < 64 → bit_at (get_or bits b 0) t ≡ 1 → bit bits (64 * b + t) ≡ true
set-at bits b t lt one =
    let here : (64 * b + t) / 64 ≡ b = omega (arith, lt) in
    let low : t ≡ (64 * b + t) % 64 = omega (arith, lt) in
    one-bit bits b (64 * b + t) here (subst (λ (n : ℕ). bit_at (get_or bits b 0) n ≡ 1) low one)

unset-at : (bits : List ℕ) (b t : ℕ) → t < 64 → bit_at (get_or bits b 0) t ≡ 0 → bit bits (64 * b + t) ≡ false
unset-at bits b t lt none =
    let here : (64 * b + t) / 64 ≡ b = omega (arith, lt) in
    let low : t ≡ (64 * b + t) % 64 = omega (arith, lt) in
    zero-bit bits b (64 * b + t) here (subst (λ (n : ℕ). bit_at (get_or bits b 0) n ≡ 0) low none)

-- the lowest bit that both blocks have
pub common-there : (one other : List ℕ) (b : ℕ) → get_or one b 0 < 2 ^ 64 → 0 < bit_and (get_or one b 0) (get_or other b 0)
    → (bit one (64 * b + trailing_zeros w64 (bit_and (get_or one b 0) (get_or other b 0))) ≡ true)
    × (bit other (64 * b + trailing_zeros w64 (bit_and (get_or one b 0) (get_or other b 0))) ≡ true)
common-there one other b small some =
    let x = get_or one b 0 in
    let y = get_or other b 0 in
    let t = trailing_zeros w64 (bit_and x y) in
    let lowest = bit_at-trailing_zeros w64 (bit_and x y) some (omega (arith, small, and_le_l x y)) in
    let within : t < 64 = lowest.0 in (
      set-at one b t within (omega (arith, lowest.1, bit_at_and x y t, bit_at-lt x t, bit_at-lt y t)),
      set-at other b t within (omega (arith, lowest.1, bit_at_and x y t, bit_at-lt x t, bit_at-lt y t)),
    )

-- blocks without one
pub common-none : (one other : List ℕ) (b i : ℕ) → bit_and (get_or one b 0) (get_or other b 0) ≡ 0 → 64 * b ≤ i → i < 64 * (b + 1) → bit one i ≡ true → bit other i ≡ false
common-none one other b i empty low high on =
    let x = get_or one b 0 in
    let y = get_or other b 0 in
    let here : i / 64 ≡ b = omega (arith, low, high) in
    let none : bit_at (bit_and x y) (i % 64) ≡ 0 = ap (λ (n : ℕ). bit_at n (i % 64)) empty ∙ bit_at-zero (i % 64) in
    zero-bit other b i here (omega (arith, none, bit_at_and x y (i % 64), bit-one one b i here on, bit_at-lt y (i % 64)))

-- the lowest bit that the first block has alone
pub missing-there : (one other : List ℕ) (b : ℕ) → get_or one b 0 < 2 ^ 64 → get_or other b 0 < 2 ^ 64 → 0 < bit_and (get_or one b 0) (bit_not w64 (get_or other b 0))
    → (bit one (64 * b + trailing_zeros w64 (bit_and (get_or one b 0) (bit_not w64 (get_or other b 0)))) ≡ true)
    × (bit other (64 * b + trailing_zeros w64 (bit_and (get_or one b 0) (bit_not w64 (get_or other b 0)))) ≡ false)
missing-there one other b small other_small some =
    let x = get_or one b 0 in
    let y = get_or other b 0 in
    let z = bit_not w64 y in
    let t = trailing_zeros w64 (bit_and x z) in
    let lowest = bit_at-trailing_zeros w64 (bit_and x z) some (omega (arith, small, and_le_l x z)) in
    let within : t < 64 = lowest.0 in (
      set-at one b t within (omega (arith, lowest.1, bit_at_and x z t, bit_at-lt x t, bit_at-lt z t)),
      unset-at other b t within (omega (arith, lowest.1, bit_at_and x z t, bit_at_not w64 y t other_small within, bit_at-lt x t, bit_at-lt y t)),
    )

pub missing-none : (one other : List ℕ) (b i : ℕ) → get_or other b 0 < 2 ^ 64 → bit_and (get_or one b 0) (bit_not w64 (get_or other b 0)) ≡ 0
    → 64 * b ≤ i → i < 64 * (b + 1) → bit one i ≡ true → bit other i ≡ true
missing-none one other b i small empty low high on =
    let x = get_or one b 0 in
    let y = get_or other b 0 in
    let z = bit_not w64 y in
    let here : i / 64 ≡ b = omega (arith, low, high) in
    let none : bit_at (bit_and x z) (i % 64) ≡ 0 = ap (λ (n : ℕ). bit_at n (i % 64)) empty ∙ bit_at-zero (i % 64) in
    one-bit other b i here (omega (arith, none, bit_at_and x z (i % 64), bit_at_not w64 y (i % 64) small (omega arith), bit-one one b i here on, bit_at-lt y (i % 64)))

-- ---- the bits of both

pub record AreUnited (old other : List ℕ) (b : ℕ) (bits : List ℕ) : Type 0 where
  pub long : length bits ≡ length old
  pub done : (q : ℕ) → q < b → get_or bits q 0 ≡ bit_or (get_or old q 0) (get_or other q 0)
  pub rest : (q : ℕ) → b ≤ q → get_or bits q 0 ≡ get_or old q 0

pub united-first : (old other : List ℕ) → AreUnited old other 0 old
united-first old other = record { long = refl; done = λ q lt. absurd (omega (arith, lt)); rest = λ q le. refl }

pub united-next : (old other bits : List ℕ) (b : ℕ) → b < length bits → AreUnited old other b bits
    → AreUnited old other (b + 1) (set bits b (bit_or (get_or bits b 0) (get_or other b 0)))
united-next old other bits b inside are =
    let block = bit_or (get_or bits b 0) (get_or other b 0) in
    record {
      long = length-set bits b block ∙ are.long;
      done = λ q lt. elim (cases_eq q b) [
        | inl same ↦
            ap (λ (n : ℕ). get_or (set bits b block) n 0) same ∙ get_or-set_same bits b block 0 inside
            ∙ ap (λ (n : ℕ). bit_or n (get_or other b 0)) (are.rest b (omega arith)) ∙ ap (λ (n : ℕ). bit_or (get_or old n 0) (get_or other n 0)) (sym same)
        | inr else ↦ get_or-set_other bits b q block 0 else ∙ are.done q (omega (arith, lt, else))
      ];
      rest = λ q le. (let else : q ≢ b = omega (arith, le) in get_or-set_other bits b q block 0 else ∙ are.rest q (omega (arith, le)));
    }

or-bit : (x y k : ℕ) → (bit_at (bit_or x y) k == 1) ≡ ((bit_at x k == 1) || (bit_at y k == 1))
or-bit x y k = elim (cases_eq (bit_at x k) 1) [
  | inl one ↦
      let both : bit_at (bit_or x y) k ≡ 1 = omega (arith, bit_at_or x y k, one, bit_at-lt y k) in
      eq-eqb (bit_at (bit_or x y) k) 1 both ∙ sym (or_left (bit_at x k == 1) (bit_at y k == 1) (eq-eqb (bit_at x k) 1 one))
  | inr none ↦
      let same : bit_at (bit_or x y) k ≡ bit_at y k = omega (arith, bit_at_or x y k, none, bit_at-lt x k) in
      ap (λ (n : ℕ). n == 1) same ∙ ap (λ (b : Bool). b || (bit_at y k == 1)) (sym (ne_eqb (bit_at x k) 1 none))
]

pub united-all : (old other bits : List ℕ) (b : ℕ) → length old ≤ b → length old ≡ length other → AreUnited old other b bits → AreBoth old other bits
united-all old other bits b all same are i = elim (cases_lt (i / 64) b) [
  | inl lt ↦ ap (λ (n : ℕ). bit_at n (i % 64) == 1) (are.done (i / 64) lt) ∙ or-bit (get_or old (i / 64) 0) (get_or other (i / 64) 0) (i % 64)
  | inr past ↦
      bit-past bits i (omega (arith, past, all, are.long))
      ∙ ap (λ (x : Bool). x || false) (sym (bit-past old i (omega (arith, past, all))))
      ∙ ap (λ (x : Bool). bit old i || x) (sym (bit-past other i (omega (arith, past, all, same))))
]
