-- The last bit before each block, and the last head below which few bits are set.
use Rattle.std.proofs.Common.{◌≡◌, ℕ, suc, ◌+◌, ◌-◌, ◌*◌, ◌/◌, ◌%◌, ◌^◌, ◌<◌, ◌≤◌, ◌==◌, ◌&&◌, true, false, leb, w64, min, List, [], ◌∷◌, ◌++◌, length, get_or, inl, inr, refl, sym, ap, ◌∙◌, arith, length-append}
use Rattle.std.specs.Int.{bit_at, leading_zeros}
use Rattle.std.proofs.Math.Nat.{two-pow-succ}
use Rattle.std.proofs.lemmas.Bool.{cases_lt, both_ways, and_from, le-leb}
use Rattle.std.proofs.lemmas.List.{get_or_append_left, get_or-append_right}
use Rattle.std.proofs.lemmas.Nat.{leading_top}
use Rattle.std.proofs.lemmas.Nat.Bits.{bit_at_above, bit_at_cat_high}
use Rattle.heap_layout.specs.Bits.{bit}
use Rattle.mark_tables.specs.MarkBitmap.{passing, set_bits, AreOffsets}
use Rattle.mark_tables.specs.LiveWords.{live_below}
use Rattle.mark_tables.proofs.Passing.{passing-below}
use Rattle.rest_marks.specs.Starts.{IsStart, AreStarts}
use Rattle.rest_marks.proofs.Bounding.{bit-empty, bit-inside}
use Rattle.rest_marks.proofs.Counts.{passing-more, below-more}

-- the last bit of a block that is set
pub last-bit : (block : ℕ) → 0 < block → block < 2 ^ 64 → (bit_at block (63 - leading_zeros w64 block) ≡ 1) × ((k : ℕ) → 63 - leading_zeros w64 block < k → bit_at block k ≡ 0)
last-bit block some small =
    let top = leading_top 64 block some small in
    let j = top.0 in
    let at : 63 - leading_zeros w64 block ≡ j = omega (arith, top.1) in
    let rest : block ≡ 1 * 2 ^ j + (block - 2 ^ j) = omega (arith, top.2) in
    let low : block - 2 ^ j < 2 ^ j = omega (arith, top.2, top.3, two-pow-succ j) in
    let none : j - j ≡ 0 = omega arith in
    let one : bit_at block j ≡ 1 = ap (λ (n : ℕ). bit_at n j) rest ∙ bit_at_cat_high 1 j (block - 2 ^ j) j low (omega arith) ∙ ap (bit_at 1) none in
    (ap (bit_at block) at ∙ one, λ k lt. bit_at_above block (suc j) k top.3 (omega (arith, at, lt)))

-- ---- making them

-- the bits of block b
at-place : (bits : List ℕ) (b k : ℕ) → k < 64 → bit bits (64 * b + k) ≡ (bit_at (get_or bits b 0) k == 1)
at-place bits b k lt =
    let block : (64 * b + k) / 64 ≡ b = omega (arith, lt) in
    let place : (64 * b + k) % 64 ≡ k = omega (arith, lt) in
    ap (λ (n : ℕ). bit_at (get_or bits n 0) ((64 * b + k) % 64) == 1) block ∙ ap (λ (n : ℕ). bit_at (get_or bits b 0) n == 1) place

-- behind a block of zeros it is the same one
pub start-same : (heads : List ℕ) (b start : ℕ) → IsStart heads b start → get_or heads b 0 ≡ 0 → IsStart heads (b + 1) start
start-same heads b start is empty =
    let none : (j : ℕ) → 64 * b ≤ j → j < 64 * (b + 1) → bit heads j ≡ false = λ j from lt.
    let block : j / 64 ≡ b = omega (arith, from, lt) in
    bit-empty heads j (ap (λ (n : ℕ). get_or heads n 0) block ∙ empty) in
    record {
      before = omega (arith, is.before);
      here = λ j lt set. elim (cases_lt j (64 * b)) [
        | inl low ↦ is.here j low set
        | inr from ↦ absurd (both_ways (bit heads j) (none j from lt) set)
      ];
      last = λ j above lt. elim (cases_lt j (64 * b)) [
        | inl low ↦ is.last j above low
        | inr from ↦ none j from lt
      ];
    }

-- behind a block in which bits are set, it is the last of these
pub start-set : (heads : List ℕ) (b k : ℕ) → k < 64 → bit_at (get_or heads b 0) k ≡ 1 → ((l : ℕ) → k < l → bit_at (get_or heads b 0) l ≡ 0) → IsStart heads (b + 1) (64 * b + k)
start-set heads b k small set none = record {
  before = omega (arith, small);
  here = λ j lt other. at-place heads b k small ∙ ap (λ (n : ℕ). n == 1) set;
  last = λ j above lt.
      let l = j - 64 * b in
      let at : j ≡ 64 * b + l = omega (arith, above) in
      ap (bit heads) at ∙ at-place heads b l (omega (arith, lt, at)) ∙ ap (λ (n : ℕ). n == 1) (none l (omega (arith, above, at)));
}

-- those of the first b blocks, and that of block b
pub record AreStartsTo (heads : List ℕ) (b start : ℕ) (starts : List ℕ) : Type 0 where
  pub long : length starts ≡ b
  pub each : (q : ℕ) → q < b → IsStart heads q (get_or starts q 0)
  pub next : IsStart heads b start

pub starts-none : (heads : List ℕ) → AreStartsTo heads 0 0 []
starts-none heads = record {
  long = refl;
  each = λ q lt. absurd (omega (arith, lt));
  next = record { before = omega arith; here = λ j lt set. absurd (omega (arith, lt)); last = λ j above lt. absurd (omega (arith, lt)) };
}

pub starts-more : (heads starts : List ℕ) (b start next : ℕ) → AreStartsTo heads b start starts → IsStart heads (b + 1) next → AreStartsTo heads (b + 1) next (starts ++ start ∷ [])
starts-more heads starts b start next are behind = record {
  long = omega (arith, length-append starts (start ∷ []), are.long);
  each = λ q lt. elim (cases_lt q b) [
    | inl old ↦ rw (get_or_append_left starts (start ∷ []) 0 q (omega (arith, old, are.long))) (are.each q old)
    | inr last ↦
        let same : q ≡ b = omega (arith, lt, last) in
        let first : b - b ≡ 0 = omega arith in
        let there : get_or (starts ++ start ∷ []) b 0 ≡ start = get_or-append_right starts (start ∷ []) b b 0 are.long (omega arith) ∙ ap (λ (n : ℕ). get_or (start ∷ []) n 0) first in
        rw (same, there) are.next
  ];
  next = behind;
}

pub starts-all : (heads starts : List ℕ) (b start : ℕ) → b ≡ length heads → AreStartsTo heads b start starts → AreStarts heads starts
starts-all heads starts b start all are = record {
  long = omega (arith, all, are.long);
  each = λ q lt. are.each q (omega (arith, all, lt));
}

-- ---- no bit is set between a bit and another one, if none is in the block of the other

pub none-between : (heads starts : List ℕ) (b i end : ℕ) → AreStarts heads starts → b < length heads → get_or starts b 0 ≤ i
    → ((j : ℕ) → i < j → 64 * b ≤ j → j < end → bit heads j ≡ false) → (j : ℕ) → i < j → j < end → bit heads j ≡ false
none-between heads starts b i end are known le none j above lt = elim (cases_lt j (64 * b)) [
  | inl low ↦ (are.each b known).last j (omega (arith, le, above)) low
  | inr from ↦ none j above from lt
]

-- a bit is set between, if the last one before the block lies behind the first
pub some-between : (heads starts : List ℕ) (b i end : ℕ) → AreStarts heads starts → b < length heads → 64 * b < end → bit heads i ≡ true → i < get_or starts b 0
    → (j : ℕ) × (i < j) × (j < end) × (bit heads j ≡ true)
some-between heads starts b i end are known lt set above =
    let is = are.each b known in
    let low : i < 64 * b = omega (arith, above, is.before) in
    (get_or starts b 0, above, omega (arith, is.before, lt), is.here i low set)

-- ---- the last head below which few bits are set

-- below each head from bit i on more than n are set
abbrev pub IsLastFrom : List ℕ → List ℕ → ℕ → ℕ → Type 0
IsLastFrom heads bits n i = (j : ℕ) → i ≤ j → bit heads j ≡ true → n < live_below (set_bits bits) j

abbrev pub IsNot : List ℕ → List ℕ → ℕ → ℕ → Type 0
IsNot heads bits n i = (bit heads i && leb (live_below (set_bits bits) i) n) ≡ false

-- so it is behind the block in which the number of set bits passes n
pub from-behind : (heads bits counts : List ℕ) (n b i : ℕ) → AreOffsets bits counts → b < length bits → n < get_or counts (b + 1) 0 → i ≡ 64 * b + 64 → IsLastFrom heads bits n i
from-behind heads bits counts n b i offsets known above at j from set =
    let before = offsets.before (b + 1) (omega (arith, known)) in
    let more = below-more bits (64 * (b + 1)) j (omega (arith, from, at)) (omega (arith, known)) in
    omega (arith, before, more, above)

-- and one bit further down, if that is not it
pub from-bit : (heads bits : List ℕ) (n i : ℕ) → IsLastFrom heads bits n (i + 1) → IsNot heads bits n i → IsLastFrom heads bits n i
from-bit heads bits n i last fails j from set = elim (cases_lt i j) [
  | inl far ↦ last j (omega (arith, far)) set
  | inr near ↦
      let here : j ≡ i = omega (arith, from, near) in
      elim (cases_lt n (live_below (set_bits bits) j)) [
        | inl more ↦ more
        | inr few ↦ absurd (both_ways (bit heads i && leb (live_below (set_bits bits) i) n) fails
            (and_from (bit heads i) (leb (live_below (set_bits bits) i) n) (sym (ap (bit heads) here) ∙ set)
            (le-leb (live_below (set_bits bits) i) n (let same = ap (live_below (set_bits bits)) here in omega (arith, same, few)))))
      ]
]

-- or one block, if it is empty
pub from-block : (heads bits counts : List ℕ) (n b i : ℕ) → AreOffsets bits counts → b < length bits → n < get_or counts (b + 1) 0 → get_or heads b 0 ≡ 0 → i ≡ 64 * b → IsLastFrom heads bits n i
from-block heads bits counts n b i offsets known above empty at j from set = elim (cases_lt j (64 * b + 64)) [
  | inl lt ↦ absurd (
      let block : j / 64 ≡ b = omega (arith, from, at, lt) in
      both_ways (bit heads j) (bit-empty heads j (ap (λ (m : ℕ). get_or heads m 0) block ∙ empty)) set)
  | inr far ↦ from-behind heads bits counts n b (64 * b + 64) offsets known above refl j far set
]

-- the last head below which at most n bits are set
pub record IsLastHead (heads bits : List ℕ) (n i : ℕ) : Type 0 where
  pub known : i < 64 * length heads
  pub here : bit heads i ≡ true
  pub below : live_below (set_bits bits) i ≤ n
  pub last : (j : ℕ) → i < j → bit heads j ≡ true → n < live_below (set_bits bits) j

-- it is the last one before a block, if none in that block or behind it is
pub start-last : (heads bits counts starts : List ℕ) (n b i s : ℕ) → AreOffsets bits counts → AreStarts heads starts → length heads ≡ length bits → b < length bits → get_or counts b 0 ≤ n
    → (some : (k : ℕ) × (bit heads k ≡ true) × (live_below (set_bits bits) k ≤ n)) → i ≤ 64 * b → IsLastFrom heads bits n i → s ≡ get_or starts b 0 → IsLastHead heads bits n s
start-last heads bits counts starts n b i s offsets are same known few some at last is =
    let start = are.each b (omega (arith, known, same)) in
    let k = some.0 in
    let low : k < 64 * b = elim (cases_lt k (64 * b)) [
      | inl lt ↦ lt
      | inr le ↦ absurd (let far = last k (omega (arith, le, at)) some.1 in omega (arith, far, some.2))
    ] in
    let here : bit heads s ≡ true = ap (bit heads) is ∙ start.here k low some.1 in
    let inside : s < 64 * b = omega (arith, start.before, is, low) in
    let least : min s (64 * length bits) ≡ s = omega (arith, inside, known) in
    let below : live_below (set_bits bits) s ≡ length (passing (bit bits) s) = passing-below (bit bits) (64 * length bits) s ∙ ap (λ (m : ℕ). length (passing (bit bits) m)) least in
    let whole : s + (64 * b - s) ≡ 64 * b = omega (arith, inside) in
    let more = passing-more (bit bits) s (64 * b - s) in
    record {
      known = bit-inside heads s here;
      here = here;
      below = omega (arith, below, more, ap (λ (m : ℕ). length (passing (bit bits) m)) whole, offsets.before b (omega (arith, known)), few);
      last = λ j above set. elim (cases_lt j (64 * b)) [
        | inl lt ↦ absurd (both_ways (bit heads j) (start.last j (omega (arith, above, is)) lt) set)
        | inr le ↦ last j (omega (arith, le, at)) set
      ];
    }
