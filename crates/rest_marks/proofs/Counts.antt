-- The offsets of blocks, and how many bits are set below a bit.
use Rattle.std.proofs.Common.{◌≡◌, ℕ, zero, suc, ◌+◌, ◌-◌, ◌*◌, ◌%◌, ◌^◌, ◌<◌, ◌≤◌, Bool, if◌then◌else◌, List, [], ◌∷◌, ◌++◌, min, length, get_or, count_ones, inl, inr, refl, sym, ap, ◌∙◌, arith, length-append}
use Rattle.std.proofs.lemmas.Bool.{cases_lt}
use Rattle.std.proofs.lemmas.List.{get_or_append_left, get_or-append_right}
use Rattle.heap_layout.specs.Bits.{bit}
use Rattle.mark_tables.specs.MarkBitmap.{passing, set_bits, AreOffsets}
use Rattle.mark_tables.specs.LiveWords.{live_below}
use Rattle.mark_tables.proofs.Counting.{passing-block}
use Rattle.mark_tables.proofs.Passing.{passing-below, passing-few}

-- the offsets of the first b blocks, and how many bits are set in these
pub record AreCountedTo (bits : List ℕ) (b total : ℕ) (counts : List ℕ) : Type 0 where
  pub long : length counts ≡ b
  pub count : total ≡ length (passing (bit bits) (64 * b))
  pub each : (q : ℕ) → q < b → get_or counts q 0 ≡ length (passing (bit bits) (64 * q))

pub counted-none : (bits : List ℕ) → AreCountedTo bits 0 0 []
counted-none bits = record { long = refl; count = refl; each = λ q lt. absurd (omega (arith, lt)) }

-- they are few
pub counted-few : (bits : List ℕ) (b : ℕ) → length (passing (bit bits) (64 * b)) ≤ 64 * b
counted-few bits b = passing-few (bit bits) (64 * b)

-- one offset more
pub counted-more : (bits counts : List ℕ) (b total : ℕ) → AreCountedTo bits b total counts → (q : ℕ) → q < b + 1
    → get_or (counts ++ total ∷ []) q 0 ≡ length (passing (bit bits) (64 * q))
counted-more bits counts b total are q lt = elim (cases_lt q b) [
  | inl old ↦ get_or_append_left counts (total ∷ []) 0 q (omega (arith, old, are.long)) ∙ are.each q old
  | inr last ↦
      let same : q ≡ b = omega (arith, lt, last) in
      let there : get_or (counts ++ total ∷ []) b 0 ≡ total = get_or-append_right counts (total ∷ []) b b 0 are.long (omega arith) ∙ ap (λ (n : ℕ). get_or (total ∷ []) n 0) (let e : b - b ≡ 0 = omega arith in e) in
      ap (λ (n : ℕ). get_or (counts ++ total ∷ []) n 0) same ∙ there ∙ are.count ∙ ap (λ (n : ℕ). length (passing (bit bits) (64 * n))) (sym same)
]

-- one block more
pub counted-next : (bits counts : List ℕ) (b total block : ℕ) → AreCountedTo bits b total counts → block < 2 ^ 64 → block ≡ get_or bits b 0
    → AreCountedTo bits (b + 1) (total + count_ones block) (counts ++ total ∷ [])
counted-next bits counts b total block are small here =
    let whole : get_or bits b 0 % 2 ^ 64 ≡ block = omega (arith, small, here) in
    let next : 64 * (b + 1) ≡ 64 * b + 64 = omega arith in
    record {
      long = omega (arith, length-append counts (total ∷ []), are.long);
      count = omega (arith, are.count, passing-block bits b 64 (omega arith), ap count_ones whole) ∙ ap (λ (n : ℕ). length (passing (bit bits) n)) (sym next);
      each = counted-more bits counts b total are;
    }

-- all blocks
pub counted-all : (bits counts : List ℕ) (b total : ℕ) → length bits ≤ 2 ^ 25 → b ≡ length bits → AreCountedTo bits b total counts → AreOffsets bits (counts ++ total ∷ [])
counted-all bits counts b total few all are = record {
  few = few;
  long = omega (arith, length-append counts (total ∷ []), are.long, all);
  before = λ q le. counted-more bits counts b total are q (omega (arith, le, all));
}

-- ---- how many bits are set below a bit

-- more below a higher bit
pub passing-more : (p : ℕ → Bool) (a k : ℕ) → length (passing p a) ≤ length (passing p (a + k))
passing-more p a zero = let e : a + 0 ≡ a = omega arith in rw e (omega arith)
passing-more p a (suc k) =
    let e : a + suc k ≡ suc (a + k) = omega arith in
    rw e (omega (arith, passing-more p a k, length-append (passing p (a + k)) (if p (a + k) then (a + k) ∷ [] else [])))

-- the bits below a bit that is at or above another one
pub below-more : (bits : List ℕ) (low high : ℕ) → low ≤ high → low ≤ 64 * length bits → length (passing (bit bits) low) ≤ live_below (set_bits bits) high
below-more bits low high le within =
    let n = 64 * length bits in
    let at = passing-below (bit bits) n high in
    let least : low + (min high n - low) ≡ min high n = omega arith in
    let more = passing-more (bit bits) low (min high n - low) in
    omega (arith, at, more, ap (λ (m : ℕ). length (passing (bit bits) m)) least)
