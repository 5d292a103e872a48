-- The bits of live words, in parts.
use Rattle.std.proofs.Common.{◌≡◌, ℕ, ◌+◌, ◌*◌, ◌/◌, ◌%◌, ◌<◌, ◌≤◌, ◌==◌, ◌⊎◌, true, false, List, length, get_or, inl, inr, sym, ap, subst, ◌∙◌, arith}
use Rattle.std.specs.Int.{bit_at}
use Rattle.std.proofs.lemmas.Bool.{cases_Bool, cases_lt, cases_eq, both_ways, eqb-true, eq-eqb}
use Rattle.heap_layout.specs.declared.edition.Edition.{Edition}
use Rattle.heap_layout.specs.Bits.{bit}
use Rattle.heap_layout.specs.Header.{size_of}
use Rattle.heap_layout.specs.Heap.{header_at}
use Rattle.rest_marks.specs.Kept.{AreKeptIn}
use Rattle.rest_marks.specs.LiveBits.{AreLiveTo, IsLiveBlock}
use Rattle.rest_marks.specs.Reached.{IsWordOf}
use Rattle.rest_marks.proofs.Bounding.{bit-inside}

-- a bit of block b
block-bit : (bits : List ℕ) (b n : ℕ) → n < 64 → bit bits (64 * b + n) ≡ (bit_at (get_or bits b 0) n == 1)
block-bit bits b n inside =
    let block : (64 * b + n) / 64 ≡ b = omega (arith, inside) in
    let place : (64 * b + n) % 64 ≡ n = omega (arith, inside) in
    ap (λ (m : ℕ). bit_at (get_or bits m 0) ((64 * b + n) % 64) == 1) block ∙ ap (λ (m : ℕ). bit_at (get_or bits b 0) m == 1) place

module _ (edition : Edition) (words heads : List ℕ) (kept : AreKeptIn edition words heads 0 (64 * length heads)) where
  ends : (i j : ℕ) → bit heads i ≡ true → bit heads j ≡ true → i < j → i + size_of (header_at edition words i) ≤ j
  ends i j one two order = kept.apart i (omega arith) (bit-inside heads i one) one j order two

  -- the objects before the last one that begins before a part have no words there
  pub live-first : (base first : ℕ) (part : List ℕ) → first ≤ base → (0 < first → bit heads first ≡ true) → ((n : ℕ) → bit part n ≡ false)
      → AreLiveTo edition words heads base first part
  live-first base first part below here none = record {
    set = λ n set. absurd (both_ways (bit part n) (none n) set);
    all = λ i n lt head inside of. absurd (let past = ends i first head (here (omega (arith, lt))) lt in omega (arith, past, below, of.1));
  }

  -- no bit of the next object is set
  pub live-free : (base next i : ℕ) (part : List ℕ) → AreLiveTo edition words heads base next part → next ≤ i → bit heads i ≡ true
      → (n : ℕ) → IsWordOf edition words i (base + n) → bit part n ≡ false
  live-free base next i part are order head n of = elim (cases_Bool (bit part n)) [
    | inl set ↦ absurd (let at = are.set n set in let past = ends at.0 i at.2 head (omega (arith, at.1, order)) in omega (arith, past, at.3.1, of.0))
    | inr unset ↦ unset
  ]

  -- one object more
  pub live-next : (base next i : ℕ) (old new : List ℕ) → AreLiveTo edition words heads base next old → next ≤ i → bit heads i ≡ true
      → ((j : ℕ) → next ≤ j → j < i → bit heads j ≡ false) → length new ≡ length old
      → ((n : ℕ) → n < 64 * length new → IsWordOf edition words i (base + n) → bit new n ≡ true)
      → ((n : ℕ) → bit old n ≡ true → bit new n ≡ true)
      → ((n : ℕ) → bit new n ≡ true → (bit old n ≡ true) ⊎ IsWordOf edition words i (base + n))
      → AreLiveTo edition words heads base (i + 1) new
  live-next base next i old new are order head none long inside stay only = record {
    set = λ n set. elim (only n set) [
      | inl before ↦ (let at = are.set n before in (at.0, omega (arith, at.1, order), at.2, at.3))
      | inr of ↦ (i, omega arith, head, of)
    ];
    all = λ j n lt there within of. elim (cases_lt j next) [
      | inl low ↦ stay n (are.all j n low there (omega (arith, within, long)) of)
      | inr above ↦ elim (cases_eq j i) [
        | inl same ↦ inside n within (subst (λ (m : ℕ). IsWordOf edition words m (base + n)) same of)
        | inr other ↦ absurd (both_ways (bit heads j) (none j above (omega (arith, lt, other))) there)
      ]
    ];
  }

  -- all objects that begin before the end of the part
  pub live-last : (base next limit : ℕ) (part : List ℕ) → AreLiveTo edition words heads base next part → limit ≡ base + 64 * length part
      → ((j : ℕ) → next ≤ j → j < limit → bit heads j ≡ false) → AreLiveTo edition words heads base limit part
  live-last base next limit part are end none = record {
    set = λ n set. (let at = are.set n set in (at.0, omega (arith, at.3.0, bit-inside part n set, end), at.2, at.3));
    all = λ i n lt head within of. elim (cases_lt i next) [
      | inl low ↦ are.all i n low head within of
      | inr above ↦ absurd (both_ways (bit heads i) (none i above lt) head)
    ];
  }

-- block by block
pub live-block : (edition : Edition) (words heads : List ℕ) (start : ℕ) (part : List ℕ) → AreLiveTo edition words heads (64 * start) (64 * (start + length part)) part
    → (k : ℕ) → k < length part → IsLiveBlock edition words heads (start + k) (get_or part k 0)
live-block edition words heads start part are k within = record {
  set = λ n lt one.
      let at = are.set (64 * k + n) (block-bit part k n lt ∙ eq-eqb (bit_at (get_or part k 0) n) 1 one) in
      (at.0, at.2, (omega (arith, at.3.0), omega (arith, at.3.1)));
  all = λ i n lt head of.
      eqb-true (bit_at (get_or part k 0) n) 1 (sym (block-bit part k n lt)
      ∙ are.all i (64 * k + n) (omega (arith, of.0, lt, within)) head (omega (arith, lt, within)) (omega (arith, of.0), omega (arith, of.1)));
}

-- all blocks have the bits of all words
module _ (edition : Edition) (words heads bits : List ℕ) (live : (b : ℕ) → b < length bits → IsLiveBlock edition words heads b (get_or bits b 0)) where
  split : (j : ℕ) → 64 * (j / 64) + j % 64 ≡ j
  split j = omega arith

  pub blocks-run : (i j : ℕ) → bit heads i ≡ true → IsWordOf edition words i j → j < 64 * length bits → bit bits j ≡ true
  blocks-run i j head of within =
      let block = live (j / 64) (omega (arith, within)) in
      eq-eqb (bit_at (get_or bits (j / 64) 0) (j % 64)) 1 (block.all i (j % 64) (omega arith) head (omega (arith, of.0, split j), omega (arith, of.1, split j)))

  pub blocks-only : (j : ℕ) → bit bits j ≡ true → (i : ℕ) × (bit heads i ≡ true) × IsWordOf edition words i j
  blocks-only j set =
      let block = live (j / 64) (omega (arith, bit-inside bits j set)) in
      let at = block.set (j % 64) (omega arith) (eqb-true (bit_at (get_or bits (j / 64) 0) (j % 64)) 1 set) in
      (at.0, at.1, (omega (arith, at.2.0, split j), omega (arith, at.2.1, split j)))
