-- The object-start bits, set one after the other in blocks enough for all from-space words, and cut to those in use.
use Rattle.std.proofs.Common.{◌≡◌, ◌≢◌, ℕ, ◌+◌, ◌/◌, ◌%◌, ◌<◌, ◌≤◌, true, false, ◌==◌, List, length, get_or, take, replicate, refl, sym, ap, ◌∙◌, inl, inr, arith, length-take}
use Rattle.std.specs.Int.{bit_at}
use Rattle.std.proofs.lemmas.Bool.{cases_lt, cases_eq, both_ways}
use Rattle.std.proofs.lemmas.List.{length-map, length-replicate, get_or-take, get_or_past}
use Rattle.std.proofs.lemmas.List.Sums.{sum_by-take-le}
use Rattle.std.proofs.lemmas.Nat.Bits.{bit_at-zero}
use Rattle.heap_layout.specs.Bits.{bit}
use Rattle.heap_layout.specs.Header.{size_of}
use Rattle.heap_layout.specs.Heap.{Heap, header_at, object_at, live, IsClosed}
use Rattle.mark_tables.specs.LiveWords.{size, live_words}
use Rattle.mark_tables.specs.SlidStarts.{AreStarts}
use Rattle.mark_tables.proofs.Runs.{zeros-bit}
use Rattle.mark_tables.proofs.Sizes.{words-below, live_words-next, live_words-all, live_fit}

-- the start bits of the first k live objects are set, and no others; the next object starts at `new_index`
pub record AreStartsOf (heap : Heap) (k new_index : ℕ) (bits : List ℕ) : Type 0 where
  pub next : new_index ≡ live_words (take k (live heap))
  pub long : length bits ≡ (length heap.words + 63) / 64
  pub there : (j : ℕ) → j < k → bit bits (live_words (take j (live heap))) ≡ true
  pub only : (i : ℕ) → bit bits i ≡ true → (j : ℕ) × (j < k) × (i ≡ live_words (take j (live heap)))

-- before the first object
pub starts-none : (heap : Heap) (n : ℕ) → n ≡ (length heap.words + 63) / 64 → AreStartsOf heap 0 0 (replicate n 0)
starts-none heap n long = record {
  next = refl;
  long = length-replicate {A = ℕ} n 0 ∙ long;
  there = λ j lt. absurd (omega (arith, lt));
  only = λ i holds. absurd (both_ways (bit (replicate n 0) i) (zeros-bit n i) holds);
}

-- the next object starts within the blocks
pub start-room : (heap : Heap) → IsClosed heap → (k new_index : ℕ) → k < length heap.marks → new_index ≡ live_words (take k (live heap)) → new_index < length heap.words
start-room heap closed k new_index lt at = omega (arith, at, words-below heap closed k lt, (closed.placed k 0 lt).within)

-- one object more
pub starts-next : (heap : Heap) (k size new_index : ℕ) (old new : List ℕ) → k < length heap.marks → size_of (header_at heap.edition heap.words (get_or heap.marks k 0)) ≡ size
    → AreStartsOf heap k new_index old → length new ≡ length old → bit new new_index ≡ true → ((i : ℕ) → i ≢ new_index → bit new i ≡ bit old i)
    → AreStartsOf heap (k + 1) (new_index + size) new
starts-next heap k size new_index old new lt sized are long here others = record {
  next = omega (arith, are.next, sized, live_words-next heap.edition heap.words heap.marks k lt);
  long = long ∙ are.long;
  there = λ j le. elim (cases_lt j k) [
    | inl before ↦
        let start = live_words (take j (live heap)) in
        elim (cases_eq start new_index) [
          | inl same ↦ ap (bit new) same ∙ here
          | inr other ↦ others start other ∙ are.there j before
        ]
    | inr last ↦
        let same : j ≡ k = omega (arith, le, last) in
        ap (λ (n : ℕ). bit new (live_words (take n (live heap)))) same ∙ ap (bit new) (sym are.next) ∙ here
  ];
  only = λ i holds. elim (cases_eq i new_index) [
    | inl same ↦ (k, omega arith, same ∙ are.next)
    | inr other ↦ let s = are.only i (sym (others i other) ∙ holds) in (s.0, omega (arith, s.1), s.2)
  ];
}

-- the bits of the first n blocks are kept
bit-kept : (bits : List ℕ) (n i : ℕ) → i / 64 < n → bit (take n bits) i ≡ bit bits i
bit-kept bits n i lt = ap (λ (x : ℕ). bit_at x (i % 64) == 1) (get_or-take n bits (i / 64) 0 lt)

-- no bit is set after them
bit-cut : (bits : List ℕ) (n i : ℕ) → n ≤ i / 64 → bit (take n bits) i ≡ false
bit-cut bits n i le =
    ap (λ (x : ℕ). bit_at x (i % 64) == 1) (get_or_past (take n bits) (i / 64) 0 (omega (arith, le, length-take n bits)))
    ∙ ap (λ (x : ℕ). x == 1) (bit_at-zero (i % 64))

-- all objects, in as many blocks as the live words need
pub starts-all : (heap : Heap) → IsClosed heap → (k new_index n : ℕ) → k ≡ length heap.marks → n ≡ (new_index + 63) / 64
    → (bits : List ℕ) → AreStartsOf heap k new_index bits → AreStarts (live heap) (take n bits)
starts-all heap closed k new_index n last blocks bits are =
    let objects = live heap in
    let count : length objects ≡ length heap.marks = length-map heap.marks (object_at heap.edition heap.words) in
    let all : new_index ≡ live_words objects = are.next ∙ live_words-all heap.edition heap.words heap.marks k (omega (arith, last)) in
    record {
      long = omega (arith, length-take n bits, blocks, all, are.long, live_fit heap closed);
      there = λ j lt.
          let known : j < length heap.marks = omega (arith, lt, count) in
          let own = live_words-next heap.edition heap.words heap.marks j known in
          let within : live_words (take j objects) / 64 < n = omega (arith, own, sum_by-take-le size objects (j + 1), all, blocks) in
          bit-kept bits n (live_words (take j objects)) within ∙ are.there j (omega (arith, known, last));
      only = λ i holds. elim (cases_lt (i / 64) n) [
        | inl within ↦ let s = are.only i (sym (bit-kept bits n i within) ∙ holds) in (s.0, omega (arith, s.1, last, count), s.2)
        | inr past ↦ absurd (both_ways (bit (take n bits) i) (bit-cut bits n i past) holds)
      ];
    }
