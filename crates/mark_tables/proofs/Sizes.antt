-- How many words the first live objects have together.
use Rattle.std.proofs.Common.{◌≡◌, ℕ, zero, suc, ◌+◌, ◌<◌, ◌≤◌, List, length, get_or, take, map, refl, ap, ◌∙◌, arith}
use Rattle.std.proofs.Math.ListN.{get_or-map}
use Rattle.std.proofs.lemmas.List.{length-map, take_all}
use Rattle.std.proofs.lemmas.List.Sums.{sum_by_more}
use Rattle.heap_layout.specs.Header.{size_of}
use Rattle.heap_layout.specs.declared.edition.Edition.{Edition}
use Rattle.heap_layout.specs.Heap.{Heap, Object, header_at, object_at, live, IsClosed}
use Rattle.mark_tables.specs.LiveWords.{size, live_words}

-- the k-th live object is the one at the k-th mark
pub live-at : (edition : Edition) (words marks : List ℕ) (k : ℕ) → get_or (map (object_at edition words) marks) k (object_at edition words 0) ≡ object_at edition words (get_or marks k 0)
live-at edition words marks k = get_or-map (object_at edition words) marks k 0

-- one object more
pub live_words-next : (edition : Edition) (words marks : List ℕ) (k : ℕ) → k < length marks
    → live_words (take (k + 1) (map (object_at edition words) marks)) ≡ live_words (take k (map (object_at edition words) marks)) + size_of (header_at edition words (get_or marks k 0))
live_words-next edition words marks k lt =
    sum_by_more size (map (object_at edition words) marks) k (object_at edition words 0) (omega (arith, length-map marks (object_at edition words)))
    ∙ ap (λ (o : Object). live_words (take k (map (object_at edition words) marks)) + size o) (live-at edition words marks k)

-- all objects
pub live_words-all : (edition : Edition) (words marks : List ℕ) (k : ℕ) → length marks ≤ k → live_words (take k (map (object_at edition words) marks)) ≡ live_words (map (object_at edition words) marks)
live_words-all edition words marks k le = ap live_words (take_all k (map (object_at edition words) marks) (omega (arith, length-map marks (object_at edition words))))

-- The live words are no more than the words: the live objects lie apart.
module _ (heap : Heap) (closed : IsClosed heap) where
  abbrev mark : ℕ → ℕ
  mark k = get_or heap.marks k 0

  abbrev size_at : ℕ → ℕ
  size_at k = size_of (header_at heap.edition heap.words (mark k))

  -- those below a mark are no more than the words below it
  pub words-below : (k : ℕ) → k < length heap.marks → live_words (take k (live heap)) ≤ mark k
  words-below zero lt = omega arith
  words-below (suc k) lt =
      let one : suc k ≡ k + 1 = omega arith in
      let low : k < length heap.marks = omega (arith, lt) in
      let more = live_words-next heap.edition heap.words heap.marks k low in
      let apart = closed.apart k (omega (arith, lt)) in
      rw one (omega (arith, more, words-below k low, apart))

  live_by : (n : ℕ) → length heap.marks ≡ n → live_words (live heap) ≤ length heap.words
  live_by zero none =
      let all = live_words-all heap.edition heap.words heap.marks 0 (omega (arith, none)) in
      omega (arith, all)
  live_by (suc n) many =
      let last : n < length heap.marks = omega (arith, many) in
      let more = live_words-next heap.edition heap.words heap.marks n last in
      let all = live_words-all heap.edition heap.words heap.marks (n + 1) (omega (arith, many)) in
      let placed = (closed.placed n 0 last).within in
      omega (arith, more, all, words-below n last, placed)

  pub live_fit : live_words (live heap) ≤ length heap.words
  live_fit = live_by (length heap.marks) refl
