-- The bits of all words of the live objects are those of their indices, in whatever order they were set.
use Rattle.std.proofs.Common.{◌≡◌, ℕ, zero, suc, ◌+◌, ◌-◌, ◌*◌, ◌<◌, ◌≤◌, true, false, List, [], ◌∷◌, ◌++◌, length, get_or, take, map, inl, inr, refl, sym, ap, ◌∙◌, arith, append-nil}
use Rattle.std.specs.List.{range_with_len}
use Rattle.std.proofs.lemmas.Bool.{cases_Bool, cases_lt}
use Rattle.std.proofs.Math.ListN.{get_or-map}
use Rattle.std.proofs.lemmas.Grind.{flat_map-append}
use Rattle.std.proofs.lemmas.List.{length-map, take_all, take_more}
use Rattle.heap_layout.specs.declared.edition.Edition.{Edition}
use Rattle.heap_layout.specs.Bits.{bit}
use Rattle.heap_layout.specs.Header.{size_of}
use Rattle.heap_layout.specs.Heap.{Heap, Object, header_at, object_at, live}
use Rattle.rest_marks.specs.Reached.{IsSound}
use Rattle.mark_tables.specs.MarkBitmap.{passing, set_bits}
use Rattle.mark_tables.specs.LiveWords.{indices_of, live_indices}
use Rattle.mark_tables.proofs.Passing.{passing-all, passing-gap}
use Rattle.mark_tables.proofs.Runs.{edge}
use Rattle.rest_marks.specs.Reached.{IsWordOf}
use Rattle.rest_marks.proofs.Heads.{marks-above, marks-apart}

-- the indices of one object more
indices-next : (edition : Edition) (words marks : List ℕ) (k : ℕ) → k < length marks
    → live_indices (take (k + 1) (map (object_at edition words) marks)) ≡ live_indices (take k (map (object_at edition words) marks)) ++ indices_of (object_at edition words (get_or marks k 0))
indices-next edition words marks k lt =
    let objects = map (object_at edition words) marks in
    let more : take (k + 1) objects ≡ take k objects ++ get_or objects k (object_at edition words 0) ∷ [] = take_more objects k (object_at edition words 0) (omega (arith, lt, length-map marks (object_at edition words))) in
    ap live_indices more
    ∙ flat_map-append indices_of (take k objects) (get_or objects k (object_at edition words 0) ∷ [])
    ∙ ap (λ (xs : List ℕ). live_indices (take k objects) ++ xs) (append-nil (indices_of (get_or objects k (object_at edition words 0))))
    ∙ ap (λ (o : Object). live_indices (take k objects) ++ indices_of o) (get_or-map (object_at edition words) marks k 0)

module _ (heap : Heap) (sound : IsSound heap) (bits : List ℕ)
    (run : (k j : ℕ) → k < length heap.marks → IsWordOf heap.edition heap.words (get_or heap.marks k 0) j → bit bits j ≡ true)
    (only : (j : ℕ) → bit bits j ≡ true → (k : ℕ) × (k < length heap.marks) × IsWordOf heap.edition heap.words (get_or heap.marks k 0) j) where
  -- an object begins behind those before it
  edge-le : (k : ℕ) → k < length heap.marks → edge heap k ≤ get_or heap.marks k 0
  edge-le zero lt = omega arith
  edge-le (suc k) lt = marks-apart heap sound k (suc k) (omega arith) lt

  -- an object ends at or before the end of the first ones to which it belongs
  edge-above : (k l : ℕ) → l < k → k ≤ length heap.marks → get_or heap.marks l 0 + size_of (header_at heap.edition heap.words (get_or heap.marks l 0)) ≤ edge heap k
  edge-above zero l order le = absurd (omega (arith, order))
  edge-above (suc k) l order le = elim (cases_lt l k) [
    | inl lower ↦ (let apart = marks-apart heap sound l k lower (omega (arith, le)) in omega (arith, apart))
    | inr last ↦
        let same : l ≡ k = omega (arith, order, last) in
        omega (arith, ap (λ (n : ℕ). get_or heap.marks n 0 + size_of (header_at heap.edition heap.words (get_or heap.marks n 0))) same)
  ]

  -- the last object ends within the words
  edge-within : (k : ℕ) → k ≤ length heap.marks → edge heap k ≤ length heap.words
  edge-within zero le = omega arith
  edge-within (suc k) le = (sound.placed k 0 (omega (arith, le))).within

  -- no bit is set between the end of the first objects and the next one
  gap-before : (k : ℕ) → k < length heap.marks → (j : ℕ) → edge heap k ≤ j → j < get_or heap.marks k 0 → bit bits j ≡ false
  gap-before k lt j low high = elim (cases_Bool (bit bits j)) [
    | inr unset ↦ unset
    | inl set ↦ absurd (
        let at = only j set in
        elim (cases_lt at.0 k) [
          | inl lower ↦ (let above = edge-above k at.0 lower (omega (arith, lt)) in omega (arith, above, low, at.2.1))
          | inr higher ↦ elim (cases_lt k at.0) [
            | inl further ↦ (let above = marks-above heap sound k at.0 further at.1 in omega (arith, above, high, at.2.0))
            | inr same ↦ (let e : at.0 ≡ k = omega (arith, higher, same) in omega (arith, ap (λ (n : ℕ). get_or heap.marks n 0) e, high, at.2.0))
          ]
        ])
  ]

  -- the bits of the first objects
  live-runs : (k : ℕ) → k ≤ length heap.marks → passing (bit bits) (edge heap k) ≡ live_indices (take k (live heap))
  live-runs zero le = refl
  live-runs (suc k) le =
      let lt : k < length heap.marks = omega (arith, le) in
      let start = get_or heap.marks k 0 in
      let size = size_of (header_at heap.edition heap.words start) in
      let before = edge heap k in
      let order = edge-le k lt in
      let gap : before + (start - before) ≡ start = omega (arith, order) in
      let one : k + 1 ≡ suc k = omega arith in
      let kept : passing (bit bits) start ≡ live_indices (take k (live heap)) =
      ap (passing (bit bits)) (sym gap) ∙ passing-gap (bit bits) before (start - before) (λ j low high. gap-before k lt j low (omega (arith, high, gap))) ∙ live-runs k (omega (arith, le)) in
      passing-all (bit bits) start size (λ j from below. run k j lt (from, below))
      ∙ ap (λ (xs : List ℕ). xs ++ range_with_len start size) kept
      ∙ sym (indices-next heap.edition heap.words heap.marks k lt)
      ∙ ap (λ (n : ℕ). live_indices (take n (live heap))) one

  pub all-runs : length heap.words ≤ 64 * length bits → set_bits bits ≡ live_indices (live heap)
  all-runs room =
      let k = length heap.marks in
      let before = edge heap k in
      let within = edge-within k (omega arith) in
      let gap : before + (64 * length bits - before) ≡ 64 * length bits = omega (arith, within, room) in
      let none : (j : ℕ) → before ≤ j → j < before + (64 * length bits - before) → bit bits j ≡ false = λ j low high.
      elim (cases_Bool (bit bits j)) [
        | inr unset ↦ unset
        | inl set ↦ absurd (let at = only j set in let above = edge-above k at.0 at.1 (omega arith) in omega (arith, above, low, at.2.1))
      ] in
      ap (passing (bit bits)) (sym gap)
      ∙ passing-gap (bit bits) before (64 * length bits - before) none
      ∙ live-runs k (omega arith)
      ∙ ap live_indices (take_all k (live heap) (omega (arith, length-map heap.marks (object_at heap.edition heap.words))))
