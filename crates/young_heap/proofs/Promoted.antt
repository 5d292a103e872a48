-- What is promoted after a young collection is old then: the premise of the next one.
use Rattle.std.proofs.Common.{◌≡◌, ℕ, zero, suc, ◌+◌, ◌-◌, ◌*◌, ◌<◌, ◌≤◌, true, List, length, get_or, take, inl, inr, sym, ap, subst, ◌∙◌, arith}
use Rattle.std.proofs.lemmas.Bool.{cases_eq, cases_lt, cases_order}
use Rattle.std.proofs.lemmas.List.{length-map}
use Rattle.std.proofs.lemmas.List.Sums.{sum_by-take-le}
use Rattle.heap_layout.specs.declared.edition.Edition.{Edition}
use Rattle.heap_layout.specs.Bits.{bit}
use Rattle.heap_layout.specs.Header.{size_of}
use Rattle.heap_layout.specs.Heap.{Heap, Object, header_at, object_at, live}
use Rattle.page_plan.specs.Sliding.{size, live_words}
use Rattle.page_plan.proofs.Objects.{live_words-next, live_words-all}
use Rattle.page_plan.proofs.Ranks.{covered}
use Rattle.reachability.specs.Queue.{has}
use Rattle.reachability.proofs.Queues.{place-of, has-at}
use Rattle.reachability.proofs.Rising.{has-contained, rises, rises-same}
use Rattle.reachability.proofs.Indices.{index-there}
use Rattle.rest_marks.specs.Reached.{IsSound}
use Rattle.rest_slide.specs.Settled.{places, collected}
use Rattle.rest_marks.specs.Surveys.{marks_of}
use Rattle.rest_marks.proofs.Bounding.{bit-inside}
use Rattle.stopped_heap.proofs.Collected.{many, place-at, header-there}
use Rattle.rest_marks.proofs.Heads.{head-number, mark-set, marks-above, marks-apart}
use Rattle.rest_marks.proofs.Surveying.{marks-rising}
use Rattle.young_heap.specs.Rows.{IsInRow, here, behind}
use Rattle.young_heap.specs.Young.{AreKeptBelow, AreOld}
use Rattle.young_heap.proofs.Gathering.{start-behind}
use Rattle.young_heap.proofs.Walking.{row-some}

module _ (edition : Edition) (words roots heads next : List ℕ) (old : ℕ) (after : List ℕ)
    (sound : IsSound (record { edition = edition; words = words; marks = marks_of heads; roots = roots }))
    (old_are : AreOld edition words heads old) (kept : AreKeptBelow old heads next) where
  abbrev heap : Heap
  heap = record { edition = edition; words = words; marks = marks_of heads; roots = roots }

  abbrev objects : List Object
  objects = live heap

  abbrev n : ℕ
  n = length (marks_of heads)

  abbrev mark : ℕ → ℕ
  mark k = get_or (marks_of heads) k 0

  abbrev place : ℕ → ℕ
  place k = live_words (take k objects)

  abbrev size_at : ℕ → ℕ
  size_at i = size_of (header_at edition words i)

  own : (k : ℕ) → k < n → place (k + 1) ≡ place k + size_at (mark k)
  own k lt = live_words-next edition words (marks_of heads) k lt

  -- an old object stays where it is
  stays : (k : ℕ) → k < n → mark k < old → place k ≡ mark k
  stays zero lt low =
      let at = old_are.row 0 (omega (arith, low)) in
      let none : at.0 ≡ 0 = omega (arith, at.2.0) in
      let number = head-number heads at.0 at.1 in
      let first : mark 0 ≡ 0 = elim (cases_eq number.0 0) [
        | inl same ↦ sym (ap mark same) ∙ number.2 ∙ none
        | inr other ↦ absurd (let up = marks-above heap sound 0 number.0 (omega (arith, other)) number.1 in omega (arith, up, number.2, none))
      ] in
      sym first
  stays (suc k) lt low =
      let one : suc k ≡ k + 1 = omega arith in
      let less : k < n = omega (arith, lt) in
      let up = marks-above heap sound k (suc k) (omega arith) lt in
      let before : mark k < old = omega (arith, up, low) in
      let apart = marks-apart heap sound k (suc k) (omega arith) lt in
      let end = mark k + size_at (mark k) in
      let set = start-behind edition words heads old old_are (mark k) before (mark-set heads k less) (omega (arith, apart, low)) in
      let number = head-number heads end set in
      let same : mark (suc k) ≡ end = elim (cases_order number.0 (suc k)) [
        | inl equal ↦ sym (ap mark equal) ∙ number.2
        | inr (inl lower) ↦ absurd (elim (cases_eq number.0 k) [
          | inl equal ↦ (let e = ap mark equal in omega (arith, e, number.2))
          | inr other ↦ (let above = marks-above heap sound number.0 k (omega (arith, lower, other)) less in omega (arith, above, number.2))
        ])
        | inr (inr higher) ↦ absurd (let above = marks-above heap sound (suc k) number.0 higher number.1 in omega (arith, above, number.2, apart))
      ] in
      ap place one ∙ omega (arith, own k less, stays k less before, same)

  -- a young one does not come below
  above : (k : ℕ) → k < n → old ≤ mark k → old ≤ place k
  above zero lt high = elim (cases_lt 0 old) [
    | inr none ↦ omega (arith, none)
    | inl some ↦ absurd (
        let at = old_are.row 0 some in
        let number = head-number heads at.0 at.1 in
        elim (cases_eq number.0 0) [
          | inl same ↦ (let e = ap mark same in omega (arith, e, number.2, at.2.0, high, some))
          | inr other ↦ (let up = marks-above heap sound 0 number.0 (omega (arith, other)) number.1 in omega (arith, up, number.2, at.2.0))
        ])
  ]
  above (suc k) lt high =
      let one : suc k ≡ k + 1 = omega arith in
      let less : k < n = omega (arith, lt) in
      elim (cases_lt (mark k) old) [
        | inr up ↦ (let e = ap place one in omega (arith, above k less up, own k less, e))
        | inl low ↦
            let place_is = stays k less low in
            let fits = old_are.inside (mark k) low (mark-set heads k less) in
            let ends : old ≤ mark k + size_at (mark k) = elim (cases_lt (mark k + size_at (mark k)) old) [
              | inr done ↦ done
              | inl short ↦ absurd (
                  let set = start-behind edition words heads old old_are (mark k) low (mark-set heads k less) short in
                  let number = head-number heads (mark k + size_at (mark k)) set in
                  elim (cases_order number.0 (suc k)) [
                    | inl same ↦ (let e = ap mark same in omega (arith, e, number.2, high, short))
                    | inr (inl lower) ↦ elim (cases_eq number.0 k) [
                      | inl same ↦ (let e = ap mark same in omega (arith, e, number.2))
                      | inr other ↦ (let up = marks-above heap sound number.0 k (omega (arith, lower, other)) less in omega (arith, up, number.2))
                    ]
                    | inr (inr higher) ↦ (let up = marks-above heap sound (suc k) number.0 higher number.1 in omega (arith, up, number.2, high, short))
                  ])
            ] in
            let e = ap place one in
            omega (arith, own k less, place_is, ends, e)
      ]

  module _ (total : ℕ) (counted : total ≡ live_words objects) (same_headers : (i : ℕ) → i < total → header_at edition after i ≡ header_at edition (collected heap).words i)
      (starts : (j : ℕ) → old ≤ j → bit next j ≡ true → IsInRow edition after total old j) (all : (j : ℕ) → IsInRow edition after total old j → bit next j ≡ true) where
    place-low : (k : ℕ) → k < n → place k < total
    place-low k lt =
        let few = sum_by-take-le size objects (k + 1) in
        omega (arith, own k lt, few, counted)

    sized : (k : ℕ) → k < n → size_of (header_at edition after (place k)) ≡ size_at (mark k)
    sized k lt = ap size_of (same_headers (place k) (place-low k lt) ∙ header-there heap sound k lt)

    rise : (m k l : ℕ) → k + m ≡ l → l < n → place k ≤ place l
    rise zero k l at known = (let same : k ≡ l = omega (arith, at) in let e = ap place same in omega (arith, e))
    rise (suc m) k l at known =
        let less : k < n = omega (arith, at, known) in
        omega (arith, own k less, rise m (k + 1) l (omega (arith, at)) known)

    -- a later place is not below an earlier one
    places-below : (k l : ℕ) → k ≤ l → l < n → place k ≤ place l
    places-below k l le known = rise (l - k) k l (omega (arith, le)) known

    place-had : (k : ℕ) → k < n → has (places heap) (place k) ≡ true
    place-had k lt = subst (λ (m : ℕ). has (places heap) m ≡ true) (place-at heap sound k lt) (has-at (places heap) k (omega (arith, lt, many heap sound)))

    -- the row from a place on has places alone
    row-places : (i j : ℕ) → IsInRow edition after total i j → (k : ℕ) → k < n → place k ≡ i → has (places heap) j ≡ true
    row-places i j (here _ lt) k known at = subst (λ (m : ℕ). has (places heap) m ≡ true) at (place-had k known)
    row-places i j (behind _ _ lt rest) k known at =
        let some = row-some edition after total (i + size_of (header_at edition after i)) j rest in
        let own_size : size_of (header_at edition after i) ≡ size_at (mark k) = ap (λ (m : ℕ). size_of (header_at edition after m)) (sym at) ∙ sized k known in
        let step : place (k + 1) ≡ i + size_of (header_at edition after i) = omega (arith, own k known, at, own_size) in
        elim (cases_lt (k + 1) n) [
          | inl more ↦ row-places (i + size_of (header_at edition after i)) j rest (k + 1) more step
          | inr done ↦ absurd (let end = live_words-all edition words (marks_of heads) (k + 1) done in omega (arith, end, step, some, counted))
        ]

    -- and all of them
    places-row : (m k l : ℕ) → l + m ≡ k → k < n → IsInRow edition after total (place l) (place k)
    places-row zero k l at known =
        let same : l ≡ k = omega (arith, at) in
        subst (λ (x : ℕ). IsInRow edition after total (place x) (place k)) (sym same) (here (place k) (place-low k known))
    places-row (suc m) k l at known =
        let less : l < n = omega (arith, at, known) in
        let rest = places-row m k (l + 1) (omega (arith, at)) known in
        let step : place (l + 1) ≡ place l + size_of (header_at edition after (place l)) = omega (arith, own l less, sized l less) in
        behind (place l) (place k) (place-low l less) (subst (λ (x : ℕ). IsInRow edition after total x (place k)) step rest)

    -- the first young object, if there is one, comes to the watermark
    first-young : old < total → (k : ℕ) × (k < n) × (place k ≡ old)
    first-young some =
        let at = covered objects old (omega (arith, some, counted)) in
        let k = at.0 in
        let known : k < n = omega (arith, at.1.known, length-map (marks_of heads) (object_at edition words)) in (
          k,
          known,
          elim (cases_lt (mark k) old) [
            | inl low ↦ absurd (
                let fits = old_are.inside (mark k) low (mark-set heads k known) in
                omega (arith, at.1.ends, own k known, stays k known low, fits))
            | inr high ↦ (let up = above k known high in omega (arith, up, at.1.begun))
          ],
        )

    next-place : (p : ℕ) → bit next p ≡ true → has (places heap) p ≡ true
    next-place p set = elim (cases_lt p old) [
      | inl low ↦
          let number = head-number heads p (sym (kept p low) ∙ set) in
          let at : place number.0 ≡ p = stays number.0 number.1 (omega (arith, number.2, low)) ∙ number.2 in
          subst (λ (m : ℕ). has (places heap) m ≡ true) at (place-had number.0 number.1)
      | inr high ↦
          let row = starts p high set in
          let first = first-young (row-some edition after total old p row) in
          row-places old p row first.0 first.1 first.2
    ]

    place-next : (p : ℕ) → has (places heap) p ≡ true → bit next p ≡ true
    place-next p there =
        let at = place-of (places heap) p there in
        let k = at.0 in
        let known : k < n = omega (arith, at.1, many heap sound) in
        let is : place k ≡ p = sym (place-at heap sound k known) ∙ at.2 in
        elim (cases_lt (mark k) old) [
          | inl low ↦
              let same : mark k ≡ p = sym (stays k known low) ∙ is in
              kept p (omega (arith, same, low)) ∙ ap (bit heads) (sym same) ∙ mark-set heads k known
          | inr high ↦
              let up = above k known high in
              let first = first-young (omega (arith, up, place-low k known)) in
              let order : first.0 ≤ k = elim (cases_lt k first.0) [
                | inr le ↦ le
                | inl less ↦ absurd (
                    let e = places-below (k + 1) first.0 (omega (arith, less)) first.1 in
                    omega (arith, own k known, e, first.2, up))
              ] in
              let row = places-row (k - first.0) k first.0 (omega (arith, order)) known in
              all p (subst (IsInRow edition after total old) is (subst (λ (x : ℕ). IsInRow edition after total x (place k)) first.2 row))
        ]

    -- so its bits are those of the places
    pub next-is : marks_of next ≡ places heap
    next-is = rises-same 0 (marks_of next) (places heap)
        (rises 0 (marks_of next) (marks-rising next) (λ some. omega arith))
        (rises 0 (places heap) (λ k within.
        let low : k < n = omega (arith, within, many heap sound) in
        let high : k + 1 < n = omega (arith, within, many heap sound) in
        omega (arith, place-at heap sound k low, place-at heap sound (k + 1) high, own k low)) (λ some. omega arith))
        (λ i there. next-place i (let at = place-of (marks_of next) i there in subst (λ (m : ℕ). bit next m ≡ true) at.2 (mark-set next at.0 at.1)))
        (λ i there. (let set = place-next i there in has-contained (marks_of next) i (index-there (bit next) (64 * length next) i (bit-inside next i set) set)))
