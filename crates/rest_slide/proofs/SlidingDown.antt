-- The words, as far as the live objects are slid down.
use Rattle.std.proofs.Common.{◌≡◌, ℕ, ◌+◌, ◌-◌, ◌*◌, ◌^◌, ◌<◌, ◌≤◌, true, false, ◌⊎◌, List, ◌++◌, length, get_or, drop, inl, inr, refl, sym, ap, subst, ◌∙◌, arith, length-append, length-drop}
use Rattle.std.proofs.lemmas.Bool.{cases_lt}
use Rattle.std.proofs.lemmas.Grind.{same_number_lists}
use Rattle.std.proofs.lemmas.List.{get_or_append_left, get_or-append_right, get_or-drop}
use Rattle.std.proofs.lemmas.List.Sums.{sum_by-take-le}
use Rattle.heap_layout.specs.declared.edition.Edition.{Edition}
use Rattle.heap_layout.specs.Bits.{bit}
use Rattle.heap_layout.specs.Header.{header_of, refs_of, weak_of, size_of}
use Rattle.heap_layout.specs.Heap.{Heap, Object, header_at, object_at, live, IsValue}
use Rattle.heap_layout.specs.Values.{is_immediate}
use Rattle.mark_tables.specs.MarkBitmap.{set_bits}
use Rattle.page_plan.specs.Sliding.{size, live_words}
use Rattle.page_plan.proofs.Objects.{live_words-next}
use Rattle.rest_marks.specs.Looking.{led_to, kept_by}
use Rattle.rest_slide.specs.Settled.{settled, settled_words}
use Rattle.rest_marks.specs.Surveys.{marks_of, told, AreTables}
use Rattle.rest_marks.proofs.BitsBelow.{words-below, live_fit}
use Rattle.rest_marks.proofs.Bounding.{bit-inside}
use Rattle.rest_slide.proofs.Filling.{live-placed, live-value}
use Rattle.rest_marks.proofs.Heads.{all-words}
use Rattle.rest_slide.proofs.Settling.{settled-header, settled-refers, settled-data, settled-all, led-settled, kept-settled, target-known}
use Rattle.rest_slide.proofs.Slides.{IsSlid, more-objects, next-start, next-placed, slid-next}
use Rattle.rest_slide.proofs.Dense.{value-address}

-- Before index `place` the live objects are slid, as many as have so many words; the others stand at or after index
-- `next`. From index `place` on the words are as they were.
pub record IsSlidDown (edition : Edition) (old heads : List ℕ) (place next : ℕ) (words : List ℕ) : Type 0 where
  pub slid : IsSlid edition old heads 0 place next words
  pub rest : (k : ℕ) → place ≤ k → get_or words k 0 ≡ get_or old k 0
  pub long : length words ≡ length old

-- The next object, which starts at index `start`, and none of whose words was written over.
pub record IsNext (edition : Edition) (heads bits : List ℕ) (number place : ℕ) (words : List ℕ) (start : ℕ) : Type 0 where
  pub at : start ≡ get_or (marks_of heads) number 0
  pub head : bit heads start ≡ true
  pub down : place ≤ start
  pub within : start + size_of (header_at edition words start) ≤ length words
  pub known : (k : ℕ) → k < refs_of (header_at edition words start) → is_immediate edition (get_or words (start + 1 + k) 0) ≡ false
      → get_or words (start + 1 + k) 0 - 2 ^ 32 < 64 * length bits
  pub addresses : (k : ℕ) → k < refs_of (header_at edition words start) → is_immediate edition (get_or words (start + 1 + k) 0) ≡ false
      → (get_or words (start + 1 + k) 0 ≡ 0) ⊎ (2 ^ 32 ≤ get_or words (start + 1 + k) 0)

-- What was made of an object of this shape, which moved from index `start` to index `place`.
pub record IsDown (edition : Edition) (heads indices : List ℕ) (start place refs weak size : ℕ) (words new : List ℕ) : Type 0 where
  pub header : get_or new place 0 ≡ get_or words start 0
  pub references : (k : ℕ) → k < refs → get_or new (place + 1 + k) 0 ≡ led_to edition indices (get_or words (start + 1 + k) 0)
  pub weak_words : (k : ℕ) → k < weak → get_or new (place + 1 + refs + k) 0 ≡ kept_by edition heads indices (get_or words (start + 1 + refs + k) 0)
  pub data_words : (k : ℕ) → 1 + refs + weak ≤ k → k < size → get_or new (place + k) 0 ≡ get_or words (start + k) 0

module _ (edition : Edition) (old heads bits counts : List ℕ) (tables : AreTables edition old heads bits counts) where
  abbrev heap : Heap
  heap = told edition old heads

  abbrev objects : List Object
  objects = live heap

  abbrev mark : ℕ → ℕ
  mark k = get_or (marks_of heads) k 0

  -- before the first object
  pub down-first : IsSlidDown edition old heads 0 0 old
  down-first =
      let is : IsSlid edition old heads 0 0 0 old = record {
        number = 0;
        known = omega arith;
        at = refl;
        after = λ k from within. omega arith;
        before = λ k lower. absurd (omega (arith, lower));
        ahead = λ known. omega (arith, live_words-next edition old (marks_of heads) 0 known);
        made = λ n low high inside. absurd (omega (arith, high));
      } in
      record { slid = is; rest = λ k from. refl; long = refl }

  module _ (place next : ℕ) (words : List ℕ) (is : IsSlidDown edition old heads place next words) where
    -- the next object is found, and it does not move up
    pub next-down : place < length (set_bits bits) → (start : ℕ) → next ≤ start → ((j : ℕ) → next ≤ j → j < start → bit heads j ≡ false)
        → (start < 64 * length heads → bit heads start ≡ true) → IsNext edition heads bits is.slid.number place words start
    next-down lt start from none here =
        let at = next-start edition old heads bits counts tables 0 place next words is.slid lt start from none here in
        let placed = next-placed edition old heads bits counts tables 0 place next words is.slid lt start at in
        let known = more-objects edition old heads bits counts tables 0 place next words is.slid lt in
        let down : place ≤ start = omega (arith, words-below heap tables.sound is.slid.number known, is.slid.at, at) in
        let same = is.rest start down in
        let inside = bit-inside heads start placed.2 in
        let value : (k : ℕ) → k < refs_of (header_at edition words start) → IsValue edition (marks_of heads) (get_or words (start + 1 + k) 0) =
        λ k lower.
        let few : 1 + k ≤ refs_of (header_at edition old start) = omega (arith, lower, ap (λ (w : ℕ). refs_of (header_of edition w)) same) in
        let word : get_or words (start + 1 + k) 0 ≡ get_or old (start + (1 + k)) 0 =
        is.rest (start + 1 + k) (omega (arith, down)) ∙ ap (λ (n : ℕ). get_or old n 0) (let sum : start + 1 + k ≡ start + (1 + k) = omega arith in sum) in
        subst (IsValue edition (marks_of heads)) (sym word) (live-value edition old heads bits counts tables start placed.2 (1 + k) (omega arith) few) in
        record {
          at = at;
          head = placed.2;
          down = down;
          within = omega (arith, placed.0, is.long, ap (λ (w : ℕ). size_of (header_of edition w)) same);
          known = λ k lower plain. target-known edition old heads bits counts tables _ (value k lower) plain (omega (arith, inside, tables.same));
          addresses = λ k lower plain. value-address edition (marks_of heads) _ (value k lower) plain;
        }

    -- word j of the object is what it is after the collection
    down-word : (start refs weak count : ℕ) (new : List ℕ) → bit heads start ≡ true → place ≤ start
        → refs ≡ refs_of (header_at edition old start) → weak ≡ weak_of (header_at edition old start) → count ≡ size_of (header_at edition old start)
        → IsDown edition heads (set_bits bits) start place refs weak count words new
        → (j : ℕ) → j < count → get_or new (place + j) 0 ≡ get_or (settled objects (object_at edition old start)) j 0
    down-word start refs weak count new head down refs_are weak_are counted done j lt =
        let placed = live-placed edition old heads bits counts tables start head in
        elim (cases_lt j 1) [
          | inl first ↦
              let zero_word : j ≡ 0 = omega (arith, first) in
              let here : place + j ≡ place = omega (arith, first) in
              ap (λ (n : ℕ). get_or new n 0) here ∙ done.header ∙ is.rest start down
              ∙ sym (settled-header edition objects old start)
              ∙ ap (λ (n : ℕ). get_or (settled objects (object_at edition old start)) n 0) (sym zero_word)
          | inr positive ↦ elim (cases_lt j (1 + refs)) [
            | inl reference ↦
                let k = j - 1 in
                let to : place + j ≡ place + 1 + k = omega (arith, positive) in
                let from : start + 1 + k ≡ start + j = omega (arith, positive) in
                let few : j ≤ refs_of (header_at edition old start) = omega (arith, refs_are, reference) in
                let value = live-value edition old heads bits counts tables start head j positive few in
                ap (λ (n : ℕ). get_or new n 0) to
                ∙ done.references k (omega (arith, positive, reference))
                ∙ ap (λ (n : ℕ). led_to edition (set_bits bits) (get_or words n 0)) from
                ∙ ap (led_to edition (set_bits bits)) (is.rest (start + j) (omega (arith, down)))
                ∙ led-settled edition old heads bits counts tables _ value
                ∙ sym (settled-refers edition objects old start j placed positive (omega (arith, few)))
            | inr behind ↦ elim (cases_lt j (1 + refs + weak)) [
              | inl weak_word ↦
                  let k = j - 1 - refs in
                  let to : place + j ≡ place + 1 + refs + k = omega (arith, behind) in
                  let from : start + 1 + refs + k ≡ start + j = omega (arith, behind) in
                  ap (λ (n : ℕ). get_or new n 0) to
                  ∙ done.weak_words k (omega (arith, behind, weak_word))
                  ∙ ap (λ (n : ℕ). kept_by edition heads (set_bits bits) (get_or words n 0)) from
                  ∙ ap (kept_by edition heads (set_bits bits)) (is.rest (start + j) (omega (arith, down)))
                  ∙ kept-settled edition old heads bits counts tables _
                  ∙ sym (settled-refers edition objects old start j placed positive (omega (arith, weak_word, refs_are, weak_are)))
              | inr data_word ↦
                  done.data_words j data_word lt
                  ∙ is.rest (start + j) (omega (arith, down))
                  ∙ sym (settled-data edition objects old start j placed (omega (arith, data_word, refs_are, weak_are)) (omega (arith, lt, counted)))
            ]
          ]
        ]

    -- one object more
    pub down-next : place < length (set_bits bits) → (start refs weak count : ℕ) (new : List ℕ) → IsNext edition heads bits is.slid.number place words start → next ≤ start
        → refs ≡ refs_of (header_at edition words start) → weak ≡ weak_of (header_at edition words start) → count ≡ size_of (header_at edition words start)
        → IsDown edition heads (set_bits bits) start place refs weak count words new
        → ((k : ℕ) → k < place → get_or new k 0 ≡ get_or words k 0) → ((k : ℕ) → place + count ≤ k → get_or new k 0 ≡ get_or words k 0) → length new ≡ length words
        → IsSlidDown edition old heads (place + count) (start + count) new
    down-next lt start refs weak count new found from refs_are weak_are counted done before behind long =
        let same = is.rest start found.down in
        let refs_were = refs_are ∙ ap (λ (w : ℕ). refs_of (header_of edition w)) same in
        let weak_were = weak_are ∙ ap (λ (w : ℕ). weak_of (header_of edition w)) same in
        let size_was = counted ∙ ap (λ (w : ℕ). size_of (header_of edition w)) same in
        record {
          slid = slid-next edition old heads bits counts tables 0 place next words is.slid lt start count 0 count place new found.at from size_was (omega arith) (omega arith) (inl (omega arith))
              (omega arith) long before
              (λ j less.
              let word : 0 + j ≡ j = omega arith in
              down-word start refs weak count new found.head found.down refs_were weak_were size_was done j (omega (arith, less))
              ∙ ap (λ (n : ℕ). get_or (settled objects (object_at edition old start)) n 0) (sym word));
          rest = λ k le. behind k le ∙ is.rest k (omega (arith, le));
          long = long ∙ is.long;
        }

    -- all objects
    pub down-all : length (set_bits bits) ≤ place → words ≡ settled_words objects ++ drop (live_words objects) old
    down-all done =
        let all = settled_words objects in
        let many = settled-all heap tables.sound in
        let fit = live_fit heap tables.sound in
        let counted = all-words edition old heads bits counts tables in
        let few = sum_by-take-le size objects is.slid.number in
        let end : place ≡ live_words objects = omega (arith, done, counted, is.slid.at, few) in
        let both = length-append all (drop (live_words objects) old) in
        let left = length-drop (live_words objects) old in
        same_number_lists words (all ++ drop (live_words objects) old) (omega (arith, is.long, both, left, many, fit)) (λ k lt.
        elim (cases_lt k place) [
          | inl low ↦
              let word : k ≡ k - 0 = omega arith in
              ap (λ (n : ℕ). get_or words n 0) word ∙ is.slid.made k (omega arith) low (omega (arith, lt)) ∙ sym (get_or_append_left all (drop (live_words objects) old) 0 k (omega (arith, low, end, many)))
          | inr high ↦
              let index : live_words objects + (k - live_words objects) ≡ k = omega (arith, high, end) in
              is.rest k high
              ∙ ap (λ (n : ℕ). get_or old n 0) (sym index)
              ∙ sym (get_or-drop (live_words objects) old (k - live_words objects) 0)
              ∙ sym (get_or-append_right all (drop (live_words objects) old) (live_words objects) k 0 many (omega (arith, high, end)))
        ])
