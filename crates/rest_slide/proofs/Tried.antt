-- The part, as far as it is filled from words that may be others than those that were surveyed.
use Rattle.std.proofs.Common.{◌≡◌, ◌≢◌, ℕ, ◌+◌, ◌-◌, ◌*◌, ◌<◌, ◌≤◌, ◌⊎◌, true, false, List, length, get_or, take, inl, inr, refl, sym, ap, subst, ◌∙◌, arith}
use Rattle.std.proofs.lemmas.Bool.{cases_lt, cases_order, both_ways}
use Rattle.heap_layout.specs.declared.edition.Edition.{Edition}
use Rattle.heap_layout.specs.Bits.{bit}
use Rattle.heap_layout.specs.Header.{refs_of, size_of}
use Rattle.heap_layout.specs.Heap.{Heap, header_at, object_at, live, is_value, IsPlaced, IsValue}
use Rattle.mark_tables.specs.MarkBitmap.{set_bits}
use Rattle.mark_tables.specs.LiveWords.{live_below, live_indices}
use Rattle.page_plan.specs.Sliding.{live_words}
use Rattle.page_plan.proofs.Objects.{live_words-all}
use Rattle.rest_marks.specs.Places.{led_by, led_words, words_now, HasWordIn, IsAsFound, IsPartOf, IsReferenceNow, IsSlideFault}
use Rattle.rest_marks.specs.Surveys.{marks_of, told, AreTables}
use Rattle.rest_marks.specs.declared.fault.SlideFault.TheVariants.{Changed, Unmarked}
use Rattle.rest_marks.proofs.Bounding.{bit-inside}
use Rattle.rest_marks.proofs.Heads.{head-number, mark-set, marks-above, head-below, all-words}
use Rattle.rest_slide.proofs.Placing.{found_of, places-rise, place-is, starts-next, size-is, index-is, owner-is, word-is}

-- The first `number` live objects are there, as they are in these words, as far as they have words from the slid word
-- `first` on. The next one stands at index `start`, and slides to `place`. Those from `begun` on were asked.
pub record IsTried (heap : Heap) (words : List ℕ) (first place start : ℕ) (part : List ℕ) : Type 0 where
  pub number : ℕ
  pub begun : ℕ
  pub known : number ≤ length heap.marks
  pub at : place ≡ live_words (take number (live heap))
  pub here : number < length heap.marks → start ≡ get_or heap.marks number 0
  pub ahead : number < length heap.marks → first < live_words (take (number + 1) (live heap))
  pub behind : live_words (take begun (live heap)) ≤ first
  pub made : (n : ℕ) → first ≤ n → n < place → n < first + length part → get_or part (n - first) 0 ≡ get_or (words_now (found_of heap 0) words) n 0
  pub sized : (k : ℕ) → begun ≤ k → k < number → size_of (header_at heap.edition words (get_or heap.marks k 0)) ≡ size_of (header_at heap.edition heap.words (get_or heap.marks k 0))
  pub marked : (n : ℕ) → first ≤ n → n < place → n < first + length part → IsReferenceNow (found_of heap 0) words (get_or (live_indices (live heap)) n 0)
      → IsValue heap.edition heap.marks (get_or words (get_or (live_indices (live heap)) n 0) 0)

module _ (edition : Edition) (ws heads bits counts : List ℕ) (tables : AreTables edition ws heads bits counts) where
  abbrev heap : Heap
  heap = told edition ws heads

  abbrev mark : ℕ → ℕ
  mark k = get_or (marks_of heads) k 0

  abbrev starts : ℕ → ℕ
  starts k = live_words (take k (live heap))

  -- before the first object
  pub tried-first : (words : List ℕ) (first place start : ℕ) (part : List ℕ) → first < length (set_bits bits) → bit heads start ≡ true → place ≡ live_below (set_bits bits) start → place ≤ first
      → ((j : ℕ) → start < j → bit heads j ≡ true → first < live_below (set_bits bits) j) → IsTried heap words first place start part
  tried-first words first place start part lt here at few last =
      let number = head-number heads start here in
      let k = number.0 in
      let below = head-below edition ws heads bits counts tables k number.1 in
      let all = all-words edition ws heads bits counts tables in
      let placed : place ≡ starts k = omega (arith, at, below, ap (live_below (set_bits bits)) number.2) in
      record {
        number = k;
        begun = k;
        known = omega (arith, number.1);
        at = placed;
        here = λ _. sym number.2;
        ahead = λ known. elim (cases_lt (k + 1) (length (marks_of heads))) [
          | inl more ↦
              let rises = marks-above heap tables.sound k (k + 1) (omega arith) more in
              let far = last (mark (k + 1)) (omega (arith, rises, number.2)) (mark-set heads (k + 1) more) in
              omega (arith, far, head-below edition ws heads bits counts tables (k + 1) more)
          | inr done ↦ omega (arith, live_words-all edition ws (marks_of heads) (k + 1) done, lt, all)
        ];
        behind = omega (arith, placed, few);
        made = λ n from below_place. absurd (omega (arith, from, below_place, few));
        sized = λ l from below_number. absurd (omega (arith, from, below_number));
        marked = λ n from below_place. absurd (omega (arith, from, below_place, few));
      }

  -- there is one object more
  pub more-objects : (words : List ℕ) (first place start : ℕ) (part : List ℕ) (is : IsTried heap words first place start part) → place < length (set_bits bits) → is.number < length (marks_of heads)
  more-objects words first place start part is lt = elim (cases_lt is.number (length (marks_of heads))) [
    | inl known ↦ known
    | inr done ↦ absurd (omega (arith, live_words-all edition ws (marks_of heads) is.number done, is.at, lt, all-words edition ws heads bits counts tables))
  ]

  pub start-inside : (words : List ℕ) (first place start : ℕ) (part : List ℕ) (is : IsTried heap words first place start part) → place < length (set_bits bits)
      → (start + size_of (header_at edition ws start) ≤ length ws) × (bit heads start ≡ true)
  start-inside words first place start part is lt =
      let known = more-objects words first place start part is lt in
      let at = is.here known in
      let placed = tables.sound.placed is.number 0 known in
      (omega (arith, placed.within, at, ap (λ (n : ℕ). size_of (header_at edition ws n)) at), ap (bit heads) at ∙ mark-set heads is.number known)

  -- the next head behind it
  next-head : (k start next : ℕ) → k < length (marks_of heads) → start ≡ mark k → start < next → ((j : ℕ) → start < j → j < next → bit heads j ≡ false)
      → (next < 64 * length heads → bit heads next ≡ true) → k + 1 < length (marks_of heads) → next ≡ mark (k + 1)
  next-head k start next known at from none here more =
      let set = mark-set heads (k + 1) more in
      let above = marks-above heap tables.sound k (k + 1) (omega arith) more in
      let low : next ≤ mark (k + 1) = elim (cases_lt (mark (k + 1)) next) [
        | inl past ↦ absurd (both_ways (bit heads (mark (k + 1))) (none (mark (k + 1)) (omega (arith, above, at)) past) set)
        | inr le ↦ le
      ] in
      let inside = bit-inside heads (mark (k + 1)) set in
      let number = head-number heads next (here (omega (arith, low, inside))) in
      elim (cases_order number.0 (k + 1)) [
        | inl same ↦ sym number.2 ∙ ap mark same
        | inr (inl less) ↦ absurd (elim (cases_lt number.0 k) [
          | inl earlier ↦ (let rises = marks-above heap tables.sound number.0 k earlier known in omega (arith, rises, number.2, at, from))
          | inr last ↦ (let e : number.0 ≡ k = omega (arith, less, last) in omega (arith, ap mark e, number.2, at, from))
        ])
        | inr (inr later) ↦ absurd (let rises = marks-above heap tables.sound (k + 1) number.0 later number.1 in omega (arith, rises, number.2, low))
      ]

  -- and where it slides to
  next-place : (k start next place : ℕ) → k < length (marks_of heads) → start ≡ mark k → start < next → ((j : ℕ) → start < j → j < next → bit heads j ≡ false)
      → (next < 64 * length heads → bit heads next ≡ true) → (next < 64 * length bits → place ≡ live_below (set_bits bits) next) → (64 * length bits ≤ next → place ≡ length (set_bits bits))
      → place ≡ starts (k + 1)
  next-place k start next place known at from none here below all = elim (cases_lt (k + 1) (length (marks_of heads))) [
    | inl more ↦
        let is = next-head k start next known at from none here more in
        let inside = bit-inside heads (mark (k + 1)) (mark-set heads (k + 1) more) in
        below (omega (arith, is, inside, tables.same)) ∙ ap (live_below (set_bits bits)) is ∙ head-below edition ws heads bits counts tables (k + 1) more
    | inr done ↦
        let past : 64 * length bits ≤ next = elim (cases_lt next (64 * length bits)) [
          | inl inside ↦
              let number = head-number heads next (here (omega (arith, inside, tables.same))) in
              let before : number.0 ≤ k = omega (arith, number.1, done) in
              absurd (elim (cases_lt number.0 k) [
                | inl earlier ↦ (let rises = marks-above heap tables.sound number.0 k earlier known in omega (arith, rises, number.2, at, from))
                | inr last ↦ (let e : number.0 ≡ k = omega (arith, before, last) in omega (arith, ap mark e, number.2, at, from))
              ])
          | inr le ↦ le
        ] in
        all past ∙ all-words edition ws heads bits counts tables ∙ sym (live_words-all edition ws (marks_of heads) (k + 1) done)
  ]

  -- What is known of the next object and of the one behind it.
  pub record IsNext (words : List ℕ) (first place start next place_behind number : ℕ) : Type 0 where
    pub known : number < length (marks_of heads)
    pub at : start ≡ mark number
    pub ends : place_behind ≡ starts (number + 1)
    pub size : place_behind ≡ place + size_of (header_at edition ws start)
    pub reaches : first < place_behind
    pub behind : number + 1 < length (marks_of heads) → next ≡ mark (number + 1)

  pub is-next : (words : List ℕ) (first place start : ℕ) (part : List ℕ) (is : IsTried heap words first place start part) → place < length (set_bits bits) → (place_behind : ℕ)
      → place_behind ≡ place + size_of (header_at edition ws start) → IsNext words first place start (mark (is.number + 1)) place_behind is.number
  is-next words first place start part is lt place_behind behind =
      let known = more-objects words first place start part is lt in
      let at = is.here known in
      let own = starts-next heap tables.sound 0 is.number known in
      let sized = ap (λ (n : ℕ). size_of (header_at edition ws n)) at in
      let ends : place_behind ≡ starts (is.number + 1) = omega (arith, behind, own, is.at, sized) in
      record {
        known = known;
        at = at;
        ends = ends;
        size = behind;
        reaches = omega (arith, ends, is.ahead known);
        behind = λ more. refl;
      }

  -- it starts at the next head, if words of it slide in front of the last one
  pub next-start : (words : List ℕ) (first place start place_behind number : ℕ) → IsNext words first place start (mark (number + 1)) place_behind number → place_behind < length (set_bits bits)
      → (next : ℕ) → start < next → ((j : ℕ) → start < j → j < next → bit heads j ≡ false) → (next < 64 * length heads → bit heads next ≡ true) → mark (number + 1) ≡ next
  next-start words first place start place_behind number object lt next from none here = elim (cases_lt (number + 1) (length (marks_of heads))) [
    | inl more ↦ sym (next-head number start next object.known object.at from none here more)
    | inr done ↦ absurd (omega (arith, live_words-all edition ws (marks_of heads) (number + 1) done, object.ends, lt, all-words edition ws heads bits counts tables))
  ]

  -- how many live words are below the next object
  pub start-below : (words : List ℕ) (first place start : ℕ) (part : List ℕ) (is : IsTried heap words first place start part) → place < length (set_bits bits) → place ≡ live_below (set_bits bits) start
  start-below words first place start part is lt =
      let known = more-objects words first place start part is lt in
      omega (arith, is.at, head-below edition ws heads bits counts tables is.number known, ap (live_below (set_bits bits)) (is.here known))

  -- an object whose words are all live words up to the next head has so many
  pub size-between : (start next place place_behind : ℕ) → bit heads start ≡ true → place ≡ live_below (set_bits bits) start → start < next → ((j : ℕ) → start < j → j < next → bit heads j ≡ false)
      → (next < 64 * length heads → bit heads next ≡ true) → (next < 64 * length bits → place_behind ≡ live_below (set_bits bits) next) → (64 * length bits ≤ next → place_behind ≡ length (set_bits bits))
      → place_behind ≡ place + size_of (header_at edition ws start)
  size-between start next place place_behind set placed from none here below all =
      let number = head-number heads start set in
      let at : start ≡ mark number.0 = sym number.2 in
      let ends = next-place number.0 start next place_behind number.1 at from none here below all in
      let own = starts-next heap tables.sound 0 number.0 number.1 in
      let first = head-below edition ws heads bits counts tables number.0 number.1 in
      omega (arith, ends, own, first, placed, ap (live_below (set_bits bits)) at, ap (λ (n : ℕ). size_of (header_at edition ws n)) at)

  -- the object as it is now is placed, if it has as many words as before
  pub now-placed : (words : List ℕ) (k start : ℕ) → k < length (marks_of heads) → start ≡ mark k → length ws ≡ length words → size_of (header_at edition words start) ≡ size_of (header_at edition ws start)
      → IsPlaced edition words start
  now-placed words k start known at same sized =
      let placed = tables.sound.placed k 0 known in
      let own = ap (λ (n : ℕ). size_of (header_at edition ws n)) at in
      record {
        within = omega (arith, placed.within, own, sized, same, at);
        short = omega (arith, placed.short, own, sized);
      }

  -- one object more
  pub tried-next : (words : List ℕ) (first place start : ℕ) (old : List ℕ) (is : IsTried heap words first place start old) (next place_behind : ℕ)
      → IsNext words first place start next place_behind is.number → (size from stop begin : ℕ) (new : List ℕ)
      → size ≡ size_of (header_at edition words start) → size ≡ place_behind - place → from ≡ first - place → stop ≤ size → (size ≤ stop) ⊎ (first + length old ≤ place + stop)
      → begin ≡ place + from - first → length new ≡ length old → ((k : ℕ) → k < begin → get_or new k 0 ≡ get_or old k 0)
      → ((j : ℕ) → j < stop - from → get_or new (begin + j) 0 ≡ get_or (led_words (led_by (found_of heap 0)) (object_at edition words start)) (from + j) 0)
      → ((f : ℕ) → from ≤ f → f < stop → 1 ≤ f → f ≤ refs_of (header_at edition words start) → IsValue edition (marks_of heads) (get_or words (start + f) 0))
      → IsTried heap words first place_behind next new
  tried-next words first place start old is next place_behind object size from stop begin new sized seen offset within whole begun long kept written marked =
      let k = is.number in
      let known = object.known in
      let at = object.at in
      let same : size ≡ size_of (header_at edition ws start) = omega (arith, seen, object.size) in
      let own : size_of (header_at edition ws start) ≡ size_of (header_at edition ws (mark k)) = ap (λ (n : ℕ). size_of (header_at edition ws n)) at in
      let now : size_of (header_at edition words start) ≡ size_of (header_at edition words (mark k)) = ap (λ (n : ℕ). size_of (header_at edition words n)) at in
      record {
        number = k + 1;
        begun = is.begun;
        known = omega (arith, known);
        at = object.ends;
        here = object.behind;
        ahead = λ more. (let next_own = starts-next heap tables.sound 0 (k + 1) more in omega (arith, object.reaches, object.ends, next_own));
        behind = is.behind;
        made = λ n low high inside. elim (cases_lt n place) [
          | inl earlier ↦ kept (n - first) (omega (arith, earlier, low, offset, begun)) ∙ is.made n low earlier (omega (arith, inside, long))
          | inr here ↦
              let f = n - place in
              let short : f < size = omega (arith, high, here, seen) in
              let stopped : f < stop = elim whole [ inl all ↦ omega (arith, all, short) | inr end ↦ omega (arith, end, inside, long, here) ] in
              let j = f - from in
              let place_of_word : n - first ≡ begin + j = omega (arith, begun, offset, here, low) in
              let word_of : from + j ≡ f = omega (arith, offset, here, low) in
              let index : starts k + f ≡ n = omega (arith, is.at, here) in
              let there = word-is heap tables.sound 0 words k f known (omega (arith, short, same, own)) in
              ap (λ (m : ℕ). get_or new m 0) place_of_word
              ∙ written j (omega (arith, stopped, offset, here, low))
              ∙ ap (λ (m : ℕ). get_or (led_words (led_by (found_of heap 0)) (object_at edition words start)) m 0) word_of
              ∙ ap (λ (m : ℕ). get_or (led_words (led_by (found_of heap 0)) (object_at edition words m)) f 0) at
              ∙ sym there
              ∙ ap (λ (m : ℕ). get_or (words_now (found_of heap 0) words) m 0) index
        ];
        sized = λ l low high. elim (cases_lt l k) [
          | inl earlier ↦ is.sized l low earlier
          | inr last ↦
              let e : l ≡ k = omega (arith, high, last) in
              let there : size_of (header_at edition words (mark k)) ≡ size_of (header_at edition ws (mark k)) = omega (arith, sized, same, own, now) in
              subst (λ (m : ℕ). size_of (header_at edition words (mark m)) ≡ size_of (header_at edition ws (mark m))) (sym e) there
        ];
        marked = λ n low high inside reference. elim (cases_lt n place) [
          | inl earlier ↦ is.marked n low earlier (omega (arith, inside, long)) reference
          | inr here ↦
              let f = n - place in
              let short : f < size = omega (arith, high, here, seen) in
              let stopped : f < stop = elim whole [ inl all ↦ omega (arith, all, short) | inr end ↦ omega (arith, end, inside, long, here) ] in
              let index : starts k + f ≡ n = omega (arith, is.at, here) in
              let small : f < size_of (header_at edition ws (mark k)) = omega (arith, short, same, own) in
              let index_is : get_or (live_indices (live heap)) n 0 ≡ mark k + f = ap (λ (m : ℕ). get_or (live_indices (live heap)) m 0) (sym index) ∙ index-is heap tables.sound 0 k f known small in
              let refers : IsReferenceNow (found_of heap 0) words (mark k + f) = subst (IsReferenceNow (found_of heap 0) words) index_is reference in
              let owns = owner-is heap tables.sound 0 k f known small in
              let positive : 1 ≤ f = omega (arith, refers.0, owns) in
              let few : f ≤ refs_of (header_at edition words start) =
              omega (arith, refers.1, owns, ap (λ (m : ℕ). refs_of (header_at edition words m)) owns, ap (λ (m : ℕ). refs_of (header_at edition words m)) at) in
              let value = marked f (omega (arith, offset, here, low)) stopped positive few in
              subst (λ (m : ℕ). IsValue edition (marks_of heads) (get_or words m 0)) (ap (λ (m : ℕ). m + f) at ∙ sym index_is) value
        ];
      }

  -- ---- when all is there

  pub tried-all : (words : List ℕ) (first place start : ℕ) (part : List ℕ) → IsTried heap words first place start part → (count room : ℕ) → count ≡ length part → first + count ≤ place
      → IsAsFound (found_of heap room) words first count
  tried-all words first place start part is count room long done = record {
    sized = λ k n known low high from to.
        let from_start = place-is heap tables.sound room k in
        let to_next = place-is heap tables.sound room (k + 1) in
        let earlier : k < is.number = elim (cases_lt k is.number) [
          | inl less ↦ less
          | inr le ↦ absurd (let rise = places-rise (live heap) is.number k le in omega (arith, rise, is.at, from_start, from, high, done))
        ] in
        let later : is.begun ≤ k = elim (cases_lt k is.begun) [
          | inl less ↦ absurd (let rise = places-rise (live heap) (k + 1) is.begun (omega (arith, less)) in omega (arith, rise, is.behind, to_next, to, low))
          | inr le ↦ le
        ] in
        is.sized k later earlier ∙ sym (size-is heap tables.sound room k known);
    marked = λ n low high. is.marked n low (omega (arith, high, done)) (omega (arith, high, long));
  }

  -- ---- faults

  -- the part is one of the live words, and there are as many words as were surveyed
  part-is : (words : List ℕ) (first count : ℕ) → length ws ≡ length words → first + count ≤ length (set_bits bits) → IsPartOf (found_of heap 0) words first count
  part-is words first count same within = (omega (arith, within, ap length tables.indices), sym same)

  -- the next object has a word in the part, if it slides to a place before its end
  next-in-part : (words : List ℕ) (first count place start next place_behind number : ℕ) → IsNext words first place start next place_behind number → place ≡ starts number
      → 0 < count → place < first + count → HasWordIn (found_of heap 0) number first count
  next-in-part words first count place start next place_behind number object at some before =
      let from = place-is heap tables.sound 0 number in
      let to = place-is heap tables.sound 0 (number + 1) in
      elim (cases_lt place first) [
        | inl earlier ↦ (first, omega arith, omega (arith, some), omega (arith, earlier, at, from), omega (arith, object.reaches, object.ends, to))
        | inr here ↦ (place, here, before, omega (arith, at, from), omega (arith, object.size, object.ends, to))
      ]

  -- it has another size than before
  pub tried-changed : (words : List ℕ) (first count place start next place_behind number size : ℕ) → IsNext words first place start next place_behind number → place ≡ starts number
      → length ws ≡ length words → first + count ≤ length (set_bits bits) → 0 < count → place < first + count
      → size ≡ size_of (header_at edition words start) → place ≤ place_behind → size ≢ place_behind - place → IsSlideFault (found_of heap 0) words first count (Changed start)
  tried-changed words first count place start next place_behind number size object at same within some before sized order other = (
    part-is words first count same within,
    number,
    object.known,
    object.at,
    next-in-part words first count place start next place_behind number object at some before,
    λ same_size. other (omega (arith, sized, same_size, size-is heap tables.sound 0 number object.known, object.size, ap (λ (n : ℕ). size_of (header_at edition ws n)) object.at)),
  )

  -- one of its references leads to no live object
  pub tried-unmarked : (words : List ℕ) (first place start : ℕ) (part : List ℕ) (is : IsTried heap words first place start part) (next place_behind f : ℕ)
      → IsNext words first place start next place_behind is.number → (count : ℕ) → length ws ≡ length words → first + count ≤ length (set_bits bits)
      → first - place ≤ f → place + f < first + count → f < place_behind - place
      → 1 ≤ f → f ≤ refs_of (header_at edition words start) → is_value edition (marks_of heads) (get_or words (start + f) 0) ≡ false
      → IsSlideFault (found_of heap 0) words first count (Unmarked (start + f))
  tried-unmarked words first place start part is next place_behind f object count same within low high inside positive few stray =
      let k = is.number in
      let known = object.known in
      let at = object.at in
      let own : size_of (header_at edition ws start) ≡ size_of (header_at edition ws (mark k)) = ap (λ (n : ℕ). size_of (header_at edition ws n)) at in
      let small : f < size_of (header_at edition ws (mark k)) = omega (arith, inside, object.size, own) in
      let index : get_or (live_indices (live heap)) (place + f) 0 ≡ mark k + f =
      ap (λ (m : ℕ). get_or (live_indices (live heap)) (m + f) 0) is.at ∙ index-is heap tables.sound 0 k f known small in
      let here : start + f ≡ mark k + f = ap (λ (m : ℕ). m + f) at in
      let owns = owner-is heap tables.sound 0 k f known small in
      let refers : IsReferenceNow (found_of heap 0) words (mark k + f) =
      (omega (arith, owns, positive), omega (arith, owns, few, ap (λ (m : ℕ). refs_of (header_at edition words m)) owns, ap (λ (m : ℕ). refs_of (header_at edition words m)) at)) in
      (part-is words first count same within, place + f, omega (arith, low), high, here ∙ sym index, subst (IsReferenceNow (found_of heap 0) words) (sym here) refers, stray)
