-- The part, as far as it is filled.
use Rattle.std.proofs.Common.{◌≡◌, ℕ, ◌+◌, ◌-◌, ◌*◌, ◌<◌, ◌≤◌, ◌⊎◌, true, false, List, length, get_or, take, inl, inr, sym, ap, ◌∙◌, arith}
use Rattle.std.proofs.lemmas.Bool.{cases_lt, cases_order, both_ways}
use Rattle.std.proofs.lemmas.List.{length-map}
use Rattle.heap_layout.specs.declared.edition.Edition.{Edition}
use Rattle.heap_layout.specs.Bits.{bit}
use Rattle.heap_layout.specs.Header.{size_of}
use Rattle.heap_layout.specs.Heap.{Heap, Object, header_at, object_at, live}
use Rattle.rest_marks.specs.Reached.{IsSound}
use Rattle.mark_tables.specs.MarkBitmap.{set_bits}
use Rattle.mark_tables.specs.LiveWords.{live_below}
use Rattle.page_plan.specs.Sliding.{live_words}
use Rattle.page_plan.proofs.Objects.{live_words-next, live_words-all}
use Rattle.page_plan.proofs.Ranks.{covered}
use Rattle.rest_slide.specs.Settled.{settled, settled_words}
use Rattle.rest_marks.specs.Surveys.{marks_of, told, AreTables}
use Rattle.rest_marks.proofs.Bounding.{bit-inside}
use Rattle.rest_marks.proofs.Heads.{head-number, mark-set, marks-above, marks-apart, head-below, all-words}
use Rattle.rest_slide.proofs.Settling.{settled-at}

-- The first `number` live objects are there, as far as they have words from the slid word `first` on; the others stand
-- at or after index `next`, and the first of them has the slid word `place`.
pub record IsSlid (edition : Edition) (words heads : List ℕ) (first place next : ℕ) (part : List ℕ) : Type 0 where
  pub number : ℕ
  pub known : number ≤ length (marks_of heads)
  pub at : place ≡ live_words (take number (live (told edition words heads)))
  pub after : (k : ℕ) → number ≤ k → k < length (marks_of heads) → next ≤ get_or (marks_of heads) k 0
  pub before : (k : ℕ) → k < number → get_or (marks_of heads) k 0 < next
  pub ahead : number < length (marks_of heads) → first < live_words (take (number + 1) (live (told edition words heads)))
  pub made : (n : ℕ) → first ≤ n → n < place → n < first + length part → get_or part (n - first) 0 ≡ get_or (settled_words (live (told edition words heads))) n 0

module _ (edition : Edition) (words heads bits counts : List ℕ) (tables : AreTables edition words heads bits counts) where
  abbrev heap : Heap
  heap = told edition words heads

  abbrev objects : List Object
  objects = live heap

  abbrev mark : ℕ → ℕ
  mark k = get_or (marks_of heads) k 0

  abbrev placed_at : ℕ → ℕ
  placed_at k = live_words (take k objects)

  sound : IsSound heap
  sound = tables.sound

  many : length objects ≡ length (marks_of heads)
  many = length-map (marks_of heads) (object_at edition words)

  -- an object has the first slid word, and starts at or before it
  pub some-head : (first : ℕ) → first < length (set_bits bits) → (i : ℕ) × (bit heads i ≡ true) × (live_below (set_bits bits) i ≤ first)
  some-head first lt =
      let all = all-words edition words heads bits counts tables in
      let at = covered objects first (omega (arith, lt, all)) in
      let known : at.0 < length (marks_of heads) = omega (arith, at.1.known, many) in
      let below = head-below edition words heads bits counts tables at.0 known in
      (mark at.0, mark-set heads at.0 known, omega (arith, below, at.1.begun))

  -- before the first object
  pub slid-first : (first place next : ℕ) (part : List ℕ) → first < length (set_bits bits) → bit heads next ≡ true → place ≡ live_below (set_bits bits) next → place ≤ first
      → ((j : ℕ) → next < j → bit heads j ≡ true → first < live_below (set_bits bits) j) → IsSlid edition words heads first place next part
  slid-first first place next part lt here at few last =
      let number = head-number heads next here in
      let k = number.0 in
      let below = head-below edition words heads bits counts tables k number.1 in
      let all = all-words edition words heads bits counts tables in
      record {
        number = k;
        known = omega (arith, number.1);
        at = omega (arith, at, below, ap (live_below (set_bits bits)) number.2);
        after = λ l from within. elim (cases_lt k l) [
          | inl above ↦ (let rises = marks-above heap sound k l above within in omega (arith, rises, number.2))
          | inr same ↦ (let e : l ≡ k = omega (arith, from, same) in omega (arith, ap mark e, number.2))
        ];
        before = λ l lower. (let rises = marks-above heap sound l k lower number.1 in omega (arith, rises, number.2));
        ahead = λ known. elim (cases_lt (k + 1) (length (marks_of heads))) [
          | inl more ↦
              let rises = marks-above heap sound k (k + 1) (omega arith) more in
              let far = last (mark (k + 1)) (omega (arith, rises, number.2)) (mark-set heads (k + 1) more) in
              omega (arith, far, head-below edition words heads bits counts tables (k + 1) more)
          | inr done ↦ omega (arith, live_words-all edition words (marks_of heads) (k + 1) done, lt, all)
        ];
        made = λ n from below_place. absurd (omega (arith, from, below_place, few));
      }

  -- there is one object more
  pub more-objects : (first place next : ℕ) (part : List ℕ) (is : IsSlid edition words heads first place next part) → place < length (set_bits bits) → is.number < length (marks_of heads)
  more-objects first place next part is lt = elim (cases_lt is.number (length (marks_of heads))) [
    | inl known ↦ known
    | inr done ↦ absurd (omega (arith, live_words-all edition words (marks_of heads) is.number done, is.at, lt, all-words edition words heads bits counts tables))
  ]

  pub next-known : (first place next : ℕ) (part : List ℕ) (is : IsSlid edition words heads first place next part) → place < length (set_bits bits) → next < 64 * length heads
  next-known first place next part is lt =
      let known = more-objects first place next part is lt in
      let inside = bit-inside heads (mark is.number) (mark-set heads is.number known) in
      omega (arith, is.after is.number (omega arith) known, inside)

  -- the next bit that is set is that of the next object
  pub next-start : (first place next : ℕ) (part : List ℕ) (is : IsSlid edition words heads first place next part) → place < length (set_bits bits) → (start : ℕ) → next ≤ start
      → ((j : ℕ) → next ≤ j → j < start → bit heads j ≡ false) → (start < 64 * length heads → bit heads start ≡ true) → start ≡ mark is.number
  next-start first place next part is lt start from none here =
      let known = more-objects first place next part is lt in
      let set = mark-set heads is.number known in
      let behind = is.after is.number (omega arith) known in
      let low : start ≤ mark is.number = elim (cases_lt (mark is.number) start) [
        | inl past ↦ absurd (both_ways (bit heads (mark is.number)) (none (mark is.number) behind past) set)
        | inr le ↦ le
      ] in
      let inside = bit-inside heads (mark is.number) set in
      let number = head-number heads start (here (omega (arith, low, inside))) in
      elim (cases_order number.0 is.number) [
        | inl same ↦ sym number.2 ∙ ap mark same
        | inr (inl less) ↦ absurd (let earlier = is.before number.0 less in omega (arith, earlier, number.2, from))
        | inr (inr more) ↦ absurd (let rises = marks-above heap sound is.number number.0 more number.1 in omega (arith, rises, number.2, low))
      ]

  -- the object is placed, and it has words at or after the first one
  pub next-placed : (first place next : ℕ) (part : List ℕ) (is : IsSlid edition words heads first place next part) → place < length (set_bits bits) → (start : ℕ) → start ≡ mark is.number
      → (start + size_of (header_at edition words start) ≤ length words) × (first < place + size_of (header_at edition words start)) × (bit heads start ≡ true)
  next-placed first place next part is lt start at =
      let known = more-objects first place next part is lt in
      let placed = sound.placed is.number 0 known in
      let own = live_words-next edition words (marks_of heads) is.number known in
      let sized = ap (λ (n : ℕ). size_of (header_at edition words n)) at in
      (omega (arith, placed.within, at, sized), omega (arith, is.ahead known, own, is.at, sized), ap (bit heads) at ∙ mark-set heads is.number known)

  -- one object more
  pub slid-next : (first place next : ℕ) (old : List ℕ) (is : IsSlid edition words heads first place next old) → place < length (set_bits bits) → (start size from stop begin : ℕ) (new : List ℕ)
      → start ≡ mark is.number → next ≤ start → size ≡ size_of (header_at edition words start) → from ≡ first - place → stop ≤ size → (size ≤ stop) ⊎ (first + length old ≤ place + stop)
      → begin ≡ place + from - first → length new ≡ length old → ((k : ℕ) → k < begin → get_or new k 0 ≡ get_or old k 0)
      → ((j : ℕ) → j < stop - from → get_or new (begin + j) 0 ≡ get_or (settled objects (object_at edition words start)) (from + j) 0)
      → IsSlid edition words heads first (place + size) (start + size) new
  slid-next first place next old is lt start size from stop begin new at behind sized offset within whole begun long kept written =
      let k = is.number in
      let known = more-objects first place next old is lt in
      let own = live_words-next edition words (marks_of heads) k known in
      let size_is : size ≡ size_of (header_at edition words (mark k)) = sized ∙ ap (λ (n : ℕ). size_of (header_at edition words n)) at in
      record {
        number = k + 1;
        known = omega (arith, known);
        at = omega (arith, own, is.at, size_is);
        after = λ l above inside. (let apart = marks-apart heap sound k l (omega (arith, above)) inside in omega (arith, apart, at, size_is));
        before = λ l lower. elim (cases_lt l k) [
          | inl earlier ↦ (let low = is.before l earlier in omega (arith, low, behind))
          | inr last ↦ (let e : l ≡ k = omega (arith, lower, last) in omega (arith, ap mark e, at, size_is))
        ];
        ahead = λ more. (let next_own = live_words-next edition words (marks_of heads) (k + 1) more in omega (arith, is.ahead known, next_own));
        made = λ n low high inside. elim (cases_lt n place) [
          | inl earlier ↦ kept (n - first) (omega (arith, earlier, low, offset, begun)) ∙ is.made n low earlier (omega (arith, inside, long))
          | inr here ↦
              let f = n - place in
              let short : f < size = omega (arith, high, here) in
              let stopped : f < stop = elim whole [ inl all ↦ omega (arith, all, short) | inr end ↦ omega (arith, end, inside, long, here) ] in
              let j = f - from in
              let place_of : n - first ≡ begin + j = omega (arith, begun, offset, here, low) in
              let word_of : from + j ≡ f = omega (arith, offset, here, low) in
              let index : live_words (take k objects) + f ≡ n = omega (arith, is.at, here) in
              let there = settled-at heap sound k f known (omega (arith, short, size_is)) in
              ap (λ (m : ℕ). get_or new m 0) place_of
              ∙ written j (omega (arith, stopped, offset, here, low))
              ∙ ap (λ (m : ℕ). get_or (settled objects (object_at edition words start)) m 0) word_of
              ∙ ap (λ (m : ℕ). get_or (settled objects (object_at edition words m)) f 0) at
              ∙ sym there
              ∙ ap (λ (m : ℕ). get_or (settled_words objects) m 0) index
        ];
      }
