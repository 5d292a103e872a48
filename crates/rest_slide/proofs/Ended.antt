-- Where a live object ends, by the bits of the heads and of the live words.
use Rattle.std.proofs.Common.{◌≡◌, ℕ, zero, suc, ◌+◌, ◌-◌, ◌*◌, ◌<◌, ◌≤◌, ◌==◌, ◌⊎◌, Bool, if◌then◌else◌, true, false, ltb, min, List, [], ◌∷◌, length, get_or, take, inl, inr, sym, ap, ◌∙◌, arith, length-append}
use Rattle.std.proofs.lemmas.Bool.{cases_lt, cases_order, cases_Bool, both_ways, and_parts, eq-eqb, false_from_ne_true}
use Rattle.heap_layout.specs.declared.edition.Edition.{Edition}
use Rattle.heap_layout.specs.Bits.{bit}
use Rattle.heap_layout.specs.Header.{size_of}
use Rattle.heap_layout.specs.Heap.{Heap, header_at, live}
use Rattle.mark_tables.specs.MarkBitmap.{passing, set_bits}
use Rattle.mark_tables.specs.LiveWords.{live_below, is_live}
use Rattle.mark_tables.proofs.Passing.{passing-below, passing-few, passing-has}
use Rattle.page_plan.specs.Sliding.{live_words}
use Rattle.page_plan.proofs.Objects.{live_words-all}
use Rattle.rest_marks.specs.Surveys.{marks_of, told, AreTables}
use Rattle.rest_marks.proofs.Bounding.{bit-inside}
use Rattle.rest_marks.proofs.Counts.{passing-more, below-more}
use Rattle.rest_marks.proofs.Heads.{head-number, mark-set, any-at, marks-above, marks-apart, head-below, all-words}
use Rattle.rest_slide.proofs.Placing.{places-rise, starts-next, index-is}

-- ---- of any bits

-- no more live words are below a word than words
pub live-few : (bits : List ℕ) (i : ℕ) → i ≤ 64 * length bits → live_below (set_bits bits) i ≤ i
live-few bits i le =
    let least : min i (64 * length bits) ≡ i = omega (arith, le) in
    omega (arith, passing-below (bit bits) (64 * length bits) i, ap (λ (n : ℕ). length (passing (bit bits) n)) least, passing-few (bit bits) i)

-- as many or more are below a later one
pub live-rises : (bits : List ℕ) (i next count : ℕ) → i ≤ 64 * length bits → i ≤ next → (next < 64 * length bits → count ≡ live_below (set_bits bits) next)
    → (64 * length bits ≤ next → count ≡ length (set_bits bits)) → live_below (set_bits bits) i ≤ count
live-rises bits i next count le order below all =
    let least : min i (64 * length bits) ≡ i = omega (arith, le) in
    let here = passing-below (bit bits) (64 * length bits) i in
    let same = ap (λ (n : ℕ). length (passing (bit bits) n)) least in
    elim (cases_lt next (64 * length bits)) [
      | inl inside ↦ omega (arith, below inside, below-more bits i next order le, here, same)
      | inr past ↦
          let whole : i + (64 * length bits - i) ≡ 64 * length bits = omega (arith, le) in
          omega (arith, all past, passing-more (bit bits) i (64 * length bits - i), ap (λ (n : ℕ). length (passing (bit bits) n)) whole, here, same)
    ]

-- ---- of a survey's

module _ (edition : Edition) (ws heads bits counts : List ℕ) (tables : AreTables edition ws heads bits counts) where
  abbrev heap : Heap
  heap = told edition ws heads

  abbrev mark : ℕ → ℕ
  mark k = get_or (marks_of heads) k 0

  abbrev size_at : ℕ → ℕ
  size_at k = size_of (header_at edition ws (mark k))

  abbrev starts : ℕ → ℕ
  starts k = live_words (take k (live heap))

  -- how many live words are below word i
  abbrev before : ℕ → ℕ
  before i = length (passing (bit bits) i)

  counted : (i : ℕ) → i ≤ 64 * length bits → live_below (set_bits bits) i ≡ before i
  counted i le =
      let least : min i (64 * length bits) ≡ i = omega (arith, le) in
      passing-below (bit bits) (64 * length bits) i ∙ ap before least

  rises : (i j : ℕ) → i ≤ j → before i ≤ before j
  rises i j le =
      let whole : i + (j - i) ≡ j = omega (arith, le) in
      omega (arith, passing-more (bit bits) i (j - i), ap before whole)

  step : (i : ℕ) → bit bits i ≡ true → before (suc i) ≡ suc (before i)
  step i set =
      length-append (passing (bit bits) i) (if bit bits i then i ∷ [] else [])
      ∙ ap (λ (b : Bool). before i + length (if b then i ∷ [] else [])) set
      ∙ omega arith

  -- all live words lie in front of the next object
  pub all-before : (k : ℕ) → k < length (marks_of heads) → starts (k + 1) ≤ length (set_bits bits)
  all-before k known = elim (cases_lt (k + 1) (length (marks_of heads))) [
    | inl more ↦
        let rise = places-rise (live heap) (k + 1) (length (marks_of heads)) (omega (arith, more)) in
        omega (arith, rise, live_words-all edition ws (marks_of heads) (length (marks_of heads)) (omega arith), all-words edition ws heads bits counts tables)
    | inr done ↦ omega (arith, live_words-all edition ws (marks_of heads) (k + 1) done, all-words edition ws heads bits counts tables)
  ]

  -- each word of a live object is live
  pub live-bit : (k w : ℕ) → k < length (marks_of heads) → w < size_at k → bit bits (mark k + w) ≡ true
  live-bit k w known inside =
      let n = starts k + w in
      let own = starts-next heap tables.sound 0 k known in
      let few : n < length (set_bits bits) = omega (arith, own, inside, all-before k known) in
      let at : get_or (set_bits bits) n 0 ≡ mark k + w = ap (λ (xs : List ℕ). get_or xs n 0) tables.indices ∙ index-is heap tables.sound 0 k w known inside in
      let there : is_live (set_bits bits) (mark k + w) ≡ true = any-at (λ j. j == (mark k + w)) (set_bits bits) n few (eq-eqb (get_or (set_bits bits) n 0) (mark k + w) at) in
      (and_parts (ltb (mark k + w) (64 * length bits)) (bit bits (mark k + w)) (sym (passing-has (bit bits) (64 * length bits) (mark k + w)) ∙ there)).1

  pub mark-inside : (k : ℕ) → k < length (marks_of heads) → mark k < 64 * length bits
  mark-inside k known = omega (arith, bit-inside heads (mark k) (mark-set heads k known), tables.same)

  -- so many live words are below it
  count-at : (k w : ℕ) → k < length (marks_of heads) → w ≤ size_at k → before (mark k + w) ≡ starts k + w
  count-at k zero known le =
      let first : mark k + 0 ≡ mark k = omega arith in
      let inside = mark-inside k known in
      omega (arith, ap before first, counted (mark k) (omega (arith, inside)), head-below edition ws heads bits counts tables k known)
  count-at k (suc w) known le =
      let next : mark k + suc w ≡ suc (mark k + w) = omega arith in
      let inner = count-at k w known (omega (arith, le)) in
      omega (arith, ap before next, step (mark k + w) (live-bit k w known (omega (arith, le))), inner)

  -- no other object starts in it
  pub no-head : (k j : ℕ) → k < length (marks_of heads) → mark k < j → j < mark k + size_at k → bit heads j ≡ false
  no-head k j known above lt = false_from_ne_true (bit heads j) (λ set.
      let number = head-number heads j set in
      elim (cases_order number.0 k) [
        | inl same ↦ (let e = ap mark same in omega (arith, e, number.2, above))
        | inr (inl less) ↦ (let rise = marks-above heap tables.sound number.0 k less known in omega (arith, rise, number.2, above))
        | inr (inr more) ↦ (let apart = marks-apart heap tables.sound k number.0 more number.1 in omega (arith, apart, number.2, lt))
      ])

  -- an end in front of the next object, or where it starts: no more live words are below it than below that
  pub before-next : (k end : ℕ) → k < length (marks_of heads) → end ≤ 64 * length bits → ((j : ℕ) → mark k < j → j < end → bit heads j ≡ false) → before end ≤ starts (k + 1)
  before-next k end known le none = elim (cases_lt (k + 1) (length (marks_of heads))) [
    | inl more ↦
        let next = mark (k + 1) in
        let above = marks-above heap tables.sound k (k + 1) (omega arith) more in
        let ahead : end ≤ next = elim (cases_lt next end) [
          | inl past ↦ absurd (both_ways (bit heads next) (none next above past) (mark-set heads (k + 1) more))
          | inr low ↦ low
        ] in
        let inside = mark-inside (k + 1) more in
        omega (arith, rises end next ahead, counted next (omega (arith, inside)), head-below edition ws heads bits counts tables (k + 1) more)
    | inr done ↦
        omega (arith, rises end (64 * length bits) le, live_words-all edition ws (marks_of heads) (k + 1) done, all-words edition ws heads bits counts tables)
  ]

  -- a live word right behind a live object is the first one of the next
  pub next-is-head : (k end : ℕ) → k < length (marks_of heads) → end ≡ mark k + size_at k → bit bits end ≡ true → bit heads end ≡ true
  next-is-head k end known at set = elim (cases_Bool (bit heads end)) [
    | inl head ↦ head
    | inr other ↦ absurd (
        let here = count-at k (size_at k) known (omega arith) in
        let own = starts-next heap tables.sound 0 k known in
        let inside = bit-inside bits end set in
        let least = before-next k (suc end) known (omega (arith, inside)) (λ j above lt. elim (cases_lt j end) [
          | inl low ↦ no-head k j known above (omega (arith, low, at))
          | inr last ↦ (let e : j ≡ end = omega (arith, lt, last) in ap (bit heads) e ∙ other)
        ]) in
        omega (arith, least, step end set, ap before at, here, own))
  ]

  -- the facts of an end
  pub record IsEnd (start size end count : ℕ) : Type 0 where
    pub at : end ≡ start + size
    pub inside : end ≤ 64 * length bits
    pub below : end < 64 * length bits → count ≡ live_below (set_bits bits) end
    pub all : 64 * length bits ≤ end → count ≡ length (set_bits bits)

  -- how many live words are below it
  end-count : (start size end count : ℕ) → IsEnd start size end count → count ≡ before end
  end-count start size end count is = elim (cases_lt end (64 * length bits)) [
    | inl lt ↦ is.below lt ∙ counted end (omega (arith, lt))
    | inr le ↦ (let last : end ≡ 64 * length bits = omega (arith, le, is.inside) in is.all le ∙ sym (ap before last))
  ]

  -- the end of an object: its words are live, and no other object starts in it, and none of its words is behind it
  pub had-size : (start place size end count : ℕ) → bit heads start ≡ true → place ≡ live_below (set_bits bits) start → 0 < size → IsEnd start size end count → count ≡ place + size
      → ((j : ℕ) → start < j → j < end → bit heads j ≡ false) → (end ≡ 64 * length bits) ⊎ ((bit bits end ≡ false) ⊎ (bit heads end ≡ true)) → size ≡ size_of (header_at edition ws start)
  had-size start place size end count here placed some is many none behind =
      let number = head-number heads start here in
      let k = number.0 in
      let known = number.1 in
      let own : size_of (header_at edition ws start) ≡ size_at k = ap (λ (n : ℕ). size_of (header_at edition ws n)) (sym number.2) in
      let next = starts-next heap tables.sound 0 k known in
      let first : place ≡ starts k = omega (arith, placed, ap (live_below (set_bits bits)) number.2, head-below edition ws heads bits counts tables k known) in
      elim (cases_order size (size_at k)) [
        | inl same ↦ omega (arith, same, own)
        | inr (inl short) ↦ absurd (
            let at : end ≡ mark k + size = omega (arith, is.at, number.2) in
            let live : bit bits end ≡ true = ap (bit bits) at ∙ live-bit k size known short in
            elim behind [
              | inl last ↦ (let inside = bit-inside bits end live in omega (arith, inside, last))
              | inr (inl dead) ↦ both_ways (bit bits end) dead live
              | inr (inr head) ↦ both_ways (bit heads end) (no-head k end known (omega (arith, at, some)) (omega (arith, at, short))) head
            ])
        | inr (inr long) ↦ absurd (
            let least = before-next k end known is.inside (λ j above lt. none j (omega (arith, above, number.2)) lt) in
            omega (arith, least, end-count start size end count is, many, first, next, long))
      ]

  -- an object that has its size has such an end
  pub size-count : (start place size end count : ℕ) → bit heads start ≡ true → place ≡ live_below (set_bits bits) start → IsEnd start size end count
      → size ≡ size_of (header_at edition ws start) → count ≡ place + size
  size-count start place size end count here placed is same =
      let number = head-number heads start here in
      let k = number.0 in
      let known = number.1 in
      let own : size_of (header_at edition ws start) ≡ size_at k = ap (λ (n : ℕ). size_of (header_at edition ws n)) (sym number.2) in
      let at : end ≡ mark k + size_at k = omega (arith, is.at, number.2, same, own) in
      omega (
        arith,
        end-count start size end count is,
        ap before at,
        count-at k (size_at k) known (omega arith),
        placed,
        ap (live_below (set_bits bits)) number.2,
        head-below edition ws heads bits counts tables k known,
        same,
        own,
      )

  pub size-no-head : (start size j : ℕ) → bit heads start ≡ true → size ≡ size_of (header_at edition ws start) → start < j → j < start + size → bit heads j ≡ false
  size-no-head start size j here same above lt =
      let number = head-number heads start here in
      let own : size_of (header_at edition ws start) ≡ size_at number.0 = ap (λ (n : ℕ). size_of (header_at edition ws n)) (sym number.2) in
      no-head number.0 j number.1 (omega (arith, above, number.2)) (omega (arith, lt, number.2, same, own))

  pub size-behind : (start size end : ℕ) → bit heads start ≡ true → size ≡ size_of (header_at edition ws start) → end ≡ start + size → bit bits end ≡ true → bit heads end ≡ true
  size-behind start size end here same at set =
      let number = head-number heads start here in
      let own : size_of (header_at edition ws start) ≡ size_at number.0 = ap (λ (n : ℕ). size_of (header_at edition ws n)) (sym number.2) in
      next-is-head number.0 end number.1 (omega (arith, at, number.2, same, own)) set

  -- it lies within the bits
  pub size-inside : (start size : ℕ) → bit heads start ≡ true → size ≡ size_of (header_at edition ws start) → 0 < size → start + size ≤ 64 * length bits
  size-inside start size here same some =
      let number = head-number heads start here in
      let k = number.0 in
      let own : size_of (header_at edition ws start) ≡ size_at k = ap (λ (n : ℕ). size_of (header_at edition ws n)) (sym number.2) in
      let w = size - 1 in
      let last = live-bit k w number.1 (omega (arith, same, own, some)) in
      omega (arith, bit-inside bits (mark k + w) last, number.2, some)
