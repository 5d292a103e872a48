-- The tables of a slide around objects that stay, and the places of these objects.
use Rattle.std.proofs.Common.{◌≡◌, ℕ, zero, suc, ◌+◌, ◌-◌, ◌*◌, ◌^◌, ◌<◌, ◌≤◌, ◌==◌, ◌||◌, Bool, true, false, cond, if◌then◌else◌, ltb, leb, List, [], ◌∷◌, length, get_or, take, map, inl, inr, refl, sym, ap, ◌∙◌, arith}
use Rattle.std.specs.List.{list_any}
use Rattle.std.proofs.lemmas.Bool.{cases_Bool, cases_lt, cases_order, cases_eq, both_ways, and_from, and_parts, or_cases, eq-eqb, ne_eqb, eqb-true, lt-ltb, false_from_ne_true}
use Rattle.std.proofs.lemmas.List.{length-map, take_all}
use Rattle.heap_layout.specs.declared.edition.Edition.{Edition}
use Rattle.heap_layout.specs.Bits.{bit}
use Rattle.heap_layout.specs.Header.{size_of}
use Rattle.heap_layout.specs.Heap.{Heap, Object, header_at, object_at, live, from_address, IsValue}
use Rattle.heap_layout.specs.Values.{is_immediate}
use Rattle.heap_layout.proofs.Values.{value-cases}
use Rattle.mark_tables.specs.LiveWords.{live_indices, live_words, is_live, size}
use Rattle.mark_tables.specs.MarkBitmap.{set_bits}
use Rattle.mark_tables.proofs.Passing.{passing-has}
use Rattle.page_plan.proofs.Marks.{length-live}
use Rattle.page_plan.proofs.Objects.{live-at}
use Rattle.page_plan.proofs.Ranks.{covered}
use Rattle.reachability.specs.Queue.{is_address}
use Rattle.rest_marks.specs.Reached.{IsSound}
use Rattle.rest_marks.specs.Surveys.{marks_of, told, AreTables}
use Rattle.rest_marks.proofs.Bounding.{bit-inside}
use Rattle.rest_slide.proofs.Ended.{live-bit}
use Rattle.rest_marks.proofs.Heads.{head-number, heads-lead, marks-above, marks-apart}
use Rattle.rest_slide.proofs.Placing.{index-is, starts-next}
use Rattle.pinned_heap.specs.Around.{end_from, is_address_of, led_around, place_in}
use Rattle.pinned_heap.specs.Pins.{places_from, AreInOrder}
use Rattle.pinned_heap.specs.Tables.{end_below, kept_at_place, led_to_place, place_by}

-- ---- of any objects

-- the k-th object lies where the ones before it end, or stays
pub places-at : (staying : ℕ → Bool) (next : ℕ) (objects : List Object) (k : ℕ) (d : Object) → k < length objects
    → get_or (places_from staying next objects) k 0 ≡ cond (staying (get_or objects k d).index) (get_or objects k d).index (end_from staying next (take k objects))
places-at staying next [] k d lt = absurd (omega (arith, lt))
places-at staying next (object ∷ objects) zero d lt = refl
places-at staying next (object ∷ objects) (suc k) d lt =
    places-at staying (cond (staying object.index) object.index next + size object) objects k d (omega (arith, lt))

-- and ends behind it
pub end-more : (staying : ℕ → Bool) (next : ℕ) (objects : List Object) (k : ℕ) (d : Object) → k < length objects
    → end_from staying next (take (k + 1) objects)
    ≡ cond (staying (get_or objects k d).index) (get_or objects k d).index (end_from staying next (take k objects)) + size (get_or objects k d)
end-more staying next [] k d lt = absurd (omega (arith, lt))
end-more staying next (object ∷ objects) zero d lt = refl
end-more staying next (object ∷ objects) (suc k) d lt =
    let one : suc k + 1 ≡ suc (k + 1) = omega arith in
    let rest = end-more staying (cond (staying object.index) object.index next + size object) objects k d (omega (arith, lt)) in
    ap (λ (n : ℕ). end_from staying next (take n (object ∷ objects))) one ∙ rest

-- no object lies below `low`
low-object : (low : ℕ) (objects : List Object) (k : ℕ) (d : Object) → AreInOrder low objects → k < length objects → low ≤ (get_or objects k d).index
low-object low [] k d order lt = absurd (omega (arith, lt))
low-object low (object ∷ objects) zero d order lt = order.0
low-object low (object ∷ objects) (suc k) d order lt = omega (arith, order.0, low-object (object.index + size object) objects k d order.1 (omega (arith, lt)))

-- the search by index finds its place
pub place-found : (staying : ℕ → Bool) (low next : ℕ) (objects : List Object) (k : ℕ) (d : Object) → AreInOrder low objects → k < length objects
    → place_in staying next objects (get_or objects k d).index ≡ get_or (places_from staying next objects) k 0
place-found staying low next [] k d order lt = absurd (omega (arith, lt))
place-found staying low next (object ∷ objects) zero d order lt =
    let start = cond (staying object.index) object.index next in
    ap (λ (b : Bool). cond b start (place_in staying (start + size object) objects object.index)) (eq-eqb object.index object.index refl)
place-found staying low next (object ∷ objects) (suc k) d order lt =
    let start = cond (staying object.index) object.index next in
    let i = (get_or objects k d).index in
    let far : object.index + size object ≤ i = low-object (object.index + size object) objects k d order.1 (omega (arith, lt)) in
    ap (λ (b : Bool). cond b start (place_in staying (start + size object) objects i)) (ne_eqb object.index i (λ same. omega (arith, same, far)))
    ∙ place-found staying (object.index + size object) (start + size object) objects k d order.1 (omega (arith, lt))

-- the objects of marks that lie apart are in order
order-from : (edition : Edition) (words : List ℕ) (low : ℕ) (marks : List ℕ) → (0 < length marks → low ≤ get_or marks 0 0)
    → ((k : ℕ) → suc k < length marks → get_or marks k 0 + size_of (header_at edition words (get_or marks k 0)) ≤ get_or marks (suc k) 0)
    → AreInOrder low (map (object_at edition words) marks)
order-from edition words low [] first apart = tt
order-from edition words low (mark ∷ marks) first apart =
    (first (omega arith), order-from edition words (mark + size_of (header_at edition words mark)) marks (λ some. apart 0 (omega (arith, some))) (λ k lt. apart (suc k) (omega (arith, lt))))

-- those of a sound heap
pub in-order : (heap : Heap) → IsSound heap → AreInOrder 0 (live heap)
in-order heap sound =
    order-from heap.edition heap.words 0 heap.marks (λ some. omega arith)
    (λ k lt. let e : suc k ≡ k + 1 = omega arith in rw e (sound.apart k (omega (arith, lt))))

-- a word is the address of an object, by the marks
pub address-marked : (edition : Edition) (words marks : List ℕ) (word : ℕ) → is_address_of (map (object_at edition words) marks) word ≡ list_any (λ mark. from_address mark == word) marks
address-marked edition words [] word = refl
address-marked edition words (mark ∷ marks) word = ap (λ (b : Bool). (from_address mark == word) || b) (address-marked edition words marks word)

-- null is no object's
null-marked : (marks : List ℕ) → list_any (λ mark. from_address mark == 0) marks ≡ false
null-marked [] = refl
null-marked (mark ∷ marks) = ap (λ (b : Bool). b || list_any (λ m. from_address m == 0) marks) (ne_eqb (from_address mark) 0 (λ same. omega (arith, same))) ∙ null-marked marks

-- a word is the address of a live object, by the bits
pub address-marks : (heads : List ℕ) (word : ℕ) → is_address (bit heads) word ≡ list_any (λ mark. from_address mark == word) (marks_of heads)
address-marks heads word = elim (cases_eq word 0) [
  | inl null ↦ ap (is_address (bit heads)) null ∙ sym (null-marked (marks_of heads)) ∙ ap (λ (w : ℕ). list_any (λ m. from_address m == w) (marks_of heads)) (sym null)
  | inr other ↦
      let some = ne_eqb word 0 other in
      let both = ap (λ (test : ℕ → Bool). test word) (heads-lead heads) in
      ap (λ (b : Bool). b || is_address (bit heads) word) (sym some)
      ∙ both
      ∙ ap (λ (b : Bool). b || list_any (λ m. from_address m == word) (marks_of heads)) some
]

-- ---- of any tables

-- no word goes up
pub end-low : (live staying : ℕ → Bool) (i : ℕ) → end_below live staying i ≤ i
end-low live staying zero = omega arith
end-low live staying (suc i) =
    let low = end-low live staying i in
    let one : (if live i then 1 else 0) ≤ 1 = elim (live i) as (λ b. (if b then 1 else 0) ≤ 1) [ true ↦ omega arith | false ↦ omega arith ] in
    let start : cond (staying i) i (end_below live staying i) ≤ i =
    elim (staying i) as (λ b. cond b i (end_below live staying i) ≤ i) [ true ↦ omega arith | false ↦ low ] in
    omega (arith, one, start)

-- among n words that are not live and do not stay nothing changes
pub end-gap : (live staying : ℕ → Bool) (a n : ℕ) → ((j : ℕ) → a ≤ j → j < a + n → (live j ≡ false) × (staying j ≡ false)) → end_below live staying (a + n) ≡ end_below live staying a
end-gap live staying a zero none = let e : a + 0 ≡ a = omega arith in ap (end_below live staying) e
end-gap live staying a (suc n) none =
    let e : a + suc n ≡ suc (a + n) = omega arith in
    let here = none (a + n) (omega arith) (omega arith) in
    let rest = end-gap live staying a n (λ j le lt. none j le (omega (arith, lt))) in
    let zero_more : end_below live staying (a + n) + 0 ≡ end_below live staying (a + n) = omega arith in
    ap (end_below live staying) e
    ∙ ap (λ (b : Bool). cond b (a + n) (end_below live staying (a + n)) + (if live (a + n) then 1 else 0)) here.1
    ∙ ap (λ (b : Bool). end_below live staying (a + n) + (if b then 1 else 0)) here.0
    ∙ zero_more ∙ rest

-- the live words of an object, of which the first one may stay, go side by side
pub end-run : (live staying : ℕ → Bool) (a n : ℕ) → ((j : ℕ) → a ≤ j → j < a + suc n → live j ≡ true) → ((j : ℕ) → a < j → j < a + suc n → staying j ≡ false)
    → end_below live staying (a + suc n) ≡ cond (staying a) a (end_below live staying a) + suc n
end-run live staying a zero all none =
    let e : a + 1 ≡ suc a = omega arith in
    ap (end_below live staying) e
    ∙ ap (λ (b : Bool). cond (staying a) a (end_below live staying a) + (if b then 1 else 0)) (all a (omega arith) (omega arith))
end-run live staying a (suc n) all none =
    let e : a + suc (suc n) ≡ suc (a + suc n) = omega arith in
    let at = a + suc n in
    let rest = end-run live staying a n (λ j le lt. all j le (omega (arith, lt))) (λ j le lt. none j le (omega (arith, lt))) in
    let first = cond (staying a) a (end_below live staying a) in
    let more : first + suc n + 1 ≡ first + suc (suc n) = omega arith in
    ap (end_below live staying) e
    ∙ ap (λ (b : Bool). cond b at (end_below live staying at) + (if live at then 1 else 0)) (none at (omega arith) (omega arith))
    ∙ ap (λ (b : Bool). end_below live staying at + (if b then 1 else 0)) (all at (omega arith) (omega arith))
    ∙ ap (λ (m : ℕ). m + 1) rest ∙ more

-- where a live word is in their list
place-live : (xs : List ℕ) (j : ℕ) → is_live xs j ≡ true → (n : ℕ) × (n < length xs) × (get_or xs n 0 ≡ j)
place-live [] j there = absurd (let no : false ≡ true = there in cc)
place-live (x ∷ xs) j there = elim (or_cases (x == j) (is_live xs j) there) [
  | inl here ↦ (0, omega arith, eqb-true x j here)
  | inr later ↦ (let at = place-live xs j later in (suc at.0, omega (arith, at.1), at.2))
]

-- a reference, which is null, an immediate or the address of a live object, leads where a weak word does
pub same-kept : (edition : Edition) (heads bits stays : List ℕ) (word : ℕ) → IsValue edition (marks_of heads) word → led_to_place edition bits stays word ≡ kept_at_place edition heads bits stays word
same-kept edition heads bits stays word value = elim (cases_Bool (is_immediate edition word)) [
  | inl is ↦
      ap (λ (b : Bool). cond b word (cond (word == 0) 0 (from_address (place_by bits stays (word - 2 ^ 32))))) is
      ∙ ap (λ (b : Bool). cond b word (cond (is_address (bit heads) word) (from_address (place_by bits stays (word - 2 ^ 32))) 0)) (sym is)
  | inr plain ↦ ap (cond (is_immediate edition word) word) (elim (value-cases edition (marks_of heads) word value) [
    | inl immediate ↦ absurd (both_ways (is_immediate edition word) plain immediate)
    | inr target ↦ elim (cases_eq word 0) [
      | inl null ↦
          ap (λ (w : ℕ). cond (w == 0) 0 (from_address (place_by bits stays (w - 2 ^ 32)))) null
          ∙ ap (λ (w : ℕ). cond (is_address (bit heads) w) (from_address (place_by bits stays (w - 2 ^ 32))) 0) (sym null)
      | inr other ↦
          let some = ne_eqb word 0 other in
          let is : is_address (bit heads) word ≡ true =
          ap (λ (b : Bool). b || is_address (bit heads) word) (sym some)
          ∙ ap (λ (test : ℕ → Bool). test word) (heads-lead heads)
          ∙ target in
          ap (λ (b : Bool). cond b 0 (from_address (place_by bits stays (word - 2 ^ 32)))) some
          ∙ ap (λ (b : Bool). cond b (from_address (place_by bits stays (word - 2 ^ 32))) 0) (sym is)
    ]
  ])
]

-- ---- of a survey's

module _ (edition : Edition) (words heads bits counts stays : List ℕ) (tables : AreTables edition words heads bits counts)
    (objects-stay : (i : ℕ) → bit stays i ≡ true → bit heads i ≡ true) where
  abbrev heap : Heap
  heap = told edition words heads

  abbrev objects : List Object
  objects = live heap

  abbrev mark : ℕ → ℕ
  mark k = get_or (marks_of heads) k 0

  abbrev size_at : ℕ → ℕ
  size_at k = size_of (header_at edition words (mark k))

  abbrev starts : ℕ → ℕ
  starts k = live_words (take k objects)

  abbrev ended : ℕ → ℕ
  ended i = end_below (bit bits) (bit stays) i

  abbrev first : Object
  first = object_at edition words 0

  many : length objects ≡ length (marks_of heads)
  many = length-map (marks_of heads) (object_at edition words)

  -- the k-th live object
  pub object-is : (k : ℕ) → get_or objects k first ≡ object_at edition words (mark k)
  object-is k = live-at edition words (marks_of heads) k

  -- a live word is a word of an object
  pub owner : (j : ℕ) → bit bits j ≡ true → (k : ℕ) × (k < length (marks_of heads)) × (mark k ≤ j) × (j < mark k + size_at k)
  owner j set =
      let in_bits : is_live (set_bits bits) j ≡ true = passing-has (bit bits) (64 * length bits) j ∙ and_from (ltb j (64 * length bits)) (bit bits j) (lt-ltb j (64 * length bits) (bit-inside bits j set)) set in
      let there : is_live (live_indices objects) j ≡ true = ap (λ (xs : List ℕ). is_live xs j) (sym tables.indices) ∙ in_bits in
      let place = place-live (live_indices objects) j there in
      let n = place.0 in
      let at = covered objects n (omega (arith, place.1, length-live objects)) in
      let k = at.0 in
      let known : k < length (marks_of heads) = omega (arith, at.1.known, many) in
      let f = n - starts k in
      let few : f < size_at k = omega (arith, at.1.begun, at.1.ends, starts-next heap tables.sound 0 k known) in
      let index : starts k + f ≡ n = omega (arith, at.1.begun) in
      let here : mark k + f ≡ j = sym (index-is heap tables.sound 0 k f known few) ∙ ap (λ (m : ℕ). get_or (live_indices objects) m 0) index ∙ place.2 in
      (k, known, omega (arith, here), omega (arith, here, few))

  -- a word of no object is not live, and does not stay
  pub outside : (j : ℕ) → ((k : ℕ) → k < length (marks_of heads) → mark k ≤ j → j < mark k + size_at k → ⊥) → (bit bits j ≡ false) × (bit stays j ≡ false)
  outside j none = (
    false_from_ne_true (bit bits j) (λ set. let at = owner j set in none at.0 at.1 at.2 at.3),
    false_from_ne_true (bit stays j) (λ set.
        let number = head-number heads j (objects-stay j set) in
        none number.0 number.1 (omega (arith, number.2)) (omega (arith, number.2))),
  )

  -- the words of an object are live
  pub inner : (k j : ℕ) → k < length (marks_of heads) → mark k ≤ j → j < mark k + size_at k → bit bits j ≡ true
  inner k j known le lt =
      let at : mark k + (j - mark k) ≡ j = omega (arith, le) in
      ap (bit bits) (sym at) ∙ live-bit edition words heads bits counts tables k (j - mark k) known (omega (arith, le, lt))

  -- and only its first word may stay
  pub still : (k j : ℕ) → k < length (marks_of heads) → mark k < j → j < mark k + size_at k → bit stays j ≡ false
  still k j known above lt = false_from_ne_true (bit stays j) (λ set.
      let number = head-number heads j (objects-stay j set) in
      elim (cases_order number.0 k) [
        | inl same ↦ (let e = ap mark same in omega (arith, e, number.2, above))
        | inr (inl less) ↦ (let rise = marks-above heap tables.sound number.0 k less known in omega (arith, rise, number.2, above))
        | inr (inr more) ↦ (let apart = marks-apart heap tables.sound k number.0 more number.1 in omega (arith, apart, number.2, lt))
      ])

  -- behind an object
  behind : (k : ℕ) → k < length (marks_of heads) → ended (mark k) ≡ end_from (bit stays) 0 (take k objects)
      → ended (mark k + size_at k) ≡ end_from (bit stays) 0 (take (k + 1) objects)
  behind k known before =
      let n = size_at k - 1 in
      let own : size_at k ≡ suc n = omega arith in
      let run = end-run (bit bits) (bit stays) (mark k) n (λ j le lt. inner k j known le (omega (arith, lt, own))) (λ j above lt. still k j known above (omega (arith, lt, own))) in
      let more = end-more (bit stays) 0 objects k first (omega (arith, known, many)) in
      let object = object-is k in
      ap (λ (m : ℕ). ended (mark k + m)) own
      ∙ run
      ∙ ap (λ (m : ℕ). cond (bit stays (mark k)) (mark k) m + suc n) before
      ∙ ap (λ (m : ℕ). cond (bit stays (mark k)) (mark k) (end_from (bit stays) 0 (take k objects)) + m) (sym own)
      ∙ ap (λ (o : Object). cond (bit stays o.index) o.index (end_from (bit stays) 0 (take k objects)) + size o) (sym object)
      ∙ sym more

  -- nor is one behind an object and before the next one
  pub between : (k j : ℕ) → k < length (marks_of heads) → mark k + size_at k ≤ j → (suc k < length (marks_of heads) → j < mark (suc k)) → (bit bits j ≡ false) × (bit stays j ≡ false)
  between k j known le next = outside j (λ l found begun within.
      elim (cases_lt k l) [
        | inl above ↦ (let under = next (omega (arith, above, found)) in elim (cases_eq l (suc k)) [
          | inl same ↦ (let e = ap mark same in omega (arith, e, begun, under))
          | inr other ↦ (let rise = marks-above heap tables.sound (suc k) l (omega (arith, above, other)) found in omega (arith, rise, begun, under))
        ])
        | inr low ↦ elim (cases_eq l k) [
          | inl same ↦ (let e = ap mark same in let s = ap size_at same in omega (arith, e, s, within, le))
          | inr other ↦ (let past = marks-apart heap tables.sound l k (omega (arith, low, other)) known in omega (arith, past, within, le))
        ]
      ])

  -- or before the first one
  pub ahead : (j : ℕ) → (0 < length (marks_of heads) → j < mark 0) → (bit bits j ≡ false) × (bit stays j ≡ false)
  ahead j first_above = outside j (λ k known begun within.
      let under = first_above (omega (arith, known)) in
      elim (cases_lt 0 k) [
        | inl some ↦ (let rise = marks-above heap tables.sound 0 k some known in omega (arith, rise, begun, under))
        | inr none ↦ (let e : k ≡ 0 = omega (arith, none) in let same = ap mark e in omega (arith, same, begun, under))
      ])

  -- an object ends within the bits
  pub end-inside : (k : ℕ) → k < length (marks_of heads) → mark k + size_at k ≤ 64 * length bits
  end-inside k known =
      let last = mark k + (size_at k - 1) in
      let inside = bit-inside bits last (inner k last known (omega arith) (omega arith)) in
      omega (arith, inside)

  -- the k objects before end where the next one would go
  pub link-end : (k : ℕ) → k < length (marks_of heads) → end_below (bit bits) (bit stays) (get_or (marks_of heads) k 0) ≡ end_from (bit stays) 0 (take k (live (told edition words heads)))
  link-end zero lt =
      let whole : 0 + mark 0 ≡ mark 0 = omega arith in
      ap ended (sym whole) ∙ end-gap (bit bits) (bit stays) 0 (mark 0) (λ j le under. ahead j (λ some. omega (arith, under)))
  link-end (suc k) lt =
      let known : k < length (marks_of heads) = omega (arith, lt) in
      let one : k + 1 ≡ suc k = omega arith in
      let end = mark k + size_at k in
      let apart : end ≤ mark (suc k) = marks-apart heap tables.sound k (suc k) (omega arith) lt in
      let whole : end + (mark (suc k) - end) ≡ mark (suc k) = omega (arith, apart) in
      ap ended (sym whole)
      ∙ end-gap (bit bits) (bit stays) end (mark (suc k) - end) (λ j le under. between k j known le (λ more. omega (arith, under, whole)))
      ∙ behind k known (link-end k known)
      ∙ ap (λ (n : ℕ). end_from (bit stays) 0 (take n objects)) one

  -- with the last one they end where all live words do
  pub link-behind : (k : ℕ) → k < length (marks_of heads)
      → end_below (bit bits) (bit stays) (get_or (marks_of heads) k 0 + size_of (header_at edition words (get_or (marks_of heads) k 0))) ≡ end_from (bit stays) 0 (take (k + 1) (live (told edition words heads)))
  link-behind k known = behind k known (link-end k known)

  -- and so do all objects
  ended-by : (n : ℕ) → length (marks_of heads) ≡ n → ended (64 * length bits) ≡ end_from (bit stays) 0 objects
  ended-by zero none =
      let whole : 0 + 64 * length bits ≡ 64 * length bits = omega arith in
      let all : take 0 objects ≡ objects = take_all 0 objects (omega (arith, none, many)) in
      ap ended (sym whole)
      ∙ end-gap (bit bits) (bit stays) 0 (64 * length bits) (λ j le under. ahead j (λ some. absurd (omega (arith, some, none))))
      ∙ ap (end_from (bit stays) 0) all
  ended-by (suc k) count =
      let known : k < length (marks_of heads) = omega (arith, count) in
      let end = mark k + size_at k in
      let inside = end-inside k known in
      let whole : end + (64 * length bits - end) ≡ 64 * length bits = omega (arith, inside) in
      let all : take (k + 1) objects ≡ objects = take_all (k + 1) objects (omega (arith, count, many)) in
      ap ended (sym whole)
      ∙ end-gap (bit bits) (bit stays) end (64 * length bits - end) (λ j le under. between k j known le (λ more. absurd (omega (arith, more, count))))
      ∙ link-behind k known
      ∙ ap (end_from (bit stays) 0) all

  pub link-all : end_below (bit bits) (bit stays) (64 * length bits) ≡ end_from (bit stays) 0 (live (told edition words heads))
  link-all = ended-by (length (marks_of heads)) refl

  -- the k-th live object goes where places_from says
  pub link-place : (k : ℕ) → k < length (marks_of heads) → place_by bits stays (get_or (marks_of heads) k 0) ≡ get_or (places_from (bit stays) 0 (live (told edition words heads))) k 0
  link-place k known =
      ap (λ (m : ℕ). cond (bit stays (mark k)) (mark k) m) (link-end k known)
      ∙ ap (λ (o : Object). cond (bit stays o.index) o.index (end_from (bit stays) 0 (take k objects))) (sym (object-is k))
      ∙ sym (places-at (bit stays) 0 objects k first (omega (arith, known, many)))

  -- no word goes up
  pub link-low : (i : ℕ) → end_below (bit bits) (bit stays) i ≤ i
  link-low i = end-low (bit bits) (bit stays) i

  -- the search by index finds the place of a live object
  pub link-found : (i : ℕ) → bit heads i ≡ true → place_by bits stays i ≡ place_in (bit stays) 0 (live (told edition words heads)) i
  link-found i set =
      let number = head-number heads i set in
      let k = number.0 in
      let found = place-found (bit stays) 0 0 objects k first (in-order heap tables.sound) (omega (arith, number.1, many)) in
      ap (place_by bits stays) (sym number.2)
      ∙ link-place k number.1
      ∙ sym found
      ∙ ap (λ (o : Object). place_in (bit stays) 0 objects o.index) (object-is k)
      ∙ ap (place_in (bit stays) 0 objects) number.2

  -- a word is the address of a live object, by the bits
  pub link-address : (word : ℕ) → is_address (bit heads) word ≡ is_address_of (live (told edition words heads)) word
  link-address word = address-marks heads word ∙ sym (address-marked edition words (marks_of heads) word)

  abbrev around : ℕ → ℕ
  around word = from_address (place_in (bit stays) 0 objects (word - 2 ^ 32))

  -- such an address
  found : (word : ℕ) → is_address (bit heads) word ≡ true → from_address (place_by bits stays (word - 2 ^ 32)) ≡ around word
  found word is =
      ap from_address (link-found (word - 2 ^ 32) (and_parts (leb (2 ^ 32) word) (bit heads (word - 2 ^ 32)) is).1)

  -- roots and weak words lead where the definition says
  pub kept-value : (word : ℕ) → kept_at_place edition heads bits stays word ≡ led_around edition (bit stays) (live (told edition words heads)) word
  kept-value word =
      ap (cond (is_immediate edition word) word)
      (elim (cases_Bool (is_address (bit heads) word)) [
        | inl is ↦
            ap (λ (b : Bool). cond b (from_address (place_by bits stays (word - 2 ^ 32))) 0) is
            ∙ found word is
            ∙ ap (λ (b : Bool). cond b (around word) 0) (sym is ∙ link-address word)
        | inr fails ↦
            ap (λ (b : Bool). cond b (from_address (place_by bits stays (word - 2 ^ 32))) 0) fails
            ∙ ap (λ (b : Bool). cond b (around word) 0) (sym fails ∙ link-address word)
      ])
