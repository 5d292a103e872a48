-- Words in which what was found is found, and the words of before and of now mixed.
use Rattle.std.proofs.Common.{◌≡◌, ℕ, suc, ◌+◌, ◌-◌, ◌*◌, ◌/◌, ◌<◌, ◌≤◌, ◌==◌, ◌&&◌, Bool, true, false, cond, eqb, ltb, List, [], ◌∷◌, inl, inr, length, get_or, take, refl, sym, ap, subst, ◌∙◌, arith}
use Rattle.std.specs.Cmp.{nat_eq_equiv}
use Rattle.std.specs.List.{range_with_len, IsDistinct}
use Rattle.std.proofs.lemmas.Bool.{cases_Bool, cases_lt, cases_order, and_from, eq-eqb, eqb-true, lt-ltb, ne_eqb, or_cases}
use Rattle.std.proofs.lemmas.List.{get_or_default, get_or_past, length-map}
use Rattle.std.proofs.lemmas.List.FromFn.{length-range_with_len, get_or-map-range_with_len}
use Rattle.std.proofs.lemmas.List.Sums.{sum_by-take-le}
use Rattle.std.proofs.lemmas.Map.Keys.{IsDistinct-from_apart}
use Rattle.std.proofs.lemmas.Map.Made.{length-le_from_is_member}
use Rattle.heap_layout.specs.declared.edition.Edition.{Edition}
use Rattle.heap_layout.specs.Bits.{bit}
use Rattle.heap_layout.specs.Header.{size_of}
use Rattle.heap_layout.specs.Heap.{Heap, Object, header_at, object_at, live, IsPlaced}
use Rattle.heap_layout.specs.Values.{or_immediate}
use Rattle.mark_tables.specs.MarkBitmap.{set_bits}
use Rattle.mark_tables.specs.LiveWords.{is_live, live_indices, live_words, size}
use Rattle.mark_tables.proofs.Passing.{passing-has}
use Rattle.page_plan.proofs.Marks.{length-live}
use Rattle.page_plan.proofs.Ranks.{covered}
use Rattle.reachability.proofs.Rising.{contains-had, has-contained}
use Rattle.stopped_heap.specs.Ephemerons.{AreHeld}
use Rattle.rest_marks.specs.Growing.{roots_on, AreMarked, IsGrown, IsGrownIn, IsSeenFaultOf}
use Rattle.stopped_heap.specs.Growth.{mixed, AreGrownOf, HasGrown, HasHeld, IsFoundIn, IsGrowthFaultOf, IsGrowthHeldFaultOf, IsSeenHeldFaultOf}
use Rattle.rest_marks.specs.Marks.{AllKept}
use Rattle.rest_marks.specs.Meeting.{AllLead, AreApart, AreOnce}
use Rattle.rest_marks.specs.Places.{found_in, Found}
use Rattle.rest_marks.specs.Reached.{AreReached, IsWordOf}
use Rattle.rest_marks.specs.Surveys.{marks_of, told}
use Rattle.rest_marks.specs.declared.fault.SurveyFault.{SurveyFault}
use Rattle.stopped_heap.proofs.AskedAll.{kept-lead}
use Rattle.rest_marks.proofs.Bounding.{bit-inside}
use Rattle.rest_marks.proofs.Grown.{mark-of, marked-indices, marked-told, reached-together, set-of}
use Rattle.rest_marks.proofs.Heads.{any-at, head-number, heads-lead, mark-set, marks-above, marks-apart}
use Rattle.rest_slide.proofs.Placing.{index-is, starts-next}
use Rattle.rest_marks.proofs.Seen.{alike-same, fault-seen, same-object}
use Rattle.stopped_heap.proofs.SeenHeld.{held-fault-seen}

-- ---- live words and bits

-- the place of a live word
place-live : (xs : List ℕ) (j : ℕ) → is_live xs j ≡ true → (n : ℕ) × (n < length xs) × (get_or xs n 0 ≡ j)
place-live [] j there = absurd (let no : false ≡ true = there in cc)
place-live (x ∷ xs) j there = elim (or_cases (x == j) (is_live xs j) there) [
  | inl here ↦ (0, omega arith, eqb-true x j here)
  | inr later ↦ (let at = place-live xs j later in (suc at.0, omega (arith, at.1), at.2))
]

and-false : (b : Bool) → (b && false) ≡ false
and-false true = refl
and-false false = refl

-- a word is live if its bit is set
pub live-bit : (bits : List ℕ) (j : ℕ) → is_live (set_bits bits) j ≡ bit bits j
live-bit bits j =
    passing-has (bit bits) (64 * length bits) j ∙ elim (cases_Bool (bit bits j)) [
      | inl set ↦ and_from (ltb j (64 * length bits)) (bit bits j) (lt-ltb j (64 * length bits) (bit-inside bits j set)) set ∙ sym set
      | inr unset ↦ ap (λ (b : Bool). ltb j (64 * length bits) && b) unset ∙ and-false (ltb j (64 * length bits)) ∙ sym unset
    ]

-- ---- words in which it is found are those in which it was marked

module _ (edition : Edition) (count room : ℕ) (words heads bits : List ℕ) (is : IsFoundIn (found_in edition count heads bits room) words) where
  abbrev heap : Heap
  heap = told edition words heads

  abbrev mark : ℕ → ℕ
  mark k = get_or (marks_of heads) k 0

  abbrev size_at : ℕ → ℕ
  size_at k = size_of (header_at edition words (mark k))

  abbrev starts : ℕ → ℕ
  starts k = live_words (take k (live heap))

  inside : (i : ℕ) → bit heads i ≡ true → i < length words
  inside i set =
      let at = head-number heads i set in
      let placed = is.sound.placed at.0 0 at.1 in
      omega (arith, placed.within, at.2)

  run : (i j : ℕ) → bit heads i ≡ true → IsWordOf edition words i j → bit bits j ≡ true
  run i j set of =
      let at = head-number heads i set in
      let k = at.0 in
      let own : IsWordOf edition words (mark k) j = subst (λ (n : ℕ). IsWordOf edition words n j) (sym at.2) of in
      let f = j - mark k in
      let few : f < size_at k = omega (arith, own.0, own.1) in
      let here : mark k + f ≡ j = omega (arith, own.0) in
      let index : get_or (live_indices (live heap)) (starts k + f) 0 ≡ j = index-is heap is.sound room k f at.1 few ∙ here in
      let known : starts k + f < length (live_indices (live heap)) =
      omega (arith, length-live (live heap), starts-next heap is.sound room k at.1, sum_by-take-le size (live heap) (k + 1), few) in
      sym (live-bit bits j) ∙ ap (λ (xs : List ℕ). is_live xs j) is.indices
      ∙ any-at (λ n. n == j) (live_indices (live heap)) (starts k + f) known (eq-eqb (get_or (live_indices (live heap)) (starts k + f) 0) j index)

  only : (j : ℕ) → bit bits j ≡ true → (i : ℕ) × (bit heads i ≡ true) × IsWordOf edition words i j
  only j set =
      let there : is_live (live_indices (live heap)) j ≡ true = ap (λ (xs : List ℕ). is_live xs j) (sym is.indices) ∙ live-bit bits j ∙ set in
      let place = place-live (live_indices (live heap)) j there in
      let n = place.0 in
      let at = covered (live heap) n (omega (arith, place.1, length-live (live heap))) in
      let k = at.0 in
      let known : k < length (marks_of heads) = omega (arith, at.1.known, length-map (marks_of heads) (object_at edition words)) in
      let f = n - starts k in
      let few : f < size_at k = omega (arith, at.1.begun, at.1.ends, starts-next heap is.sound room k known) in
      let index : starts k + f ≡ n = omega (arith, at.1.begun) in
      let here : mark k + f ≡ j = sym (index-is heap is.sound room k f known few) ∙ ap (λ (m : ℕ). get_or (live_indices (live heap)) m 0) index ∙ place.2 in
      (mark k, mark-set heads k known, (omega (arith, here), omega (arith, here, few)))

  references : (i : ℕ) → bit heads i ≡ true → AllKept edition heads (object_at edition words i).references
  references i set =
      let at = head-number heads i set in
      subst (λ (n : ℕ). AllKept edition heads (object_at edition words n).references) at.2
      (λ f lt.
      ap (λ (test : ℕ → Bool). or_immediate edition test (get_or (object_at edition words (mark at.0)).references f 0)) (heads-lead heads)
      ∙ is.sound.references at.0 0 at.1 f 0 lt)

  weak : (i : ℕ) → bit heads i ≡ true → AllLead edition (length words) (object_at edition words i).weak
  weak i set =
      let at = head-number heads i set in
      subst (λ (n : ℕ). AllLead edition (length words) (object_at edition words n).weak) at.2 (λ f lt. is.sound.weak at.0 0 at.1 f 0 lt)

  apart : AreApart edition words heads
  apart i j set other order =
      let one = head-number heads i set in
      let two = head-number heads j other in
      let ends : mark one.0 + size_at one.0 ≤ mark two.0 = elim (cases_order one.0 two.0) [
        | inl same ↦ absurd (let e = ap mark same in omega (arith, e, one.2, two.2, order))
        | inr (inl less) ↦ marks-apart heap is.sound one.0 two.0 less two.1
        | inr (inr more) ↦ absurd (let above = marks-above heap is.sound two.0 one.0 more one.1 in omega (arith, above, one.2, two.2, order))
      ] in
      subst (λ (n : ℕ). n + size_of (header_at edition words n) ≤ j) one.2 (subst (λ (n : ℕ). mark one.0 + size_at one.0 ≤ n) two.2 ends)

  pub found-marked : AreMarked edition words heads bits
  found-marked = record {
    done = λ i set. record {
      placed = (let at = head-number heads i set in subst (IsPlaced edition words) at.2 (is.sound.placed at.0 0 at.1));
      run = λ j of. run i j set of;
      references = kept-lead edition (length words) heads (object_at edition words i).references inside (references i set);
      weak = weak i set;
    };
    closed = references;
    only = only;
    apart = apart;
  }

-- ---- and so are words that are the same where bits are set

module _ (edition : Edition) (words other heads bits : List ℕ) (long : length other ≡ length words) (same : (j : ℕ) → bit bits j ≡ true → get_or other j 0 ≡ get_or words j 0)
    (marked : AreMarked edition words heads bits) where
  object : (i : ℕ) → bit heads i ≡ true → object_at edition other i ≡ object_at edition words i
  object i set = same-object edition words other i long (marked.done i set).placed (λ j of. same j ((marked.done i set).run j of))

  sized : (i : ℕ) → bit heads i ≡ true → size_of (header_at edition other i) ≡ size_of (header_at edition words i)
  sized i set = ap (λ (o : Object). size_of o.header) (object i set)

  lead : (xs ys : List ℕ) → xs ≡ ys → AllLead edition (length words) ys → AllLead edition (length other) xs
  lead xs ys equal all = subst (AllLead edition (length other)) (sym equal) (subst (λ (n : ℕ). AllLead edition n ys) (sym long) all)

  pub same-marked : AreMarked edition other heads bits
  same-marked = record {
    done = λ i set. let done = marked.done i set in record {
      placed = record { within = omega (arith, done.placed.within, sized i set, long); short = omega (arith, done.placed.short, sized i set) };
      run = λ j of. done.run j (of.0, omega (arith, of.1, sized i set));
      references = lead (object_at edition other i).references (object_at edition words i).references (ap (λ (o : Object). o.references) (object i set)) done.references;
      weak = lead (object_at edition other i).weak (object_at edition words i).weak (ap (λ (o : Object). o.weak) (object i set)) done.weak;
    };
    closed = λ i set. subst (λ (o : Object). AllKept edition heads o.references) (sym (object i set)) (marked.closed i set);
    only = λ j set.
        let at = marked.only j set in
        (at.0, at.1, (at.2.0, omega (arith, at.2.1, sized at.0 at.1)));
    apart = λ i j set there order. omega (arith, marked.apart i j set there order, sized i set);
  }

-- ---- what was found, and the mixed words

module _ (edition : Edition) (count room : ℕ) (queue heads bits : List ℕ) where
  abbrev found : Found
  found = found_in edition count heads bits room

  -- tables that grew in these words are found in them
  pub grown-found : (words : List ℕ) → length words ≡ count → IsGrown edition words queue heads bits → IsFoundIn found words
  grown-found words long grown =
      let fits : length words ≤ 64 * length bits = omega (arith, grown.sized, grown.same) in
      record {
        edition = refl;
        count = long;
        marks = refl;
        indices = marked-indices edition words heads bits grown.begun.few grown.begun.marked fits;
        sound = marked-told edition words heads bits grown.begun.few grown.begun.marked;
      }

  module _ (tables : AreGrownOf edition count queue heads bits) where
    -- words of which the objects are marked are those of the tables
    marked-grown : (words : List ℕ) → length words ≡ count → AreMarked edition words heads bits → IsGrown edition words queue heads bits
    marked-grown words long marked =
        let first = tables.2 in
        let same : length tables.0 ≡ length words = tables.1 ∙ sym long in
        record {
          sized = first.sized ∙ ap (λ (n : ℕ). (n + 63) / 64) same;
          same = first.same;
          begun = record {
            few = omega (arith, first.begun.few, same);
            met = first.begun.met;
            once = subst (λ (n : ℕ). AreOnce n queue) same first.begun.once;
            marked = marked;
          };
        }

    -- it is found in these words
    pub now-grown : (words : List ℕ) → IsFoundIn found words → IsGrownIn edition words words queue heads bits
    now-grown words is = record {
      alike = alike-same words bits;
      grown = marked-grown words is.count (found-marked edition count room words heads bits is);
    }

    -- it is found in the words of before
    module _ (words before : List ℕ) (long : length words ≡ count) (is : IsFoundIn found before) where
      mixed-long : length (mixed found before words) ≡ length words
      mixed-long = length-map (range_with_len 0 (length words)) (λ (j : ℕ). cond (is_live (set_bits bits) j) (get_or before j 0) (get_or words j 0)) ∙ length-range_with_len 0 (length words)

      mixed-at : (j : ℕ) → j < length words → get_or (mixed found before words) j 0 ≡ cond (bit bits j) (get_or before j 0) (get_or words j 0)
      mixed-at j lt =
          get_or-map-range_with_len (λ (n : ℕ). cond (is_live (set_bits bits) n) (get_or before n 0) (get_or words n 0)) 0 (length words) j j 0 lt (omega arith)
          ∙ ap (λ (b : Bool). cond b (get_or before j 0) (get_or words j 0)) (live-bit bits j)

      mixed-free : (j : ℕ) → bit bits j ≡ false → get_or (mixed found before words) j 0 ≡ get_or words j 0
      mixed-free j unset = elim (cases_lt j (length words)) [
        | inl lt ↦ mixed-at j lt ∙ ap (λ (b : Bool). cond b (get_or before j 0) (get_or words j 0)) unset
        | inr past ↦ get_or_past (mixed found before words) j 0 (omega (arith, past, mixed-long)) ∙ sym (get_or_past words j 0 past)
      ]

      mixed-set : (j : ℕ) → bit bits j ≡ true → get_or (mixed found before words) j 0 ≡ get_or before j 0
      mixed-set j set = elim (cases_lt j (length words)) [
        | inl lt ↦ mixed-at j lt ∙ ap (λ (b : Bool). cond b (get_or before j 0) (get_or words j 0)) set
        | inr past ↦ get_or_past (mixed found before words) j 0 (omega (arith, past, mixed-long)) ∙ sym (get_or_past before j 0 (omega (arith, past, long, is.count)))
      ]

      pub mixed-grown : IsGrownIn edition words (mixed found before words) queue heads bits
      mixed-grown = record {
        alike = record { long = mixed-long; free = mixed-free };
        grown = marked-grown (mixed found before words) (mixed-long ∙ long)
            (same-marked edition before (mixed found before words) heads bits (mixed-long ∙ long ∙ sym is.count) mixed-set
            (found-marked edition count room before heads bits is));
      }

    -- ---- it goes on

    module _ (words more : List ℕ) (long : length words ≡ count) where
      pub has-grown : (new_queue new_heads new_bits : List ℕ)
          → ((seen : List ℕ) → IsGrownIn edition words seen queue heads bits → AreReached edition seen (roots_on (marks_of heads) more) (marks_of new_heads))
          → ((seen : List ℕ) → IsGrownIn edition words seen queue heads bits → IsFoundIn (found_in edition count new_heads new_bits room) seen)
          → HasGrown found words more (found_in edition count new_heads new_bits room)
      has-grown new_queue new_heads new_bits reached is_found = record {
        edition = refl;
        count = refl;
        room = refl;
        reached = λ is. reached words (now-grown words is);
        found_in = λ is. is_found words (now-grown words is);
        together = λ is roots before.
            reached-together edition words roots (marks_of heads) more (marks_of new_heads) before (reached words (now-grown words is));
        mixed_reached = λ before is. reached (mixed found before words) (mixed-grown words before long is);
        mixed_found = λ before is. is_found (mixed found before words) (mixed-grown words before long is);
      }

      pub has-fault : (fault : SurveyFault)
          → ((seen : List ℕ) → IsGrownIn edition words seen queue heads bits → IsSeenFaultOf edition words seen (marks_of heads) more fault)
          → IsGrowthFaultOf found words more fault
      has-fault fault is_fault = record {
        now = λ is. fault-seen edition words (marks_of heads) more fault (is_fault words (now-grown words is));
        mixed_now = λ before is. is_fault (mixed found before words) (mixed-grown words before long is);
      }

    -- the same of ephemerons
    module _ (words ephemerons : List ℕ) (long : length words ≡ count) where
      pub has-held : (new_queue new_heads new_bits : List ℕ)
          → ((seen : List ℕ) → IsGrownIn edition words seen queue heads bits → AreHeld edition seen (marks_of heads) ephemerons (marks_of new_heads))
          → ((seen : List ℕ) → IsGrownIn edition words seen queue heads bits → IsFoundIn (found_in edition count new_heads new_bits room) seen)
          → HasHeld found words ephemerons (found_in edition count new_heads new_bits room)
      has-held new_queue new_heads new_bits held is_found = record {
        edition = refl;
        count = refl;
        room = refl;
        held = λ is. held words (now-grown words is);
        found_in = λ is. is_found words (now-grown words is);
        mixed_held = λ before is. held (mixed found before words) (mixed-grown words before long is);
        mixed_found = λ before is. is_found (mixed found before words) (mixed-grown words before long is);
      }

      pub has-held-fault : (fault : SurveyFault)
          → ((seen : List ℕ) → IsGrownIn edition words seen queue heads bits → IsSeenHeldFaultOf edition words seen (marks_of heads) ephemerons fault)
          → IsGrowthHeldFaultOf found words ephemerons fault
      has-held-fault fault is_fault = record {
        now = λ is. held-fault-seen edition words (marks_of heads) ephemerons fault (is_fault words (now-grown words is));
        mixed_now = λ before is. is_fault (mixed found before words) (mixed-grown words before long is);
      }

-- ---- how many objects were marked

pub kept-count : (edition : Edition) (words queue heads bits : List ℕ) → IsGrown edition words queue heads bits → length queue ≡ length (marks_of heads)
kept-count edition words queue heads bits grown =
    let marks = marks_of heads in
    let sound = marked-told edition words heads bits grown.begun.few grown.begun.marked in
    let apart : IsDistinct eqb marks = IsDistinct-from_apart eqb marks (λ i j d order lt.
    ne_eqb (get_or marks i d) (get_or marks j d) (λ same.
    let above = marks-above (told edition words heads) sound i j order lt in
    omega (arith, above, same, get_or_default marks i 0 d (omega (arith, order, lt)), get_or_default marks j 0 d lt))) in
    let few = length-le_from_is_member nat_eq_equiv queue marks grown.begun.once.once
    (λ j there. has-contained marks j (mark-of heads j (grown.begun.met j ∙ there))) in
    let many = length-le_from_is_member nat_eq_equiv marks queue apart
    (λ j there. sym (grown.begun.met j) ∙ set-of heads j (contains-had marks j there)) in
    omega (arith, few, many)

-- there are words in which it goes on in any words of as many: those that were seen, mixed with these
pub some-in : (edition : Edition) (count : ℕ) (words queue heads bits : List ℕ) → length words ≡ count → AreGrownOf edition count queue heads bits
    → (seen : List ℕ) × IsGrownIn edition words seen queue heads bits
some-in edition count words queue heads bits long tables =
    let seen = tables.0 in
    let first = grown-found edition count 0 queue heads bits seen tables.1 tables.2 in
    (mixed (found_in edition count heads bits 0) seen words, mixed-grown edition count 0 queue heads bits tables words seen long first)

-- and so the tables are of some words again
pub grown-of : (edition : Edition) (count : ℕ) (words queue heads bits new_queue new_heads new_bits : List ℕ) → length words ≡ count
    → AreGrownOf edition count queue heads bits
    → ((seen : List ℕ) → IsGrownIn edition words seen queue heads bits → IsGrownIn edition words seen new_queue new_heads new_bits)
    → AreGrownOf edition count new_queue new_heads new_bits
grown-of edition count words queue heads bits new_queue new_heads new_bits long tables grown =
    let some = some-in edition count words queue heads bits long tables in
    let next = grown some.0 some.1 in
    (some.0, next.alike.long ∙ long, next.grown)
