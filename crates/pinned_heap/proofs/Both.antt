-- What roots and pins reach together.
use Rattle.std.proofs.Common.{◌≡◌, ℕ, ◌-◌, ◌^◌, ◌<◌, ◌==◌, ◌||◌, Bool, true, false, leb, List, [], ◌++◌, All, Contains, length, get_or, map, inl, inr, sym, ap, subst, ◌∙◌, arith}
use Rattle.std.specs.List.{list_any}
use Rattle.std.proofs.Math.Path.{fun_ext}
use Rattle.std.proofs.lemmas.Bool.{and_parts, both_ways, eq-eqb, false_from_ne_true, ltb-true, or_cases, or_left, or_right}
use Rattle.std.proofs.lemmas.List.Elements.{All-from_get_or, All-weaker}
use Rattle.heap_layout.specs.declared.edition.Edition.{Edition}
use Rattle.heap_layout.specs.Heap.{from_address, is_target, IsValue}
use Rattle.heap_layout.specs.Values.{is_immediate}
use Rattle.page_plan.proofs.Marks.{has-address}
use Rattle.reachability.specs.Queue.{is_address}
use Rattle.reachability.proofs.Queues.{has-at, place-of}
use Rattle.reachability.proofs.Rising.{contains-had, has-contained}
use Rattle.rest_marks.specs.Given.{heap_now}
use Rattle.rest_marks.specs.Growing.{roots_on, IsMoreFaultOf}
use Rattle.stopped_heap.specs.Growth.{IsFoundIn}
use Rattle.rest_marks.specs.Places.{Found, IsFoundOf}
use Rattle.rest_marks.specs.Reached.{is_below, leads_within, AreReached, IsFaultOf, IsReachedFrom, IsStray, LeadInto, by_root}
use Rattle.rest_marks.specs.declared.fault.SurveyFault.{SurveyFault}
use Rattle.rest_marks.specs.declared.fault.SurveyFault.TheVariants.{TooLarge, BadRoot, BadReference, BadWeak, ObjectTooLong, ObjectPastEnd, Overlap, OutOfMemory}
use Rattle.rest_marks.proofs.Grown.{address-back, lead-cases, lead-left, lead-marked, lead-right, reached-through}
use Rattle.rest_marks.proofs.Heads.{any-at}
use Rattle.rest_marks.proofs.Leading.{led-at}
use Rattle.pinned_heap.specs.Around.{end_from, is_address_of, led_around, runs_from, stays, IsSlidAround}
use Rattle.pinned_heap.specs.Collecting.{refused_with, AreFewWith, HasCollectedAround, LeavesRuns, RefusesPinned}
use Rattle.pinned_heap.specs.Pinned.{is_object, is_still, led_in, objects_in, FoundAround, IsPinFault}
use Rattle.pinned_heap.specs.declared.fault.CollectPinnedFault.TheVariants.{Survey, BadPin, TooManyRuns}
use Rattle.pinned_heap.specs.declared.fault.PinFault.TheVariants as pin
use Rattle.pinned_heap.specs.declared.run.Run.{Run}
use Rattle.pinned_heap.proofs.Linking.{address-marked}

-- an object of a list has its address there
contains-any : (marks : List ℕ) (i word : ℕ) → Contains marks i → from_address i ≡ word → list_any (λ mark. from_address mark == word) marks ≡ true
contains-any marks i word there at =
    let place = place-of marks i (has-contained marks i there) in
    any-at (λ mark. from_address mark == word) marks place.0 place.1 (eq-eqb (from_address (get_or marks place.0 0)) word (ap from_address place.2 ∙ at))

module _ (edition : Edition) (words roots pins : List ℕ) where
  -- what the roots reach
  left : (i : ℕ) → IsReachedFrom edition words roots i → IsReachedFrom edition words (roots ++ pins) i
  left = reached-through edition words roots (roots ++ pins) (λ k leads_there. by_root k (lead-left words roots pins k leads_there))

  -- what no roots reach
  none : (i : ℕ) → IsReachedFrom edition words [] i → IsReachedFrom edition words (roots ++ pins) i
  none = reached-through edition words [] (roots ++ pins) (λ k leads_there. absurd (let no : false ≡ true = has-contained [] (from_address k) leads_there.address in cc))

  -- what is reached when the survey goes on from the pins
  on : (marks : List ℕ) → AreReached edition words roots marks → (i : ℕ) → IsReachedFrom edition words (roots_on marks pins) i → IsReachedFrom edition words (roots ++ pins) i
  on marks before = reached-through edition words (roots_on marks pins) (roots ++ pins) (λ k leads_there.
      elim (lead-cases words (map from_address marks) pins k leads_there) [
        | inl old ↦ left k (before.reached k (lead-marked words marks k old))
        | inr new ↦ by_root k (lead-right words roots pins k new)
      ])

  -- a fault before anything was marked
  pub refused-first : (most : ℕ) (fault : SurveyFault) → AreFewWith edition words roots pins → IsFaultOf edition words [] fault → RefusesPinned edition words roots pins most (Survey fault)
  refused-first most TooLarge few (inl more) = inl more
  refused-first most TooLarge few (inr more) = absurd (omega (arith, more))
  refused-first most (BadRoot k) few (_, is) = absurd (omega (arith, is.0))
  refused-first most (BadReference j) few (_, is) = (few, (is.0, none is.0 is.1, is.2, is.3, is.4, is.5))
  refused-first most (BadWeak j) few (_, is) = (few, (is.0, none is.0 is.1, is.2, is.3, is.4, is.5))
  refused-first most (ObjectTooLong i) few (_, is) = (few, (none i is.0, is.1))
  refused-first most (ObjectPastEnd i) few (_, is) = (few, (none i is.0, is.1))
  refused-first most (Overlap i) few (_, is) = (few, (none i is.0, is.1, none is.1 is.2, is.3, is.4, is.5, is.6))
  refused-first most OutOfMemory few is = few

  -- a fault of the roots
  pub refused-roots : (most : ℕ) (fault : SurveyFault) → AreFewWith edition words roots pins → IsMoreFaultOf edition words [] roots fault → RefusesPinned edition words roots pins most (Survey fault)
  refused-roots most TooLarge few is = inr (inl is)
  refused-roots most (BadRoot k) few (_, is) = (few, is)
  refused-roots most (BadReference j) few (_, is) = (few, (is.0, left is.0 is.1, is.2, is.3, is.4, is.5))
  refused-roots most (BadWeak j) few (_, is) = (few, (is.0, left is.0 is.1, is.2, is.3, is.4, is.5))
  refused-roots most (ObjectTooLong i) few (_, is) = (few, (left i is.0, is.1))
  refused-roots most (ObjectPastEnd i) few (_, is) = (few, (left i is.0, is.1))
  refused-roots most (Overlap i) few (_, is) = (few, (left i is.0, is.1, left is.1 is.2, is.3, is.4, is.5, is.6))
  refused-roots most OutOfMemory few is = few

  -- a word that is astray is no word's address
  stray-address : (word : ℕ) → IsStray edition words word → is_address (is_below (length words)) word ≡ false
  stray-address word stray = false_from_ne_true (is_address (is_below (length words)) word) (λ is.
      both_ways (is_immediate edition word || leads_within (length words) word) stray
      (or_right (is_immediate edition word) (leads_within (length words) word) (or_right (word == 0) (is_address (is_below (length words)) word) is)))

  -- a fault of the pins
  pub refused-pins : (most : ℕ) (marks : List ℕ) (fault : SurveyFault) → AreReached edition words roots marks → AreFewWith edition words roots pins → IsMoreFaultOf edition words marks pins fault
      → RefusesPinned edition words roots pins most (refused_with fault)
  refused-pins most marks TooLarge before few is = inr (inr is)
  refused-pins most marks (BadRoot k) before few (_, is) = (few, is.0, stray-address (get_or pins k 0) is.1)
  refused-pins most marks (BadReference j) before few (_, is) = (few, (is.0, on marks before is.0 is.1, is.2, is.3, is.4, is.5))
  refused-pins most marks (BadWeak j) before few (_, is) = (few, (is.0, on marks before is.0 is.1, is.2, is.3, is.4, is.5))
  refused-pins most marks (ObjectTooLong i) before few (_, is) = (few, (on marks before i is.0, is.1))
  refused-pins most marks (ObjectPastEnd i) before few (_, is) = (few, (on marks before i is.0, is.1))
  refused-pins most marks (Overlap i) before few (_, is) = (few, (on marks before i is.0, is.1, on marks before is.1 is.2, is.3, is.4, is.5, is.6))
  refused-pins most marks OutOfMemory before few is = few

  -- a root that leads to a marked object still does
  value-more : (marks after : List ℕ) (word : ℕ) → AreReached edition words roots marks → AreReached edition words (roots ++ pins) after → IsValue edition marks word → IsValue edition after word
  value-more marks after word before grown value = elim (or_cases (is_immediate edition word) (is_target marks word) value) [
    | inl immediate ↦ or_left (is_immediate edition word) (is_target after word) immediate
    | inr target ↦ or_right (is_immediate edition word) (is_target after word)
        (elim (or_cases (word == 0) (list_any (λ mark. from_address mark == word) marks) target) [
          | inl null ↦ or_left (word == 0) (list_any (λ mark. from_address mark == word) after) null
          | inr some ↦
              let at = has-address edition words marks word 0 some in
              let i = get_or marks at.number 0 in
              let there : Contains after i = grown.all i (left i (before.reached i (contains-had marks i (has-at marks at.number at.known)))) in
              or_right (word == 0) (list_any (λ mark. from_address mark == word) after) (contains-any after i word there at.here)
        ])
  ]

  pub values-more : (marks after : List ℕ) → AreReached edition words roots marks → AreReached edition words (roots ++ pins) after → All (IsValue edition marks) roots → All (IsValue edition after) roots
  values-more marks after before grown all = All-weaker (IsValue edition marks) (IsValue edition after) (λ word value. value-more marks after word before grown value) roots all

  -- a pin that is not the address of a live object is no word's
  pub refused-pin : (most : ℕ) (found : Found) (k : ℕ) → AreReached edition words (roots ++ pins) found.marks → AreFewWith edition words roots pins → IsPinFault found pins (pin.BadPin k)
      → RefusesPinned edition words roots pins most (BadPin k)
  refused-pin most found k grown few is =
      let word = get_or pins k 0 in (
        few,
        is.0,
        false_from_ne_true (is_address (is_below (length words)) word) (λ there.
            let i = word - 2 ^ 32 in
            let at : word ≡ from_address i = address-back (is_below (length words)) word there in
            let inside = ltb-true i (length words) (and_parts (leb (2 ^ 32) word) (is_below (length words) i) there).1 in
            let leads_there : LeadInto words pins i = led-at words pins k i 0 is.0 inside at in
            both_ways (is_object found word) is.1 (contains-any found.marks i word (grown.all i (by_root i (lead-right words roots pins i leads_there))) (sym at))),
      )

-- what is found of a heap with these words is found in them
pub found-in : (found : Found) (edition : Edition) (words marks : List ℕ) → IsFoundOf found (record { edition = edition; words = words; marks = marks; roots = [] }) → IsFoundIn found words
found-in found edition words marks is =
    let one = subst (λ (e : Edition). IsFoundOf found (record { edition = e; words = words; marks = marks; roots = [] })) is.edition is in
    subst (λ (ms : List ℕ). IsFoundOf found (record { edition = found.edition; words = words; marks = ms; roots = [] })) is.marks one

module _ (found : Found) (words roots pins : List ℕ) (is : IsFoundIn found words) (pinned : (k : ℕ) → k < length pins → is_object found (get_or pins k 0) ≡ true)
    (end : ℕ) (runs : List Run) (new_roots after : List ℕ) (slid : IsSlidAround (heap_now found words []) (stays pins) after)
    (roots_are : new_roots ≡ map (led_around found.edition (stays pins) (objects_in found words)) roots)
    (runs_are : runs ≡ runs_from (stays pins) 0 (objects_in found words)) (end_is : end ≡ end_from (stays pins) 0 (objects_in found words)) where
  collected-found : AreReached found.edition words (roots ++ pins) found.marks → All (IsValue found.edition found.marks) roots → AreFewWith found.edition words roots pins
      → HasCollectedAround found.edition words roots pins end runs new_roots after
  collected-found reached leads few = (
    found.marks,
    reached,
    record {
      sound = record {
        few_words = is.sound.few_words;
        few_roots = few.1;
        placed = is.sound.placed;
        apart = is.sound.apart;
        roots = leads;
        references = is.sound.references;
        weak = is.sound.weak;
      };
      pinned = All-from_get_or (λ (word : ℕ). is_address_of (objects_in found words) word ≡ true) pins 0 (λ k lt. address-marked found.edition words found.marks (get_or pins k 0) ∙ pinned k lt);
      slid = record { long = slid.long; objects = slid.objects; filled = slid.filled; behind = slid.behind };
      roots_are = roots_are;
      runs_are = runs_are;
      end_is = end_is;
    },
  )

  pub collected-around : (edition : Edition) → found.edition ≡ edition → AreReached edition words (roots ++ pins) found.marks → All (IsValue edition found.marks) roots
      → AreFewWith edition words roots pins → HasCollectedAround edition words roots pins end runs new_roots after
  collected-around edition same =
      subst (λ (e : Edition). AreReached e words (roots ++ pins) found.marks → All (IsValue e found.marks) roots → AreFewWith e words roots pins
      → HasCollectedAround e words roots pins end runs new_roots after) same collected-found

-- the same by what was pinned
pub collected-pinned : (p : FoundAround) (found : Found) (edition : Edition) (words roots pins : List ℕ) → p.found ≡ found → ((i : ℕ) → is_still p i ≡ stays pins i) → IsFoundIn found words
    → ((k : ℕ) → k < length pins → is_object found (get_or pins k 0) ≡ true) → (end : ℕ) (runs : List Run) (new_roots after : List ℕ)
    → IsSlidAround (heap_now p.found words []) (is_still p) after → new_roots ≡ map (led_in p words) roots
    → runs ≡ runs_from (is_still p) 0 (objects_in p.found words) → end ≡ end_from (is_still p) 0 (objects_in p.found words)
    → found.edition ≡ edition → AreReached edition words (roots ++ pins) found.marks → All (IsValue edition found.marks) roots → AreFewWith edition words roots pins
    → HasCollectedAround edition words roots pins end runs new_roots after
collected-pinned p found edition words roots pins same still is pinned end runs new_roots after slid roots_are runs_are end_is edition_is reached leads few =
    let stay : is_still p ≡ stays pins = fun_ext still in
    collected-around found words roots pins is pinned end runs new_roots after
    (subst (λ (f : Found). IsSlidAround (heap_now f words []) (stays pins) after) same (subst (λ (st : ℕ → Bool). IsSlidAround (heap_now p.found words []) st after) stay slid))
    (subst (λ (f : Found). new_roots ≡ map (led_around f.edition (stays pins) (objects_in f words)) roots) same
    (subst (λ (st : ℕ → Bool). new_roots ≡ map (led_around p.found.edition st (objects_in p.found words)) roots) stay roots_are))
    (subst (λ (f : Found). runs ≡ runs_from (stays pins) 0 (objects_in f words)) same (subst (λ (st : ℕ → Bool). runs ≡ runs_from st 0 (objects_in p.found words)) stay runs_are))
    (subst (λ (f : Found). end ≡ end_from (stays pins) 0 (objects_in f words)) same (subst (λ (st : ℕ → Bool). end ≡ end_from st 0 (objects_in p.found words)) stay end_is))
    edition edition_is reached leads few

-- what would be left of what was found
leaves-found : (found : Found) (words roots pins : List ℕ) → IsFoundIn found words → ((k : ℕ) → k < length pins → is_object found (get_or pins k 0) ≡ true)
    → (count : ℕ) → count ≡ length (runs_from (stays pins) 0 (objects_in found words)) → AreReached found.edition words (roots ++ pins) found.marks
    → All (IsValue found.edition found.marks) roots → AreFewWith found.edition words roots pins → LeavesRuns found.edition words roots pins count
leaves-found found words roots pins is pinned count counted reached leads few = (
  found.marks,
  reached,
  record {
    few_words = is.sound.few_words;
    few_roots = few.1;
    placed = is.sound.placed;
    apart = is.sound.apart;
    roots = leads;
    references = is.sound.references;
    weak = is.sound.weak;
  },
  All-from_get_or (λ (word : ℕ). is_address_of (objects_in found words) word ≡ true) pins 0 (λ k lt. address-marked found.edition words found.marks (get_or pins k 0) ∙ pinned k lt),
  counted,
)

-- there are more runs than are wanted
pub refused-runs : (p : FoundAround) (found : Found) (edition : Edition) (words roots pins : List ℕ) → p.found ≡ found → ((i : ℕ) → is_still p i ≡ stays pins i) → IsFoundIn found words
    → ((k : ℕ) → k < length pins → is_object found (get_or pins k 0) ≡ true) → (runs : List Run) (most count : ℕ)
    → runs ≡ runs_from (is_still p) 0 (objects_in p.found words) → count ≡ length runs → most < count
    → found.edition ≡ edition → AreReached edition words (roots ++ pins) found.marks → All (IsValue edition found.marks) roots → AreFewWith edition words roots pins
    → RefusesPinned edition words roots pins most (TooManyRuns count)
refused-runs p found edition words roots pins same still is pinned runs most count runs_are counted more edition_is reached leads few =
    let there : runs ≡ runs_from (stays pins) 0 (objects_in found words) = subst (λ (f : Found). runs ≡ runs_from (stays pins) 0 (objects_in f words)) same
    (subst (λ (st : ℕ → Bool). runs ≡ runs_from st 0 (objects_in p.found words)) (fun_ext still) runs_are) in
    let leaves : LeavesRuns edition words roots pins count =
    subst (λ (e : Edition). AreReached e words (roots ++ pins) found.marks → All (IsValue e found.marks) roots → AreFewWith e words roots pins → LeavesRuns e words roots pins count) edition_is
    (leaves-found found words roots pins is pinned count (counted ∙ ap length there)) reached leads few in
    (few, leaves, more)
