-- The faults that marking above meets are there.
use Rattle.std.proofs.Common.{◌≡◌, ◌≢◌, ℕ, ◌+◌, ◌<◌, ◌≤◌, eqb, true, false, List, [], length, get_or, drop, inl, inr, refl, sym, ap, subst, ◌∙◌, arith}
use Rattle.std.proofs.lemmas.Bool.{both_ways, eq-eqb}
use Rattle.std.proofs.lemmas.List.{get_or-take, get_or-drop, length-take}
use Rattle.std.proofs.lemmas.Map.Keys.{apart_from_distinct}
use Rattle.heap_layout.specs.declared.edition.Edition.{Edition}
use Rattle.heap_layout.specs.Bits.{bit}
use Rattle.heap_layout.specs.Header.{refs_of, weak_of}
use Rattle.heap_layout.specs.Heap.{header_at, object_at}
use Rattle.rest_marks.specs.Reached.{is_within, IsWordOf}
use Rattle.rest_marks.specs.declared.fault.SurveyFault.{SurveyFault}
use Rattle.rest_marks.specs.declared.fault.SurveyFault.TheVariants.{TooLarge, BadRoot, BadReference, BadWeak, ObjectTooLong, ObjectPastEnd, Overlap, OutOfMemory}
use Rattle.young_heap.specs.Refusals.{IsMet, IsYoungFaultOf}
use Rattle.young_heap.specs.Young.{is_led, seeds}
use Rattle.young_heap.proofs.Following.{IsFollowed, reached-at}
use Rattle.young_heap.proofs.Spreading.{IsSpread}

module _ (edition : Edition) (words roots starts : List ℕ) (old : ℕ) (fields weaks : List ℕ) where
  pub bad-reference : (from : List ℕ) (i k : ℕ) → IsMet edition words roots old fields i → from ≡ (object_at edition words i).references
      → k < length from → is_led edition starts old (length words) (get_or from k 0) ≡ false → IsYoungFaultOf edition words roots starts old fields weaks (BadReference (i + 1 + k))
  bad-reference from i k reached is lt astray =
      let count = refs_of (header_at edition words i) in
      let long : length from ≤ count = omega (arith, ap length is, length-take count (drop (i + 1) words)) in
      let short : k < count = omega (arith, lt, long) in
      let read : get_or from k 0 ≡ get_or words (i + 1 + k) 0 =
      ap (λ (xs : List ℕ). get_or xs k 0) is ∙ get_or-take count (drop (i + 1) words) k 0 short ∙ get_or-drop (i + 1) words k 0 in
      (inr (i, reached, k, short, refl), subst (λ (w : ℕ). is_led edition starts old (length words) w ≡ false) read astray)

  pub bad-weak : (from : List ℕ) (i refs k : ℕ) → IsMet edition words roots old fields i → refs ≡ refs_of (header_at edition words i) → from ≡ (object_at edition words i).weak
      → k < length from → is_within edition (length words) (get_or from k 0) ≡ false → IsYoungFaultOf edition words roots starts old fields weaks (BadWeak (i + 1 + refs + k))
  bad-weak from i refs k reached same is lt nowhere =
      let first = i + 1 + refs_of (header_at edition words i) in
      let count = weak_of (header_at edition words i) in
      let long : length from ≤ count = omega (arith, ap length is, length-take count (drop first words)) in
      let short : k < count = omega (arith, lt, long) in
      let place : first + k ≡ i + 1 + refs + k = omega (arith, same) in
      let read : get_or from k 0 ≡ get_or words (i + 1 + refs + k) 0 =
      ap (λ (xs : List ℕ). get_or xs k 0) is ∙ get_or-take count (drop first words) k 0 short ∙ get_or-drop first words k 0 ∙ ap (λ (n : ℕ). get_or words n 0) place in
      (inr (i, reached, k, short, sym place), subst (λ (w : ℕ). is_within edition (length words) w ≡ false) read nowhere)

  -- a word of an object is that of one that was met before
  pub overlapping : (queue : List ℕ) (next : ℕ) (heads bits : List ℕ) (n : ℕ) → IsFollowed edition old words (seeds words roots fields) queue next
      → IsSpread edition starts old words queue next heads bits → next < length queue → old ≤ n → IsWordOf edition words (get_or queue next 0) n → bit bits n ≡ true
      → IsYoungFaultOf edition words roots starts old fields weaks (Overlap (get_or queue next 0))
  overlapping queue next heads bits n followed spread within up of set =
      let at = spread.only n up set in
      let reached = reached-at edition old words (seeds words roots fields) queue next next followed within in
      let other = reached-at edition old words (seeds words roots fields) queue next at.0 followed (omega (arith, at.1, within)) in
      let differ : get_or queue at.0 0 ≢ get_or queue next 0 = λ same.
      both_ways (eqb (get_or queue at.0 0) (get_or queue next 0)) (apart_from_distinct eqb queue at.0 next 0 followed.objects.once at.1 within)
      (eq-eqb (get_or queue at.0 0) (get_or queue next 0) same) in
      (reached, get_or queue at.0 0, other, differ, n, of, at.2)

-- a fault that has nothing to do with weak words of old objects
pub fault-more : (edition : Edition) (words roots starts : List ℕ) (old : ℕ) (fields weaks : List ℕ) (fault : SurveyFault)
    → IsYoungFaultOf edition words roots starts old fields [] fault → IsYoungFaultOf edition words roots starts old fields weaks fault
fault-more edition words roots starts old fields weaks TooLarge is = is
fault-more edition words roots starts old fields weaks (BadRoot k) is = is
fault-more edition words roots starts old fields weaks (BadReference j) is = is
fault-more edition words roots starts old fields weaks (BadWeak j) is = elim is.0 [
  | inl none ↦ absurd (let no : false ≡ true = none in cc)
  | inr at ↦ (inr at, is.1)
]
fault-more edition words roots starts old fields weaks (ObjectTooLong i) is = is
fault-more edition words roots starts old fields weaks (ObjectPastEnd i) is = is
fault-more edition words roots starts old fields weaks (Overlap i) is = is
fault-more edition words roots starts old fields weaks OutOfMemory is = is
