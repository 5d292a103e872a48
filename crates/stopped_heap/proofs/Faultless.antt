-- A sound heap has no fault.
use Rattle.std.proofs.Common.{◌≡◌, ℕ, ◌+◌, ◌-◌, ◌^◌, ◌<◌, ◌≤◌, ◌==◌, true, leb, length, get_or, take, drop, inl, inr, refl, sym, ap, subst, ◌∙◌, arith, length-take, length-drop}
use Rattle.std.proofs.lemmas.Bool.{or_left, or_right, and_from, le-leb, lt-ltb, both_ways, cases_order}
use Rattle.std.proofs.lemmas.List.{get_or-take, get_or-drop}
use Rattle.heap_layout.specs.Header.{refs_of, weak_of, size_of}
use Rattle.heap_layout.specs.Heap.{Heap, header_at, from_address, IsPlaced, IsTarget, IsValue}
use Rattle.heap_layout.specs.Values.{is_immediate}
use Rattle.heap_layout.proofs.Values.{value-cases}
use Rattle.reachability.specs.Queue.{is_address}
use Rattle.rest_slide.proofs.Targets.{target-cases}
use Rattle.reachability.proofs.Queues.{place-of}
use Rattle.reachability.proofs.Rising.{has-contained}
use Rattle.rest_marks.specs.Reached.{is_below, leads_within, is_within, IsReachedFrom, AreReached, IsSound, IsFaultOf}
use Rattle.rest_marks.specs.declared.fault.SurveyFault.{SurveyFault}
use Rattle.rest_marks.specs.declared.fault.SurveyFault.TheVariants.{TooLarge, BadRoot, BadReference, BadWeak, ObjectTooLong, ObjectPastEnd, Overlap, OutOfMemory}
use Rattle.rest_marks.proofs.BitsBelow.{reference-value}
use Rattle.rest_marks.proofs.Heads.{marks-apart}

module _ (heap : Heap) (sound : IsSound heap) (are : AreReached heap.edition heap.words heap.roots heap.marks) where
  -- the number of an object that is reached
  number : (i : ℕ) → IsReachedFrom heap.edition heap.words heap.roots i → (k : ℕ) × (k < length heap.marks) × (get_or heap.marks k 0 ≡ i)
  number i reached = place-of heap.marks i (has-contained heap.marks i (are.all i reached))

  reached-placed : (i : ℕ) → IsReachedFrom heap.edition heap.words heap.roots i → IsPlaced heap.edition heap.words i
  reached-placed i reached = let at = number i reached in subst (IsPlaced heap.edition heap.words) at.2 (sound.placed at.0 0 at.1)

  -- a target is null or the address of a word
  target-within : (word : ℕ) → IsTarget heap.marks word → leads_within (length heap.words) word ≡ true
  target-within word target = elim (target-cases heap.marks word target) [
    | inl null ↦ subst (λ (w : ℕ). leads_within (length heap.words) w ≡ true) (sym null) refl
    | inr marked ↦
        let i = marked.0 in
        let at = place-of heap.marks i marked.1 in
        let placed = subst (IsPlaced heap.edition heap.words) at.2 (sound.placed at.0 0 at.1) in
        let inside : i < length heap.words = omega (arith, placed.within) in
        let back : from_address i - 2 ^ 32 ≡ i = omega arith in
        let address : is_address (is_below (length heap.words)) (from_address i) ≡ true =
        and_from (leb (2 ^ 32) (from_address i)) (is_below (length heap.words) (from_address i - 2 ^ 32)) (le-leb (2 ^ 32) (from_address i) (omega arith))
        (ap (is_below (length heap.words)) back ∙ lt-ltb i (length heap.words) inside) in
        subst (λ (w : ℕ). leads_within (length heap.words) w ≡ true) (sym marked.2) (or_right (from_address i == 0) (is_address (is_below (length heap.words)) (from_address i)) address)
  ]

  -- so is a value, or it is an immediate
  value-within : (word : ℕ) → IsValue heap.edition heap.marks word → is_within heap.edition (length heap.words) word ≡ true
  value-within word value = elim (value-cases heap.edition heap.marks word value) [
    | inl immediate ↦ or_left (is_immediate heap.edition word) (leads_within (length heap.words) word) immediate
    | inr target ↦ or_right (is_immediate heap.edition word) (leads_within (length heap.words) word) (target-within word target)
  ]

  weak-within : (k f : ℕ) → k < length heap.marks → f < weak_of (header_at heap.edition heap.words (get_or heap.marks k 0))
      → is_within heap.edition (length heap.words) (get_or heap.words (get_or heap.marks k 0 + 1 + refs_of (header_at heap.edition heap.words (get_or heap.marks k 0)) + f) 0) ≡ true
  weak-within k f lt few =
      let i = get_or heap.marks k 0 in
      let header = header_at heap.edition heap.words i in
      let first = i + 1 + refs_of header in
      let placed = sound.placed k 0 lt in
      let long : length (take (weak_of header) (drop first heap.words)) ≡ weak_of header = simp (length-take, length-drop) (omega (arith, placed.within)) in
      let led = sound.weak k 0 lt f 0 (omega (arith, few, long)) in
      let read : get_or (take (weak_of header) (drop first heap.words)) f 0 ≡ get_or heap.words (first + f) 0 =
      get_or-take (weak_of header) (drop first heap.words) f 0 few ∙ get_or-drop first heap.words f 0 in
      subst (λ (w : ℕ). is_within heap.edition (length heap.words) w ≡ true) read led

  pub faultless : (fault : SurveyFault) → IsFaultOf heap.edition heap.words heap.roots fault → fault ≡ OutOfMemory
  faultless TooLarge is = absurd (elim is [ inl many ↦ omega (arith, many, sound.few_words) | inr many ↦ omega (arith, many, sound.few_roots) ])
  faultless (BadRoot k) is =
      absurd (both_ways (is_within heap.edition (length heap.words) (get_or heap.roots k 0)) is.1.1 (value-within (get_or heap.roots k 0) (sound.roots k 0 is.1.0)))
  faultless (BadReference j) (_, (i, reached, f, few, place, nowhere)) = absurd (
      let at = number i reached in
      let there : get_or heap.marks at.0 0 + (1 + f) ≡ j = omega (arith, at.2, place) in
      let short : 1 + f ≤ refs_of (header_at heap.edition heap.words (get_or heap.marks at.0 0)) = omega (arith, few, ap (λ (n : ℕ). refs_of (header_at heap.edition heap.words n)) at.2) in
      let value = reference-value heap sound at.0 (1 + f) at.1 (omega arith) short in
      both_ways (is_within heap.edition (length heap.words) (get_or heap.words j 0)) nowhere
      (subst (λ (n : ℕ). is_within heap.edition (length heap.words) (get_or heap.words n 0) ≡ true) there (value-within (get_or heap.words (get_or heap.marks at.0 0 + (1 + f)) 0) value)))
  faultless (BadWeak j) (_, (i, reached, f, few, place, nowhere)) = absurd (
      let at = number i reached in
      let refs = ap (λ (n : ℕ). refs_of (header_at heap.edition heap.words n)) at.2 in
      let there : get_or heap.marks at.0 0 + 1 + refs_of (header_at heap.edition heap.words (get_or heap.marks at.0 0)) + f ≡ j = omega (arith, at.2, place, refs) in
      let led = weak-within at.0 f at.1 (omega (arith, few, ap (λ (n : ℕ). weak_of (header_at heap.edition heap.words n)) at.2)) in
      both_ways (is_within heap.edition (length heap.words) (get_or heap.words j 0)) nowhere
      (subst (λ (n : ℕ). is_within heap.edition (length heap.words) (get_or heap.words n 0) ≡ true) there led))
  faultless (ObjectTooLong i) is = absurd (let placed = reached-placed i is.1.0 in omega (arith, placed.short, is.1.1))
  faultless (ObjectPastEnd i) is = absurd (let placed = reached-placed i is.1.0 in omega (arith, placed.within, is.1.1))
  faultless (Overlap i) (_, (reached, j, other, apart, n, one, two)) = absurd (
      let k = number i reached in
      let l = number j other in
      let size_i = ap (λ (m : ℕ). size_of (header_at heap.edition heap.words m)) k.2 in
      let size_j = ap (λ (m : ℕ). size_of (header_at heap.edition heap.words m)) l.2 in
      elim (cases_order k.0 l.0) [
        | inl same ↦ apart (sym l.2 ∙ ap (λ (m : ℕ). get_or heap.marks m 0) (sym same) ∙ k.2)
        | inr (inl less) ↦ (let ends = marks-apart heap sound k.0 l.0 less l.1 in omega (arith, ends, size_i, k.2, l.2, one.1, two.0))
        | inr (inr more) ↦ (let ends = marks-apart heap sound l.0 k.0 more k.1 in omega (arith, ends, size_j, k.2, l.2, two.1, one.0))
      ])
  faultless OutOfMemory is = refl
