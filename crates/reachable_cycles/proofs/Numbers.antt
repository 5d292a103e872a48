-- The objects that the roots reach, in a heap and in object numbers.
use Rattle.std.proofs.Common.{◌≡◌, ℕ, zero, suc, ◌+◌, ◌<◌, ◌≤◌, ◌↔◌, true, false, List, [], ◌∷◌, All, length, get_or, drop, Contains, refl, sym, ap, ap₂, subst, ◌∙◌, inl, inr, arith}
use mathlib.Core.Option.{some}
use Rattle.std.proofs.lemmas.Bool.{both_ways}
use Rattle.std.proofs.lemmas.List.{length-map, length-take, length-drop, get_or-map, get_or-take, get_or-drop}
use Rattle.std.proofs.lemmas.List.Elements.{All-contains}
use Rattle.heap_layout.specs.Header.{header_of, refs_of}
use Rattle.heap_layout.specs.Heap.{Heap, header_at, object_at, live, from_address, starts, is_start, IsTarget, IsValue, IsClosed}
use Rattle.heap_layout.specs.Values.{is_immediate}
use Rattle.heap_layout.proofs.Bounds.{words_most}
use Rattle.heap_layout.proofs.Values.{no-immediate, value-cases}
use Rattle.comp_cycles.specs.Cycles.{AreApart}
use Rattle.comp_cycles.specs.NumberedHeaps.{Names, names_in, number_at, numbered_object, pointers_of, IsNumberedAs}
use Rattle.comp_cycles.specs.Stable.{StableHeap, IsAmong, head_of}
use Rattle.comp_cycles.proofs.Kept.{there_is}
use Rattle.comp_cycles.proofs.Living.{numbered_reference, number_immediate}
use Rattle.comp_cycles.proofs.Targets.{object_word, target_cases, named_mark, named_null}
use Rattle.heap_layout.proofs.Indexed.{at_map, at_map_back, at_below, read_at}
use Rattle.reachability.proofs.Starts.{starts-within}
use Rattle.reachability.specs.Reachable.{LeadTo, IsReachable, by_root as from_root, by_reference as from_reference}
use Rattle.reachable_cycles.specs.StableReach.{IsReachableIn, by_root, by_reference}

-- an element has a place
pub place_of : (xs : List ℕ) (x : ℕ) → Contains xs x → (k : ℕ) × (k < length xs) × (get_or xs k 0 ≡ x)
place_of xs x there =
    let k = there.0 in
    let inside = there.1 in
    (k, inside, same xs k inside ∙ there.2)
  where
    same : (xs : List ℕ) (k : ℕ) → k < length xs → get_or xs k 0 ≡ get_or xs k x
    same [] k lt = absurd (omega arith)
    same (y ∷ ys) zero lt = refl
    same (y ∷ ys) (suc k) lt = same ys k (omega arith)

-- a value at a place is an element
pub contains_at : (xs : List ℕ) (k x : ℕ) → k < length xs → get_or xs k 0 ≡ x → Contains xs x
contains_at xs k x inside at = (k, inside, same xs k inside ∙ at)
  where
    same : (xs : List ℕ) (k : ℕ) → k < length xs → get_or xs k x ≡ get_or xs k 0
    same [] k lt = absurd (omega arith)
    same (y ∷ ys) zero lt = refl
    same (y ∷ ys) (suc k) lt = same ys k (omega arith)

module _ (heap : Heap) (numbers : List ℕ) (stable : StableHeap) (closed : IsClosed heap) (is : IsNumberedAs heap numbers stable) where
  abbrev names : Names
  names = names_in heap numbers

  abbrev mark : ℕ → ℕ
  mark l = get_or heap.marks l 0

  -- the number of the object at index i
  abbrev pub number : ℕ → ℕ
  number i = number_at names (from_address i)

  objects_long : length (live heap) ≡ length heap.marks
  objects_long = length-map heap.marks (object_at heap.edition heap.words)

  pub numbers_long : length numbers ≡ length heap.marks
  numbers_long = sym (length-map numbers stable.words) ∙ ap length is.words ∙ length-map (live heap) (numbered_object names) ∙ objects_long

  pub number_is : (l : ℕ) → l < length heap.marks → number (mark l) ≡ get_or numbers l 0
  number_is l lt = named_mark heap closed numbers l numbers_long lt

  pub number_some : (l : ℕ) → l < length heap.marks → 1 ≤ number (mark l)
  number_some l lt = let n = number_is l lt in let low = (is.given l (omega (arith, numbers_long))).0 in omega (arith, n, low)

  -- it is no immediate
  number_on : AreApart heap.edition stable.given → (l : ℕ) → l < length heap.marks → is_immediate stable.edition (number (mark l)) ≡ false
  number_on apart l lt =
      let n = number_is l lt in
      let given = (is.given l (omega (arith, numbers_long))).1 in
      ap (λ e. is_immediate e (number (mark l))) is.edition ∙ apart (number (mark l)) (omega (arith, n, given))

  -- the words of an object in the stable heap
  words_are : (l : ℕ) → l < length heap.marks → stable.words (number (mark l)) ≡ numbered_object names (object_at heap.edition heap.words (mark l))
  words_are l lt =
      let tell = numbered_object names in
      let object = object_at heap.edition heap.words in
      ap stable.words (number_is l lt)
      ∙ sym (get_or-map stable.words numbers l 0 [] (omega (arith, numbers_long)))
      ∙ ap (λ (list : List (List ℕ)). get_or list l []) is.words
      ∙ get_or-map tell (live heap) l (object 0) [] (omega (arith, objects_long))
      ∙ ap tell (get_or-map object heap.marks l 0 (object 0) lt)

  head_is : (l : ℕ) → l < length heap.marks → head_of stable (number (mark l)) ≡ header_at heap.edition heap.words (mark l)
  head_is l lt = ap₂ header_of is.edition (ap (λ (words : List ℕ). get_or words 0 0) (words_are l lt))

  -- a reference of an object in the stable heap
  reference_is : (l field : ℕ) → l < length heap.marks → field < refs_of (header_at heap.edition heap.words (mark l))
      → get_or (stable.words (number (mark l))) (1 + field) 0 ≡ number_at names (get_or heap.words (mark l + (1 + field)) 0)
  reference_is l field lt inside =
      let header = header_at heap.edition heap.words (mark l) in
      ap (λ (words : List ℕ). get_or words (1 + field) 0) (words_are l lt)
      ∙ object_word names heap.edition heap.words (mark l) (1 + field) (closed.placed l 0 lt) (omega arith)
      ∙ numbered_reference names (pointers_of header) (1 + field) (get_or heap.words (mark l + (1 + field)) 0) (omega arith) (omega arith)

  -- a reference of an object in the heap
  field_is : (l field : ℕ) → l < length heap.marks → field < refs_of (header_at heap.edition heap.words (mark l))
      → (field < length (object_at heap.edition heap.words (mark l)).references)
      × (get_or (object_at heap.edition heap.words (mark l)).references field 0 ≡ get_or heap.words (mark l + (1 + field)) 0)
  field_is l field lt inside =
      let refs = refs_of (header_at heap.edition heap.words (mark l)) in
      let within = (closed.placed l 0 lt).within in
      let at : mark l + 1 + field ≡ mark l + (1 + field) = omega arith in (
        simp (length-take, length-drop) (omega arith),
        get_or-take refs (drop (mark l + 1) heap.words) field 0 inside ∙ get_or-drop (mark l + 1) heap.words field 0 ∙ ap (λ (k : ℕ). get_or heap.words k 0) at,
      )

  -- references of an object are no more than its header says
  field_inside : (l field : ℕ) → field < length (object_at heap.edition heap.words (mark l)).references → field < refs_of (header_at heap.edition heap.words (mark l))
  field_inside l field lt =
      let long = length-take (refs_of (header_at heap.edition heap.words (mark l))) (drop (mark l + 1) heap.words) in omega (arith, long)

  -- an address that is a target is that of a marked object
  pub marked_at : (i : ℕ) → IsTarget heap.marks (from_address i) → (l : ℕ) × (l < length heap.marks) × (mark l ≡ i)
  marked_at i target =
      elim (target_cases heap.marks (from_address i) target) [
        | inl null ↦ absurd (omega arith)
        | inr found ↦ let at = found.2 in (found.0, found.1, omega arith)
      ]

  -- a value that is an address of the heap is that of a marked object
  marked_value : (i : ℕ) → is_start (starts heap.edition heap.words) i ≡ true → IsValue heap.edition heap.marks (from_address i) → (l : ℕ) × (l < length heap.marks) × (mark l ≡ i)
  marked_value i start value =
      elim (value-cases heap.edition heap.marks (from_address i) value) [
        | inl immediate ↦
            let within = starts-within heap.edition 0 0 heap.words i start in
            let few = closed.few_words in
            absurd (no-immediate heap.edition (from_address i) (omega (arith, within, few, words_most heap.edition)) immediate)
        | inr target ↦ marked_at i target
      ]

  -- what the roots reach is marked
  pub reached_at : (i : ℕ) → IsReachable heap.edition heap.words heap.roots i → (l : ℕ) × (l < length heap.marks) × (mark l ≡ i)
  reached_at i (from_root _ leads) = marked_value i leads.start (All-contains (IsValue heap.edition heap.marks) heap.roots (from_address i) closed.roots leads.address)
  reached_at j (from_reference i _ reached leads) =
      let at = reached_at i reached in
      let targets = closed.references at.0 0 at.1 in
      let here : All (IsValue heap.edition heap.marks) (object_at heap.edition heap.words i).references =
      subst (λ (k : ℕ). All (IsValue heap.edition heap.marks) (object_at heap.edition heap.words k).references) at.2 targets in
      marked_value j leads.start (All-contains (IsValue heap.edition heap.marks) (object_at heap.edition heap.words i).references (from_address j) here leads.address)

  reached_some : (i : ℕ) → IsReachable heap.edition heap.words heap.roots i → 1 ≤ number i
  reached_some i reached = let at = reached_at i reached in subst (λ (k : ℕ). 1 ≤ number k) at.2 (number_some at.0 at.1)

  reached_on : AreApart heap.edition stable.given → (i : ℕ) → IsReachable heap.edition heap.words heap.roots i → is_immediate stable.edition (number i) ≡ false
  reached_on apart i reached = let at = reached_at i reached in subst (λ (k : ℕ). is_immediate stable.edition (number k) ≡ false) at.2 (number_on apart at.0 at.1)

  -- what the roots reach, they reach in object numbers
  pub to_stable : AreApart heap.edition stable.given → (i : ℕ) → IsReachable heap.edition heap.words heap.roots i → IsReachableIn stable stable.roots (number i)
  to_stable apart i (from_root _ leads) =
      let at = place_of heap.roots (from_address i) leads.address in
      by_root (number i) (reached_some i (from_root i leads)) (reached_on apart i (from_root i leads))
      (subst (λ (roots : List ℕ). IsAmong roots (number i)) (sym is.roots)
      (at.0, at_map (number_at names) heap.roots at.0 (from_address i) (there_is heap.roots at.0 at.1 ∙ ap some at.2)))
  to_stable apart j (from_reference i _ reached leads) =
      let at = reached_at i reached in
      let l = at.0 in
      let at_mark : IsReachableIn stable stable.roots (number (mark l)) = subst (λ (k : ℕ). IsReachableIn stable stable.roots (number k)) (sym at.2) (to_stable apart i reached) in
      let address : Contains (object_at heap.edition heap.words (mark l)).references (from_address j) =
      subst (λ (k : ℕ). Contains (object_at heap.edition heap.words k).references (from_address j)) (sym at.2) leads.address in
      let place = place_of (object_at heap.edition heap.words (mark l)).references (from_address j) address in
      let field = place.0 in
      let inside = field_inside l field place.1 in
      by_reference (number (mark l)) (number j) at_mark (reached_some j (from_reference i j reached leads)) (reached_on apart j (from_reference i j reached leads))
      (record {
        field = field;
        inside = subst (λ h. field < refs_of h) (sym (head_is l at.1)) inside;
        value = reference_is l field at.1 inside ∙ ap (number_at names) (sym (field_is l field at.1 inside).1 ∙ place.2);
      })

  -- a value with a number that is no immediate leads to the marked object that has it
  pub numbered_at : (word n : ℕ) → IsValue heap.edition heap.marks word → number_at names word ≡ n → 1 ≤ n → is_immediate stable.edition n ≡ false → (l : ℕ) × (l < length heap.marks) × (word ≡ from_address (mark l)) × (number (mark l) ≡ n)
  numbered_at word n value at low on =
      elim (value-cases heap.edition heap.marks word value) [
        | inl immediate ↦
            let same : n ≡ word = sym at ∙ number_immediate names word immediate in
            absurd (both_ways (is_immediate stable.edition n) on (ap (is_immediate stable.edition) same ∙ ap (λ e. is_immediate e word) is.edition ∙ immediate))
        | inr target ↦ elim (target_cases heap.marks word target) [
          | inl null ↦ absurd (let none = ap (number_at names) null ∙ named_null heap closed numbers in omega (arith, none))
          | inr found ↦ (found.0, found.1, sym found.2, ap (number_at names) found.2 ∙ at)
        ]
      ]

  leads : (from : List ℕ) (l : ℕ) → l < length heap.marks → Contains from (from_address (mark l)) → LeadTo heap.edition heap.words from (mark l)
  leads from l lt there = record { start = closed.started l 0 lt; address = there }

  -- what the roots reach in object numbers, they reach in the heap
  pub to_heap : (n : ℕ) → IsReachableIn stable stable.roots n → (l : ℕ) × (l < length heap.marks) × (number (mark l) ≡ n) × IsReachable heap.edition heap.words heap.roots (mark l)
  to_heap n (by_root _ low on among) =
      let numbered = subst (λ (roots : List ℕ). IsAmong roots n) is.roots among in
      let k = numbered.0 in
      let back = at_map_back (number_at names) heap.roots k n numbered.1 in
      let root = back.0 in
      let inside = at_below heap.roots k root back.1 in
      let there = contains_at heap.roots k root inside (read_at heap.roots k root 0 back.1) in
      let found = numbered_at root n (All-contains (IsValue heap.edition heap.marks) heap.roots root closed.roots there) back.2 low on in
      let address = from_address (mark found.0) in
      (found.0, found.1, found.3, from_root (mark found.0) (leads heap.roots found.0 found.1 (subst (Contains heap.roots) {y = address} found.2 there)))
  to_heap n (by_reference m _ reached low on refers) =
      let at = to_heap m reached in
      let l = at.0 in
      let references = (object_at heap.edition heap.words (mark l)).references in
      let field = refers.field in
      let inside : field < refs_of (header_at heap.edition heap.words (mark l)) =
      subst (λ h. field < refs_of h) (ap (head_of stable) (sym at.2) ∙ head_is l at.1) refers.inside in
      let word = get_or heap.words (mark l + (1 + field)) 0 in
      let named : number_at names word ≡ n = sym (reference_is l field at.1 inside) ∙ ap (λ (k : ℕ). get_or (stable.words k) (1 + field) 0) at.2 ∙ refers.value in
      let place = field_is l field at.1 inside in
      let there = contains_at references field word place.0 place.1 in
      let found = numbered_at word n (All-contains (IsValue heap.edition heap.marks) references word (closed.references l 0 at.1) there) named low on in
      let address = from_address (mark found.0) in
      (found.0, found.1, found.3, from_reference (mark l) (mark found.0) at.3 (leads references found.0 found.1 (subst (Contains references) {y = address} found.2 there)))

  -- two marked objects with one number are one
  pub number_once : (k l : ℕ) → k < length heap.marks → l < length heap.marks → number (mark k) ≡ number (mark l) → mark k ≡ mark l
  number_once k l lt_k lt_l same =
      ap (λ (j : ℕ). get_or heap.marks j 0)
      (is.once k l (omega (arith, numbers_long)) (omega (arith, numbers_long)) (sym (number_is k lt_k) ∙ same ∙ number_is l lt_l))

  pub numbers_reach : AreApart heap.edition stable.given → (i : ℕ) → Contains heap.marks i → IsReachable heap.edition heap.words heap.roots i ↔ IsReachableIn stable stable.roots (number i)
  numbers_reach apart i marked = (
    to_stable apart i,
    λ reached.
        let at = to_heap (number i) reached in
        let place = place_of heap.marks i marked in
        let same : mark at.0 ≡ i = number_once at.0 place.0 at.1 place.1 (at.2 ∙ ap number (sym place.2)) ∙ place.2 in
        subst (IsReachable heap.edition heap.words heap.roots) same at.3,
  )
