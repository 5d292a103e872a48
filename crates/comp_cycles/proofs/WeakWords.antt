-- Each weak word of a marked object of the next heap is null or leads to an object.
use Rattle.std.proofs.Common.{◌≡◌, ℕ, suc, ◌+◌, ◌-◌, ◌*◌, ◌/◌, ◌%◌, ◌^◌, ◌<◌, ◌≤◌, ◌==◌, Bool, true, false, cond, eqb, Some, List, [], ◌∷◌, ◌++◌, length, get_or, drop, refl, sym, ap, ap₂, ◌∙◌, ⊎_elim, subst, arith, eqb-true, eq-eqb, length-take}
use Rattle.std.specs.List.{flat_map, list_any}
use Rattle.std.proofs.lemmas.Bool.{cases_Bool, or_cases, or_left, or_right, both_ways}
use Rattle.std.proofs.lemmas.List.{get_or-take, get_or-drop}
use Rattle.heap_layout.specs.Header.{header_of, refs_of, weak_of}
use Rattle.heap_layout.specs.Kinds.{first_of}
use Rattle.heap_layout.specs.Values.{is_immediate, LeadsNowhere}
use Rattle.heap_layout.proofs.Values.{value-immediate, value-target, nowhere-cases}
use Rattle.heap_layout.specs.Heap.{Heap, header_at, object_at, from_address, starts, is_start, is_target, is_value, IsClosed}
use Rattle.heap_layout.specs.Faults.{unless, misled, reference_faults_by, mark_faults, weak_faults}
use Rattle.heap_layout.specs.declared.fault.LayoutFault.{LayoutFault}
use Rattle.heap_layout.specs.declared.kind.Kind.{Kind}
use Rattle.heap_layout.specs.declared.kind.Kind.TheVariants.{Header, Weak}
use Rattle.heap_layout.proofs.Marked.{marks-started}
use Rattle.page_plan.specs.Sliding.{to_address}
use Rattle.page_plan.proofs.Owners.{objects_stand}
use Rattle.comp_history.specs.Setup.{Setup, pages}
use Rattle.comp_history.specs.Locks.{Journals}
use Rattle.comp_history.specs.Starts.{IsForwardingAddress}
use Rattle.comp_history.specs.Objects.{IsMadeAt, IsObjectAt, LeadsToObject}
use Rattle.comp_history.proofs.Leading.{each_leads, older_closed}
use Rattle.comp_history.specs.Merged.{CanMerge}
use Rattle.comp_cycles.specs.NextHeap.{word_in, kind_in, lowered, next_heap, object_starts}
use Rattle.comp_cycles.proofs.Finals.{head_in, stands, is_object}
use Rattle.comp_cycles.proofs.Rows.{start_found, next_long, next_kind, next_row, mark_is}

-- ---- lists of faults

-- words that all pass a test have no fault
none_misled : (kind : Kind) (test : ℕ → Bool) (first : ℕ) (words : List ℕ) → ((k : ℕ) → k < length words → test (get_or words k 0) ≡ true) → reference_faults_by kind test first words ≡ []
none_misled kind test first [] passes = refl
none_misled kind test first (word ∷ words) passes =
    ap₂ (λ (a b : List LayoutFault). a ++ b) (ap (λ t. unless t (misled kind first)) (passes 0 (omega arith)))
    (none_misled kind test (first + 1) words (λ k lt. passes (suc k) (omega (arith, lt))))

-- marks that have no fault one by one have none together
none_of_marks : (F : ℕ → List LayoutFault) (marks : List ℕ) → ((k : ℕ) → k < length marks → F (get_or marks k 0) ≡ []) → flat_map F marks ≡ []
none_of_marks F [] none = refl
none_of_marks F (mark ∷ marks) none =
    ap₂ (λ (a b : List LayoutFault). a ++ b) (none 0 (omega arith)) (none_of_marks F marks (λ k lt. none (suc k) (omega (arith, lt))))

-- the address of a start leads to a start
started : (row : List ℕ) (i w : ℕ) → is_start row i ≡ true → from_address i ≡ w → list_any (λ m. from_address m == w) row ≡ true
started [] i w found e = absurd (both_ways false refl found)
started (start ∷ row) i w found e = ⊎_elim
    (λ (here : eqb start i ≡ true).
    or_left (eqb (from_address start) w) (list_any (λ m. from_address m == w) row) (eq-eqb (from_address start) w (ap from_address (eqb-true start i here) ∙ e)))
    (λ (later : is_start row i ≡ true). or_right (eqb (from_address start) w) (list_any (λ m. from_address m == w) row) (started row i w later e))
    (or_cases (eqb start i) (is_start row i) found)

-- ---- the next heap

module _ (u : Setup) (journals : Journals) (closed_before : IsClosed u.heap) (can : CanMerge u journals) (roots marks : List ℕ) where
  abbrev next : Heap
  next = next_heap u journals roots marks

  abbrev row : List ℕ
  row = starts u.heap.edition next.words

  -- if an object starts at a to-space address, one starts at the lowered address in the next heap
  object_there : (w : ℕ) → IsObjectAt u journals w → is_target row (w - 2 ^ 32) ≡ true
  object_there w is =
      let up : to_address 0 ≤ w = ⊎_elim
      (λ (slid : IsForwardingAddress u.heap w). ((objects_stand u.heap closed_before).stands w slid.0 slid.1).above)
      (λ (m : IsMadeAt u journals w). omega (arith, m.at))
      is in
      let i = w - to_address 0 in
      let here : to_address i ≡ w = omega (arith, up) in
      let s = stands u journals closed_before can i (subst (IsObjectAt u journals) (sym here) is) in
      let inside : i < length next.words = let ends = s.ends in let long = next_long u journals closed_before can roots marks in omega (arith, ends, long) in
      let found = start_found u.heap.edition next.words (kind_in u journals) (next_row u journals closed_before can roots marks) i inside s.first in
      let same : from_address i ≡ w - 2 ^ 32 = omega (arith, up) in
      or_right (eqb (w - 2 ^ 32) 0) (list_any (λ m. from_address m == w - 2 ^ 32) row) (started row i (w - 2 ^ 32) found same)

  leads_there : (w : ℕ) → LeadsToObject u journals w → is_value u.heap.edition row (lowered u.heap.edition w) ≡ true
  leads_there w leads = ⊎_elim
      (λ (immediate : is_immediate u.heap.edition w ≡ true).
      let stays : lowered u.heap.edition w ≡ w = ap (λ b. cond b w (w - 2 ^ 32)) immediate in
      value-immediate u.heap.edition row (lowered u.heap.edition w) (ap (is_immediate u.heap.edition) stays ∙ immediate))
      (λ (other : is_immediate u.heap.edition w ≡ false).
      let low : lowered u.heap.edition w ≡ w - 2 ^ 32 = ap (λ b. cond b w (w - 2 ^ 32)) other in
      value-target u.heap.edition row (lowered u.heap.edition w) (subst (λ x. is_target row x ≡ true) (sym low)
      (⊎_elim
      (λ (nowhere : LeadsNowhere u.heap.edition w). ⊎_elim
      (λ (null : w ≡ 0). let none : w - 2 ^ 32 ≡ 0 = omega (arith, null) in or_left (eqb (w - 2 ^ 32) 0) (list_any (λ m. from_address m == w - 2 ^ 32) row) (eq-eqb (w - 2 ^ 32) 0 none))
      (λ (immediate : is_immediate u.heap.edition w ≡ true). absurd (both_ways (is_immediate u.heap.edition w) other immediate))
      (nowhere-cases u.heap.edition w nowhere))
      (λ (is : IsObjectAt u journals w). object_there w is)
      leads)))
      (cases_Bool (is_immediate u.heap.edition w))

  -- a weak word of an object
  weak_word : (m j : ℕ) → m < 64 * pages u → kind_in u journals m ≡ Some Header → j < weak_of (head_in u journals m)
      → is_value u.heap.edition row (get_or next.words (m + first_of Weak (head_in u journals m) + j) 0) ≡ true
  weak_word m j lt head few =
      let s = stands u journals closed_before can m (is_object u journals closed_before can m lt head) in
      let i = m + first_of Weak (head_in u journals m) + j in
      let kind : kind_in u journals i ≡ Some Weak = s.fields Weak j few in
      let inside : i < 64 * pages u = let ends = s.ends in omega (arith, ends, few) in
      let leads = each_leads u journals can.lawful (older_closed u journals can.references) (i / 64) (i % 64) Weak refl (record { inside = omega arith; kind_is = kind }) in
      subst (λ w. is_value u.heap.edition row w ≡ true) (sym (next_kind u journals closed_before can roots marks i (Some Weak) inside kind)) (leads_there (word_in u journals i) leads)

  -- if the marks have no fault, the weak words have none
  pub weak_words_lead : mark_faults (object_starts u journals) 0 marks ≡ [] → weak_faults u.heap.edition next.words marks ≡ []
  weak_words_lead none = none_of_marks
      (λ mark. reference_faults_by Weak (is_value u.heap.edition row) (mark + first_of Weak (header_at u.heap.edition next.words mark)) (object_at u.heap.edition next.words mark).weak)
      marks
      (λ k lt.
      let m = get_or marks k 0 in
      let h = header_at u.heap.edition next.words m in
      let is = mark_is u journals closed_before can roots marks m (marks-started (object_starts u journals) 0 marks none k 0 lt) in
      let same : h ≡ head_in u journals m = ap (header_of u.heap.edition) (next_kind u journals closed_before can roots marks m (Some Header) is.0 is.1) in
      none_misled Weak (is_value u.heap.edition row) (m + first_of Weak h) (object_at u.heap.edition next.words m).weak
      (λ j few.
      let below : j < weak_of h = let long = length-take (weak_of h) (drop (m + 1 + refs_of h) next.words) in omega (arith, few, long) in
      let read : get_or (object_at u.heap.edition next.words m).weak j 0 ≡ get_or next.words (m + 1 + refs_of h + j) 0 =
      get_or-take (weak_of h) (drop (m + 1 + refs_of h) next.words) j 0 below ∙ get_or-drop (m + 1 + refs_of h) next.words j 0 in
      let refs = ap refs_of same in
      let place : m + first_of Weak (head_in u journals m) + j ≡ m + 1 + refs_of h + j = omega (arith, refs) in
      subst (λ w. is_value u.heap.edition row w ≡ true) (sym read)
      (subst (λ n. is_value u.heap.edition row (get_or next.words n 0) ≡ true) place (weak_word m j is.0 is.1 (subst (λ x. j < weak_of x) same below)))))
