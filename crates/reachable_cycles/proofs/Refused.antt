-- Why the next heap with reachable marks is refused.
use Rattle.std.proofs.Common.{◌≡◌, ℕ, ◌*◌, ◌≤◌, Bool, true, false, leb, List, [], ◌++◌, All, Result, Ok, Err, IfOk, inl, inr, length, map, refl, sym, ap, subst, ◌∙◌, arith}
use Rattle.std.specs.List.{flat_map}
use Rattle.std.proofs.lemmas.Bool.{cases_lt}
use Rattle.std.proofs.lemmas.List.{length-map}
use Rattle.heap_layout.specs.declared.edition.Edition.{Edition}
use Rattle.heap_layout.specs.declared.fault.LayoutFault.{LayoutFault}
use Rattle.heap_layout.specs.declared.fault.LayoutFault.TheVariants.{TooLarge, ObjectPastEnd, ObjectTooLong, MarkNotStart, MarksNotRising, BadRoot, UnmarkedTarget, Truncated, TrailingBytes, BadMagic, OutOfMemory, Device, BadWeak}
use Rattle.heap_layout.specs.Bits.{leads}
use Rattle.heap_layout.specs.Values.{or_immediate}
use Rattle.heap_layout.specs.Heap.{Heap, starts}
use Rattle.heap_layout.specs.Limits.{most_words, most_roots}
use Rattle.heap_layout.specs.Faults.{unless, size_faults, object_faults, root_faults_by, IsFirst}
use Rattle.heap_layout.proofs.Marked.{sizes-few}
use Rattle.comp_history.specs.Setup.{Setup, pages}
use Rattle.comp_history.specs.Locks.{Journals}
use Rattle.comp_history.specs.Objects.{LeadsToObject}
use Rattle.comp_cycles.specs.Cycles.{heap_after}
use Rattle.comp_cycles.specs.Ends.{checked_faults, checked_heap, cycle_with, setup_in, AreLowered, AreMoved, IsEndOf, IsRefusedFor}
use Rattle.comp_cycles.specs.Finishes.{edition_in, journals_of, pages_of, roots_of}
use Rattle.comp_cycles.specs.NextHeap.{held, kind_in, lowered, next_faults, next_heap}
use Rattle.comp_cycles.specs.declared.finished.Finished.{Finished}
use Rattle.comp_cycles.proofs.Refusals.{made_next}
use Rattle.comp_cycles.proofs.Rows.{next_row, sound_row}
use Rattle.reachability.specs.Reachable.{AreReachable, RefusesFor}
use Rattle.reachability.proofs.Least.{sizes-none}
use Rattle.reachability.proofs.Refusals.{memory-only}
use Rattle.reachable_cycles.specs.NextRoots.{Fits, IsRefusedNext, IsRefusedWith}
use Rattle.reachable_cycles.specs.StableReach.{AreMarkedReachable}
use Rattle.reachable_cycles.proofs.NextMarks.{forwarded_lead, forwarded_long}
use Rattle.reachable_cycles.proofs.HandedRoots.{first_bad, lead_held, roots_lead}

-- what holds of two facts of a result holds of it
pub with_both : {T E : Type 0} (r : Result T E) (P Q R : T → Type 0) → ((x : T) → P x → Q x → R x) → IfOk r P → IfOk r Q → IfOk r R
with_both (Ok x) P Q R f p q = f x p q
with_both (Err e) P Q R f p q = tt

-- where there is no fault, only memory is missing
memory_only : (fault : LayoutFault) → IsRefusedFor [] fault → fault ≡ OutOfMemory
memory_only OutOfMemory refuses = refl
memory_only TooLarge refuses = absurd refuses
memory_only (ObjectPastEnd i) refuses = absurd refuses
memory_only (ObjectTooLong i) refuses = absurd refuses
memory_only (MarkNotStart i) refuses = absurd refuses
memory_only (MarksNotRising i) refuses = absurd refuses
memory_only (BadRoot k) refuses = absurd refuses
memory_only (UnmarkedTarget i) refuses = absurd refuses
memory_only Truncated refuses = absurd refuses
memory_only TrailingBytes refuses = absurd refuses
memory_only BadMagic refuses = absurd refuses
memory_only Device refuses = absurd refuses
memory_only (BadWeak i) refuses = absurd refuses

pub refused_memory : (list : List LayoutFault) (fault : LayoutFault) → list ≡ [] → IsRefusedFor list fault → fault ≡ OutOfMemory
refused_memory list fault none refuses = memory_only fault (subst (λ (l : List LayoutFault). IsRefusedFor l fault) none refuses)

-- roots that are not too many, and of which none is bad, are not refused
refused_stayed : (u : Setup) (journals : Journals) (roots : List ℕ) (fault : LayoutFault) → length roots ≤ most_roots u.heap.edition → All (LeadsToObject u journals) roots
    → IsRefusedWith u journals roots fault → IsRefusedNext u fault
refused_stayed u journals roots OutOfMemory few lead refuses = refuses.few_words
refused_stayed u journals roots TooLarge few lead (inl words) = words
refused_stayed u journals roots TooLarge few lead (inr more) = absurd (omega arith)
refused_stayed u journals roots (BadRoot k) few lead refuses = let first = refuses.1 in absurd (first.bad (lead k 0 first.inside))
refused_stayed u journals roots (ObjectPastEnd i) few lead refuses = absurd refuses
refused_stayed u journals roots (ObjectTooLong i) few lead refuses = absurd refuses
refused_stayed u journals roots (MarkNotStart i) few lead refuses = absurd refuses
refused_stayed u journals roots (MarksNotRising i) few lead refuses = absurd refuses
refused_stayed u journals roots (UnmarkedTarget i) few lead refuses = absurd refuses
refused_stayed u journals roots Truncated few lead refuses = absurd refuses
refused_stayed u journals roots TrailingBytes few lead refuses = absurd refuses
refused_stayed u journals roots BadMagic few lead refuses = absurd refuses
refused_stayed u journals roots Device few lead refuses = absurd refuses
refused_stayed u journals roots (BadWeak i) few lead refuses = absurd refuses

-- sizes have one fault only
size_only : (words marks roots : Bool) (fault : LayoutFault) → IsFirst ((unless words TooLarge ++ unless marks TooLarge) ++ unless roots TooLarge) fault → fault ≡ TooLarge
size_only false marks roots fault first = first
size_only true false roots fault first = first
size_only true true false fault first = first
size_only true true true fault first = absurd first

module _ (u : Setup) (journals : Journals) (roots : List ℕ) where
  abbrev sizes : List LayoutFault
  sizes = size_faults u.heap.edition (64 * pages u) 0 (length roots)

  pub fits : sizes ≡ [] → Fits u roots
  fits none = let few = sizes-few u.heap.edition (64 * pages u) 0 (length roots) none in record { few_words = few.0; few_roots = few.2 }

  -- if the sizes have a fault, there are too many words or roots
  pub refused_sizes : (fault : LayoutFault) → IsFirst sizes fault → IsRefusedWith u journals roots fault
  refused_sizes fault first =
      let edition = u.heap.edition in
      let is = size_only (leb (64 * pages u) (most_words edition)) (leb 0 (most_words edition)) (leb (length roots) (most_roots edition)) fault first in
      subst (IsRefusedWith u journals roots) (sym is)
      (elim (cases_lt (most_words edition) (64 * pages u)) [
        | inl words ↦ inl words
        | inr few ↦ elim (cases_lt (most_roots edition) (length roots)) [
          | inl more ↦ inr more
          | inr few_roots ↦ absurd (subst (λ (list : List LayoutFault). IsFirst list fault) (sizes-none edition (64 * pages u) 0 (length roots) few (omega arith) few_roots) first)
        ]
      ])

-- if they have none, memory may be refused
pub refused_room : (u : Setup) (journals : Journals) (roots : List ℕ) (fault : LayoutFault) → Fits u roots → fault ≡ OutOfMemory → IsRefusedWith u journals roots fault
refused_room u journals roots fault fit is = subst (IsRefusedWith u journals roots) (sym is) fit

-- the sizes that are checked are those of the next heap
pub sizes_are : (heap : Heap) (f : Finished) (edition : Edition) (count roots : ℕ) → IsEndOf heap f → edition ≡ edition_in f → count ≡ length (pages_of f)
    → size_faults edition (64 * count) 0 roots ≡ size_faults heap.edition (64 * pages (setup_in heap f)) 0 roots
sizes_are heap f edition count roots e same same_count = rw (same ∙ e.finished.edition, same_count ∙ e.finished.pages.count) refl

-- if the next heap with these roots has no fault, that of the check has none
pub checked_none : (heap : Heap) (f : Finished) (roots marks : List ℕ) → IsEndOf heap f → All (LeadsToObject (setup_in heap f) (journals_of f)) roots
    → next_faults (setup_in heap f) (journals_of f) (heap_after (cycle_with heap f roots marks)) ≡ [] → checked_faults heap f roots marks ≡ []
checked_none heap f roots marks e lead none =
    let u = setup_in heap f in
    let held_are = lead_held u (journals_of f) e.closed e.finished.history.merges roots lead in
    ap (λ (list : List ℕ). next_faults u (journals_of f) (next_heap u (journals_of f) list marks)) held_are ∙ none

-- if the roots stay, no root is bad
pub refused_forwarded : (heap : Heap) (f : Finished) (roots : List ℕ) (fault : LayoutFault) → IsEndOf heap f → roots ≡ roots_of f
    → IsRefusedWith (setup_in heap f) (journals_of f) roots fault → IsRefusedNext (setup_in heap f) fault
refused_forwarded heap f roots fault e same refuses =
    let u = setup_in heap f in
    let few = e.closed.few_roots in
    refused_stayed u (journals_of f) (roots_of f) fault (omega (arith, forwarded_long u (roots_of f) e.finished.roots))
    (forwarded_lead u (journals_of f) (roots_of f) e.closed e.finished.roots)
    (subst (λ (list : List ℕ). IsRefusedWith u (journals_of f) list fault) same refuses)

-- roots that are lowered by the edition of the finished heap are lowered by one that is the same
pub lowered_by : (f : Finished) (edition : Edition) (roots lower : List ℕ) → edition ≡ edition_in f → AreLowered f roots lower → lower ≡ map (lowered edition) (map held roots)
lowered_by f edition roots lower same are = are ∙ ap (λ (own : Edition). map (lowered own) (map held roots)) (sym same)

-- what the call that marks finds, out of the words, the bits and the lowered roots that it makes
module _ (heap : Heap) (f : Finished) (e : IsEndOf heap f) (roots : List ℕ) (edition : Edition) (words bits lower : List ℕ) (same : edition ≡ edition_in f)
    (moved : AreMoved (setup_in heap f) (journals_of f) (64 * length (pages_of f)) words bits) (roots_are : lower ≡ map (lowered edition) (map held roots))
  where
    abbrev u : Setup
    u = setup_in heap f

    abbrev journals : Journals
    journals = journals_of f

    moved_all : AreMoved u journals (64 * pages u) words bits
    moved_all = subst (λ (n : ℕ). AreMoved u journals (64 * n) words bits) e.finished.pages.count moved

    edition_is : edition ≡ heap.edition
    edition_is = same ∙ e.finished.edition

    own_roots : lower ≡ map (lowered heap.edition) (map held roots)
    own_roots = roots_are ∙ ap (λ (own : Edition). map (lowered own) (map held roots)) edition_is

    same_faults : (now lower_now : List ℕ) → now ≡ bits → lower_now ≡ lower
        → root_faults_by (or_immediate edition (leads now)) lower_now ≡ root_faults_by (or_immediate heap.edition (leads bits)) (map (lowered heap.edition) (map held roots))
    same_faults now lower_now at at_lower =
        ap (λ (own : Edition). root_faults_by (or_immediate own (leads now)) lower_now) edition_is
        ∙ ap (λ (own : List ℕ). root_faults_by (or_immediate heap.edition (leads own)) lower_now) at
        ∙ ap (root_faults_by (or_immediate heap.edition (leads bits))) (at_lower ∙ own_roots)

    -- if no lowered root has a fault, each root leads to an object
    pub checked_lead : (now lower_now : List ℕ) → now ≡ bits → lower_now ≡ lower → Fits u roots → root_faults_by (or_immediate edition (leads now)) lower_now ≡ [] → All (LeadsToObject u journals) roots
    checked_lead now lower_now at at_lower fit none =
        roots_lead u journals e.closed e.finished.history.merges words bits moved_all fit.few_words roots (sym (same_faults now lower_now at at_lower) ∙ none)

    pub refused_root : (now lower_now : List ℕ) (fault : LayoutFault) → now ≡ bits → lower_now ≡ lower → Fits u roots → IsFirst (root_faults_by (or_immediate edition (leads now)) lower_now) fault
        → IsRefusedWith u journals roots fault
    refused_root now lower_now fault at at_lower fit first =
        let found = first_bad u journals e.closed e.finished.history.merges words bits moved_all fit.few_words roots fault
        (subst (λ (list : List LayoutFault). IsFirst list fault) (same_faults now lower_now at at_lower) first) in
        subst (IsRefusedWith u journals roots) (sym found.1) (fit, found.2)

    made : (marks : List ℕ) → record { edition = edition; words = words; marks = marks; roots = lower } ≡ checked_heap heap f roots marks
    made marks = made_next heap f marks roots e edition words bits lower same moved roots_are

    -- the reachable marks of the words that were moved are those of the next heap
    pub moved_reachable : (now lower_now marks : List ℕ) → now ≡ words → lower_now ≡ lower → All (LeadsToObject u journals) roots → AreReachable edition now lower_now marks
        → AreMarkedReachable (cycle_with heap f roots marks)
    moved_reachable now lower_now marks at at_lower lead are =
        let held_are = lead_held u journals e.closed e.finished.history.merges roots lead in
        let next : record { edition = edition; words = words; marks = marks; roots = lower } ≡ heap_after (cycle_with heap f roots marks) =
        made marks ∙ ap (λ (list : List ℕ). next_heap u journals list marks) held_are in
        let here : AreReachable edition words lower marks = subst (λ (list : List ℕ). AreReachable edition words list marks) at_lower (subst (λ (list : List ℕ). AreReachable edition list lower_now marks) at are) in
        subst (λ (h : Heap). AreReachable h.edition h.words h.roots marks) next here

    -- the row of these words has no fault
    row_none : flat_map (object_faults edition words) (starts edition words) ≡ []
    row_none =
        let next = checked_heap heap f roots [] in
        let sound = sound_row heap.edition next.words (kind_in u journals) (next_row u journals e.closed e.finished.history.merges (map held roots) []) in
        subst (λ (h : Heap). flat_map (object_faults h.edition h.words) (starts h.edition h.words) ≡ []) (sym (made [])) sound

    -- so if they and the roots are few, only memory can be refused
    pub refused_marks : (now lower_now : List ℕ) (fault : LayoutFault) → now ≡ words → lower_now ≡ lower → Fits u roots
        → RefusesFor (size_faults edition (length now) 0 (length lower_now) ++ flat_map (object_faults edition now) (starts edition now)) fault → IsRefusedWith u journals roots fault
    refused_marks now lower_now fault at at_lower fit refuses =
        let long : length now ≡ 64 * pages u = ap length at ∙ moved_all.long in
        let roots_long : length lower_now ≡ length roots = ap length (at_lower ∙ roots_are) ∙ length-map (map held roots) (lowered edition) ∙ length-map roots held in
        let few : size_faults edition (length now) 0 (length lower_now) ≡ [] =
        rw (same ∙ e.finished.edition, long, roots_long) (sizes-none heap.edition (64 * pages u) 0 (length roots) fit.few_words (omega arith) fit.few_roots) in
        let row : flat_map (object_faults edition now) (starts edition now) ≡ [] = rw at row_none in
        let none : size_faults edition (length now) 0 (length lower_now) ++ flat_map (object_faults edition now) (starts edition now) ≡ [] = rw (few, row) refl in
        refused_room u journals roots fault fit (memory-only fault (subst (λ (list : List LayoutFault). RefusesFor list fault) none refuses))
