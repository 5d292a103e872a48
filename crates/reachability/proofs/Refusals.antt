-- Why a heap with the marks that the roots reach is refused.
use Rattle.std.proofs.Common.{◌≡◌, ℕ, Bool, true, false, leb, List, [], ◌∷◌, ◌++◌, length, inl, inr, refl, sym, subst, arith}
use Rattle.std.specs.List.{flat_map}
use Rattle.std.proofs.lemmas.Bool.{leb-true, le-leb}
use Rattle.heap_layout.specs.declared.edition.Edition.{Edition}
use Rattle.heap_layout.specs.Limits.{most_words, most_roots}
use Rattle.heap_layout.specs.Heap.{Heap, starts}
use Rattle.heap_layout.specs.Faults.{unless, size_faults, object_faults, mark_faults, root_faults, target_faults, weak_faults, faults, IsAccepted, IsFirst, IsAnswered}
use Rattle.heap_layout.specs.declared.fault.LayoutFault.{LayoutFault}
use Rattle.heap_layout.specs.declared.fault.LayoutFault.TheVariants.{TooLarge, ObjectPastEnd, ObjectTooLong, MarkNotStart, MarksNotRising, BadRoot, UnmarkedTarget, Truncated, TrailingBytes, BadMagic, OutOfMemory, Device, BadWeak}
use Rattle.heap_layout.proofs.Marked.{passed, sizes-few}
use Rattle.heap_layout.proofs.Rows.{first-part}
use Rattle.reachability.specs.Reachable.{AreReachable, RefusesFor}
use Rattle.reachability.proofs.Least.{marks-few, sizes-none}

-- a refusal for one list is one for another list, if the first fault is the same
pub refuses-same : (some other : List LayoutFault) (fault : LayoutFault) → (IsFirst some fault → IsFirst other fault) → RefusesFor some fault → RefusesFor other fault
refuses-same some other OutOfMemory same refuses = tt
refuses-same some other TooLarge same refuses = same refuses
refuses-same some other (ObjectPastEnd i) same refuses = same refuses
refuses-same some other (ObjectTooLong i) same refuses = same refuses
refuses-same some other (MarkNotStart i) same refuses = same refuses
refuses-same some other (MarksNotRising i) same refuses = same refuses
refuses-same some other (BadRoot k) same refuses = same refuses
refuses-same some other (UnmarkedTarget i) same refuses = same refuses
refuses-same some other Truncated same refuses = same refuses
refuses-same some other TrailingBytes same refuses = same refuses
refuses-same some other BadMagic same refuses = same refuses
refuses-same some other Device same refuses = same refuses
refuses-same some other (BadWeak i) same refuses = same refuses

-- the first fault of a list refuses for it
pub refuses-first : (list : List LayoutFault) (fault : LayoutFault) → IsFirst list fault → RefusesFor list fault
refuses-first list OutOfMemory first = tt
refuses-first list TooLarge first = first
refuses-first list (ObjectPastEnd i) first = first
refuses-first list (ObjectTooLong i) first = first
refuses-first list (MarkNotStart i) first = first
refuses-first list (MarksNotRising i) first = first
refuses-first list (BadRoot k) first = first
refuses-first list (UnmarkedTarget i) first = first
refuses-first list Truncated first = first
refuses-first list TrailingBytes first = first
refuses-first list BadMagic first = first
refuses-first list Device first = first
refuses-first list (BadWeak i) first = first

-- so does what the checks of a heap answer: the first fault, or that memory was refused
pub refuses-answered : (list : List LayoutFault) (fault : LayoutFault) → IsAnswered list fault → RefusesFor list fault
refuses-answered list fault (inl first) = refuses-first list fault first
refuses-answered list fault (inr memory) = subst (RefusesFor list) (sym memory.0) tt

-- where there is no fault, only memory is missing
pub memory-only : (fault : LayoutFault) → RefusesFor [] fault → fault ≡ OutOfMemory
memory-only OutOfMemory refuses = refl
memory-only TooLarge refuses = absurd refuses
memory-only (ObjectPastEnd i) refuses = absurd refuses
memory-only (ObjectTooLong i) refuses = absurd refuses
memory-only (MarkNotStart i) refuses = absurd refuses
memory-only (MarksNotRising i) refuses = absurd refuses
memory-only (BadRoot k) refuses = absurd refuses
memory-only (UnmarkedTarget i) refuses = absurd refuses
memory-only Truncated refuses = absurd refuses
memory-only TrailingBytes refuses = absurd refuses
memory-only BadMagic refuses = absurd refuses
memory-only Device refuses = absurd refuses
memory-only (BadWeak i) refuses = absurd refuses

-- the first fault of two lists is that of the first list and of a longer second one
first-longer : (some row more : List LayoutFault) (fault : LayoutFault) → IsFirst (some ++ row) fault → IsFirst (some ++ (row ++ more)) fault
first-longer [] row more fault first = first-part row more fault first
first-longer (x ∷ some) row more fault first = first

-- marks that are few if the words are few change no first fault of the sizes
sizes-first : (words marks roots : Bool) (row : List LayoutFault) (fault : LayoutFault) → (words ≡ true → marks ≡ true)
    → IsFirst ((unless words TooLarge ++ unless true TooLarge ++ unless roots TooLarge) ++ row) fault
    → IsFirst ((unless words TooLarge ++ unless marks TooLarge ++ unless roots TooLarge) ++ row) fault
sizes-first false marks roots row fault few first = first
sizes-first true true roots row fault few first = first
sizes-first true false roots row fault few first = absurd (let no : false ≡ true = few refl in cc)

-- the faults of the sizes and of the row
abbrev pub front : Edition → List ℕ → List ℕ → List LayoutFault
front edition words roots = size_faults edition (length words) 0 (length roots) ++ flat_map (object_faults edition words) (starts edition words)

-- the first fault of the sizes and the row is that of the heap
pub refused-row : (edition : Edition) (words roots marks : List ℕ) (fault : LayoutFault) → AreReachable edition words roots marks
    → RefusesFor (front edition words roots) fault
    → RefusesFor (faults (record { edition = edition; words = words; marks = marks; roots = roots })) fault
refused-row edition words roots marks fault are refuses =
    let most = most_words edition in
    let row = flat_map (object_faults edition words) (starts edition words) in
    let sizes = size_faults edition (length words) (length marks) (length roots) in
    let no_marks = mark_faults (starts edition words) 0 marks in
    let of_roots = root_faults edition marks roots in
    let targets = target_faults edition words marks marks in
    let weak = weak_faults edition words marks in
    let none : leb 0 most ≡ true = le-leb 0 most (omega arith) in
    let few : leb (length words) most ≡ true → leb (length marks) most ≡ true =
    λ is. (let words_few = leb-true (length words) most is in let fewer = marks-few edition words roots marks are in le-leb (length marks) most (omega arith)) in
    let at_sizes : IsFirst (front edition words roots) fault → IsFirst (sizes ++ row) fault =
    λ first. sizes-first (leb (length words) most) (leb (length marks) most) (leb (length roots) (most_roots edition)) row fault few (rw none at first) in
    refuses-same (front edition words roots) (faults (record { edition = edition; words = words; marks = marks; roots = roots })) fault
    (λ first. first-longer sizes (row ++ no_marks ++ of_roots ++ targets) weak fault
    (first-longer sizes (row ++ no_marks ++ of_roots) targets fault
    (first-longer sizes (row ++ no_marks) of_roots fault
    (first-longer sizes row no_marks fault (at_sizes first)))))
    refuses

-- the sizes and the row of an accepted heap have no fault
pub front-none : (heap : Heap) → IsAccepted heap → front heap.edition heap.words heap.roots ≡ []
front-none heap accepted =
    let parts = passed heap accepted in
    let few = sizes-few heap.edition (length heap.words) (length heap.marks) (length heap.roots) parts.sizes in
    rw (parts.row, sizes-none heap.edition (length heap.words) 0 (length heap.roots) few.0 (omega arith) few.2) refl
