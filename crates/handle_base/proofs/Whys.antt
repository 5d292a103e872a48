-- Why heaps are refused.
use Rattle.std.proofs.Common.{◌≡◌, ℕ, List, [], length, Result, Ok, Err, inl, inr, refl, sym, subst, arith}
use Rattle.std.specs.List.{flat_map}
use Rattle.std.specs.Result.{IfErr}
use Rattle.heap_layout.specs.Faults.{faults, object_faults, part_faults, size_faults, IsAccepted, IsAnswered, IsFirst}
use Rattle.heap_layout.specs.Heap.{starts, Heap}
use Rattle.heap_layout.specs.declared.edition.Edition.{Edition}
use Rattle.heap_layout.specs.declared.fault.LayoutFault.{LayoutFault}
use Rattle.heap_layout.specs.declared.fault.LayoutFault.TheVariants.{TooLarge, ObjectPastEnd, ObjectTooLong, MarkNotStart, MarksNotRising, BadRoot, UnmarkedTarget, Truncated, TrailingBytes, BadMagic, OutOfMemory, Device, BadWeak}
use Rattle.heap_layout.proofs.Marked.{passed, sizes-few}
use Rattle.heap_layout.proofs.Reading.{size_fault}
use Rattle.heap_layout.proofs.Rows.{first-part}
use Rattle.reachability.specs.Reachable.{AreReachable, RefusesFor}
use Rattle.reachability.proofs.Least.{sizes-none}
use Rattle.reachability.proofs.Refusals.{refused-row}
use Rattle.handle_base.specs.Making.{given, AreFew, IsWhy, IsWhyReached}

-- what follows from a fault follows from the answer
pub err_more : {T E : Type 0} {P Q : E → Type 0} (r : Result T E) → ((e : E) → P e → Q e) → IfErr r P → IfErr r Q
err_more (Ok x) f h = tt
err_more (Err e) f h = f e h

-- a heap with too many words, marks or roots
pub too_many : (heap : Heap) (fault : LayoutFault) → IsFirst (size_faults heap.edition (length heap.words) (length heap.marks) (length heap.roots)) fault → IsWhy heap fault
too_many heap fault first = inr (first-part (size_faults heap.edition (length heap.words) (length heap.marks) (length heap.roots)) (part_faults heap) fault first)

-- why a heap with these marks is refused that has not too many
pub why_answered : (heap : Heap) (fault : LayoutFault) → AreFew heap.edition heap.words heap.marks heap.roots → IsAnswered (faults heap) fault → IsWhy heap fault
why_answered heap fault few (inl first) = inr first
why_answered heap fault few (inr memory) = inl (memory.0, few)

-- an accepted heap has not too many
pub few_of : (heap : Heap) → IsAccepted heap → AreFew heap.edition heap.words heap.marks heap.roots
few_of heap accepted = (passed heap accepted).sizes

-- too many words or roots, whatever they reach
pub too_many_reached : (edition : Edition) (words roots : List ℕ) (fault : LayoutFault) → IsFirst (size_faults edition (length words) 0 (length roots)) fault → IsWhyReached edition words roots fault
too_many_reached edition words roots fault first =
    let sizes = size_faults edition (length words) 0 (length roots) in
    let large = (size_fault edition (length words) 0 (length roots) fault first).0 in
    let at = subst (λ (f : LayoutFault). IsFirst sizes f) large first in
    subst (λ (f : LayoutFault). IsWhyReached edition words roots f) (sym large)
    (inr (λ marks are. refused-row edition words roots marks TooLarge are (first-part sizes (flat_map (object_faults edition words) (starts edition words)) TooLarge at)))

-- why a heap is refused that is marked by what its roots reach, and has not too many words and roots
pub why_refused : (edition : Edition) (words roots : List ℕ) (fault : LayoutFault) → AreFew edition words [] roots
    → ((marks : List ℕ) → AreReachable edition words roots marks → RefusesFor (faults (given edition words marks roots)) fault) → IsWhyReached edition words roots fault
why_refused edition words roots OutOfMemory few h = inl (refl, few)
why_refused edition words roots TooLarge few h = inr h
why_refused edition words roots (ObjectPastEnd i) few h = inr h
why_refused edition words roots (ObjectTooLong i) few h = inr h
why_refused edition words roots (MarkNotStart i) few h = inr h
why_refused edition words roots (MarksNotRising i) few h = inr h
why_refused edition words roots (BadRoot i) few h = inr h
why_refused edition words roots (UnmarkedTarget i) few h = inr h
why_refused edition words roots Truncated few h = inr h
why_refused edition words roots TrailingBytes few h = inr h
why_refused edition words roots BadMagic few h = inr h
why_refused edition words roots Device few h = inr h
why_refused edition words roots (BadWeak i) few h = inr h

-- an accepted heap has not too many words and roots
pub few_reached : (heap : Heap) → IsAccepted heap → AreFew heap.edition heap.words [] heap.roots
few_reached heap accepted =
    let few = sizes-few heap.edition (length heap.words) (length heap.marks) (length heap.roots) (passed heap accepted).sizes in
    sizes-none heap.edition (length heap.words) 0 (length heap.roots) few.0 (omega arith) few.2
