use Rattle.heap_layout.specs.Heap.{Heap}
use Rattle.heap_layout.specs.Faults.{faults, IsAnswered}
use Rattle.heap_layout.proofs.Reading.{handed_on}
use Rattle.heap_layout.proofs.heap.MarkedHeap.from_parts_of.Goals as goal

pub returns-in_err-check-clause-fault : goal.returns-in_err-check-clause-fault
returns-in_err-check-clause-fault c =
    let heap : Heap = record { edition = c.args.edition; words = c.args.words.items; marks = c.args.marks.items; roots = c.args.roots.items } in
    let answered = rw (c.deref.ensures.value, c.deref-2.ensures.value, c.deref-3.ensures.value) at c.in_err-check.ensures in
    handed_on _ (IsAnswered (faults heap)) _ c.from_residual.ensures.1 answered

pub invariant_of-result : goal.invariant_of-result
invariant_of-result c = rw (c.deref.ensures.value, c.deref-2.ensures.value, c.deref-3.ensures.value) at c.in_ok-check.ensures

pub returns-clause-accepted : goal.returns-clause-accepted
returns-clause-accepted c = rw (c.deref.ensures.value, c.deref-2.ensures.value, c.deref-3.ensures.value) at c.in_ok-check.ensures
