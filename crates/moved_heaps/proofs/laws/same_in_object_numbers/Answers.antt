use Rattle.moved_heaps.proofs.SameHeap.{in_order_of_marks, in_any_order}
use Rattle.moved_heaps.proofs.laws.same_in_object_numbers.Goals as goal

pub returns-clause-marks : goal.returns-clause-marks
returns-clause-marks c = λ heap moved numbers stable closed lawful is far. in_order_of_marks heap moved numbers stable closed lawful is far

pub returns-clause-order : goal.returns-clause-order
returns-clause-order c = λ heap moved numbers stable row closed lawful is far moves. in_any_order heap moved numbers stable closed lawful is far row moves
