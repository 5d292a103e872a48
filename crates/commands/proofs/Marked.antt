-- A heap that is marked by its roots.
use Rattle.std.proofs.Common.{◌≡◌, List, ℕ, subst, sym}
use Rattle.heap_layout.specs.Faults.{IsAccepted}
use Rattle.heap_layout.specs.Heap.{Heap, IsStored}
use Rattle.reachability.specs.Reachable.{AreReachable}
use Rattle.commands.specs.HeapTasks.{remarked, IsMarkedHeap}

-- a heap of the same parts, with the reachable marks
pub marked_heap : (parts heap : Heap) → heap ≡ remarked parts heap.marks → AreReachable parts.edition parts.words parts.roots heap.marks → IsAccepted heap → IsStored heap → IsMarkedHeap parts heap
marked_heap parts heap same are accepted stored = record {
  same = same;
  marked = subst (λ (h : Heap). AreReachable h.edition h.words h.roots heap.marks) (sym same) are;
  accepted = accepted;
  stored = stored;
}
