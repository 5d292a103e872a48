use Rattle.std.proofs.Common.{◌≡◌, ℕ, ◌<◌, take}
use Rattle.heap_layout.specs.Heap.{live}
use Rattle.page_plan.specs.Sliding.{live_words}
use Rattle.comp_audit.specs.Explained.{IsInPlace}
use Rattle.comp_audit.proofs.explaining.objects.out_of_place.Given as goal

-- the objects so far are in place
abbrev pub invariant-loop-number : goal.invariant-loop-number
invariant-loop-number l = record {
  begin : l.begin ≡ live_words (take l.number (live l.plan));
  in_place : (k : ℕ) → k < l.number → IsInPlace l.plan l.dump k;
}
