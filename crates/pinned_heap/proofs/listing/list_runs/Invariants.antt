use Rattle.std.proofs.Common.{◌≡◌, ◌-◌, ◌*◌, ◌≤◌, length}
use Rattle.heap_layout.specs.Bits.{bit}
use Rattle.pinned_heap.specs.Listing.{runs_below}
use Rattle.pinned_heap.proofs.listing.list_runs.Given as goal

-- the runs that end below the next word are listed
abbrev pub invariant-loop-next : goal.invariant-loop-next
invariant-loop-next l = record {
  listed : l.runs.items ≡ runs_below (bit l.bits) (bit l.stays) l.next;
  limit : l.limit ≡ 64 * length l.stays;
  within : l.next ≤ l.limit;
}

abbrev pub decreases-loop-next : goal.decreases-loop-next
decreases-loop-next l = l.limit - l.next
