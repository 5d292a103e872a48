use Rattle.std.proofs.Common.{◌≡◌, length, ◌-◌, ◌≤◌, vec_capacity}
use Rattle.young_heap.specs.Young.{seeds, AreKeptBelow}
use Rattle.young_heap.proofs.Following.{IsFollowed}
use Rattle.young_heap.proofs.Spreading.{IsSpread}
use Rattle.young_heap.proofs.marking.mark_above.Given as goal

abbrev pub invariant-loop-next : goal.invariant-loop-next
invariant-loop-next l = record {
  followed : IsFollowed l.edition l.old l.words (seeds l.words l.roots l.fields) l.queue.items l.next;
  spread : IsSpread l.edition l.fn.heads l.old l.words l.queue.items l.next l.heads l.bits;
  long : length l.heads ≡ length l.fn.heads;
  heads_below : AreKeptBelow l.old l.fn.heads l.heads;
  bits_below : AreKeptBelow l.old l.fn.bits l.bits;
  room : vec_capacity l.fn.queue ≤ vec_capacity l.queue;
}

abbrev pub decreases-loop-next : goal.decreases-loop-next
decreases-loop-next l = length l.words - l.next
