use Rattle.std.proofs.Common.{◌≡◌, ℕ, ◌<◌, length, slice_index}
use Rattle.mark_job.specs.Heads.{AreAmong}
use Rattle.mark_job.specs.Marking.{AreMarkedTo}
use Rattle.mark_job.proofs.following.Marks.meet_each.Given as goal

abbrev pub invariant-loop-k : goal.invariant-loop-k
invariant-loop-k l = record {
  marked : AreMarkedTo l.self.count l.from l.k l.met.bits;
  table : l.met.table ≡ l.fn.met.table;
  stay : AreAmong l.fn.met.bits l.met.bits;
  places : (k : ℕ) → k < length l.fn.objects.items
      → (k < length l.objects.items) × (slice_index l.objects.items k ≡ slice_index l.fn.objects.items k);
}
