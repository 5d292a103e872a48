use Rattle.std.proofs.Common.{◌≡◌, ℕ, ◌<◌, length, slice_index}
use Rattle.mark_job.specs.Asked.{AreMetIn}
use Rattle.mark_job.proofs.looking.meet_all.Given as goal

abbrev pub invariant-loop-k : goal.invariant-loop-k
invariant-loop-k l = record {
  met : AreMetIn l.image l.objects.items;
  stay : (k : ℕ) → k < length l.fn.objects.items
      → (k < length l.objects.items) × (slice_index l.objects.items k ≡ slice_index l.fn.objects.items k);
}
