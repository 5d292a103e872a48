use Rattle.std.proofs.Common.{◌≡◌, ℕ, length}
use Rattle.comp_sweep.specs.Queues.{standings, taken_in, AreDistributed}
use Rattle.comp_sweep.proofs.splitting.put_all.Given as goal

abbrev pub invariant-loop-region : goal.invariant-loop-region
invariant-loop-region l = record {
  count : length l.queues.items ≡ length l.initial.queues.items;
  distributed : AreDistributed l.region (standings l.queues.items);
  taken : (x : ℕ) → taken_in x l.queues.items ≡ taken_in x l.initial.queues.items;
}
