use Rattle.std.proofs.Common.{◌≡◌, ℕ, map}
use Rattle.comp_sweep.specs.Queues.{taken_on, way_name}
use Rattle.comp_sweep.proofs.queues.RegionQueue.steal.Given as goal

abbrev pub invariant-loop-k : goal.invariant-loop-k
invariant-loop-k g l = record {
  own : l.self.own ≡ l.initial.self.own;
  ways : map way_name l.self.ways.items ≡ map way_name l.initial.self.ways.items;
  none : (x : ℕ) → taken_on x l.self.ways.items ≡ taken_on x l.initial.self.ways.items;
}
