use Rattle.std.proofs.Common.{◌≡◌}
use Rattle.comp_sweep.specs.Queues.{way_deque, way_view}
use Rattle.comp_sweep.proofs.deques.Way.steal.Given as goal

abbrev pub invariant-loop : goal.invariant-loop
invariant-loop g l = record {
  index : l.self.index ≡ l.initial.self.index;
  deque : way_deque l.self ≡ way_deque l.initial.self;
  taken : (way_view l.self).taken ≡ (way_view l.initial.self).taken;
}
