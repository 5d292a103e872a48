use Rattle.std.proofs.Common.{◌≡◌, ◌+◌, ◌≤◌, ◌++◌, map, length, vec_capacity}
use Rattle.comp_mutator.specs.Lists.{Each}
use Rattle.comp_trace.specs.Runners.{mutator_of, room_in, room_of, IsBlank}
use Rattle.comp_trace.proofs.races.racing.readied.Given as goal

abbrev pub invariant-loop-mutator : goal.invariant-loop-mutator
invariant-loop-mutator g l = record {
  mutators : map mutator_of l.runners.items ++ l.mutator-iterator.rest.items ≡ l.fn.mutators.items;
  rooms : map room_of l.runners.items ++ map room_in l.rooms.items ≡ map room_in l.fn.rooms.items;
  blank : Each l.runners.items IsBlank;
  left : length l.rooms.items ≡ length l.mutator-iterator.rest.items;
  room : length l.runners.items + length l.mutator-iterator.rest.items ≤ vec_capacity l.runners;
}
