use Rattle.std.proofs.Common.{◌≤◌, take, length, vec_capacity}
use Rattle.comp_trace.specs.Runners.{HaveRooms}
use Rattle.comp_trace.proofs.races.racing.rooms.Given as goal

abbrev pub invariant-loop-m : goal.invariant-loop-m
invariant-loop-m g l = record {
  rooms : HaveRooms l.lines (take l.m-index l.mutators) l.rooms.items;
  room : length l.mutators ≤ vec_capacity l.rooms;
}
