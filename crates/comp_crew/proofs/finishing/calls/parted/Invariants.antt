use Rattle.std.proofs.Common.{◌≡◌, ◌+◌, ◌*◌, ◌≤◌, ◌++◌, map, length, vec_capacity}
use Rattle.comp_cycles.specs.Finishes.{allocated_by}
use Rattle.comp_access.specs.Hands.{pass_of}
use Rattle.comp_crew.proofs.finishing.calls.parted.Given as goal

abbrev pub invariant-loop-hand : goal.invariant-loop-hand
invariant-loop-hand l = record {
  passes : l.passes.items ++ map pass_of l.hand-iterator.rest.items ≡ map pass_of l.fn.row.items;
  words : l.all + allocated_by (map pass_of l.hand-iterator.rest.items) ≡ allocated_by (map pass_of l.fn.row.items);
  bound : l.all ≤ length l.passes.items * 67108864;
  many : length l.passes.items + length l.hand-iterator.rest.items ≤ 255;
  room : length l.passes.items + length l.hand-iterator.rest.items ≤ vec_capacity l.passes;
}
