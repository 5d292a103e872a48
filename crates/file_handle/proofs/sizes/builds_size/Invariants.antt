use Rattle.std.proofs.Common.{◌≡◌, ◌*◌, ◌+◌, ◌^◌, ◌≤◌, length, take}
use Rattle.std.specs.List.{flat_map}
use Rattle.comp_dump.specs.CellEnds.{lists as items_of}
use Rattle.comp_dump.specs.DumpEncoding.{builds_bytes}
use Rattle.file_handle.proofs.sizes.builds_size.Given as goal

abbrev pub invariant-loop-list : goal.invariant-loop-list
invariant-loop-list l = record {
  size : l.size ≡ length (flat_map builds_bytes (take l.list-index (items_of l.lists)));
  few : l.size ≤ (4 + 4 * 2 ^ 26) * l.list-index;
}
