use Rattle.std.proofs.Common.{◌≡◌, ◌*◌, ◌≤◌, length, take}
use Rattle.std.specs.List.{flat_map}
use Rattle.comp_dump.specs.DumpEncoding.{page_bytes}
use Rattle.file_handle.proofs.sizes.pages_size.Given as goal

abbrev pub invariant-loop-p : goal.invariant-loop-p
invariant-loop-p l = record {
  size : l.size ≡ length (flat_map page_bytes (take l.p l.pages));
  few : l.size ≤ 19973 * l.p;
}
