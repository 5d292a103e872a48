use Rattle.std.proofs.Common.{◌≡◌, ◌*◌, take}
use Rattle.std.specs.List.{flat_map}
use Rattle.comp_dump.specs.DumpEncoding.{entry_bytes}
use Rattle.comp_dump.proofs.writing.write_some_entries.Given as goal

-- the bytes of the entries so far
abbrev pub invariant-loop-i : goal.invariant-loop-i
invariant-loop-i g l = take (19 * l.i) l.part ≡ flat_map entry_bytes (take l.i l.journal)
