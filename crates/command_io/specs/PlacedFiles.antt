-- Files that were put at their paths.
use Rattle.std.specs.Prelude.{◌≡◌, ℕ, List, Option, None, option_map, IfSome}
use Rattle.std.specs.String.{string_bytes}
use Rattle.heap_layout.specs.Counted.{failures_of, inner_of}
use Rattle.command_io.specs.Counting.{more_by}
use Rattle.command_io.specs.Disk.{Disk}
use Rattle.command_io.specs.declared.parts.Part.{Part}
use Rattle.command_io.specs.declared.parts.Placed.{Placed}

-- the file that was put at its path, as it stood beside it
abbrev pub part_of : Placed → Part
part_of placed = placed.part

-- a file that stands beside a path is meant for this path
abbrev pub IsMeantFor : List ℕ → Option Part → Type 0
IsMeantFor path beside = IfSome beside (λ part. string_bytes part.path ≡ path)

-- what was put is this part, or nothing was put and there is none
abbrev pub IsPut : Option Part → Option Placed → Type 0
IsPut part placed = option_map part_of placed ≡ part

-- Files of which this is known: how many calls failed; that a file beside the path at which it is created is meant for
-- that path; and that it was put there last, if its writer was kept.
abbrev pub placing : {F W : Type 0} → (F → ℕ) → (F → Option Placed) → (W → Option Part) → F → Disk F W
placing failures latest beside files = record {
  holds = λ _ _ _. Unit {0};
  lacks = λ _ _. Unit {0};
  makes = λ _ path made. IsMeantFor path (beside made);
  bars = λ _ _. Unit {0};
  contents = λ _. None;
  begins = λ to. failures to ≡ failures files;
  puts = λ _ _ written to. (failures to ≡ more_by (failures files) (failures_of written)) × IsPut (beside (inner_of written)) (latest to);
  counts = λ n to. failures to ≡ more_by (failures files) n;
}
