-- Why the file of an answer was not made.
use Rattle.std.specs.Prelude.{◌≡◌, ℕ, List, Option, Some}
use Rattle.command_io.specs.Disk.{Disk, IsOfMaking}
use Rattle.command_io.specs.declared.refusal.Output.{Output}
use Rattle.command_io.specs.declared.refusal.CommandRefusal.{CommandRefusal}

-- a file was to be made, and it was not kept at the path
abbrev pub IsUnkept : {F W : Type 0} → Disk F W → List ℕ → Option (Output × List ℕ) → F → F → CommandRefusal → Type 0
IsUnkept disk path made from to refusal = (file : Output × List ℕ) × (made ≡ Some file) × IsOfMaking disk file.0 path file.1 from to refusal
