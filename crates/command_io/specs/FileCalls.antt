-- What calls of files leave of them.
use Rattle.std.specs.Prelude.{◌≡◌, List, ℕ, Result, Ok, Err}
use Rattle.std.proofs.Common.{subst}
use Rattle.command_io.specs.Counting.{more_by}
use Rattle.command_io.specs.Disk.{Disk, LeavesCounted}
use Rattle.command_io.specs.declared.refusal.Output.{Output}
use Rattle.command_io.specs.declared.refusal.CommandRefusal.{CommandRefusal}
use Rattle.command_io.specs.declared.refusal.CommandRefusal.TheVariants.{CannotCreate, OutOfMemory}

-- why this file could not be created: there is no place for it, as `bars` says, or memory ran out
abbrev pub IsOfCreating : Output → Type 0 → CommandRefusal → Type 0
IsOfCreating output bars (CannotCreate named) = (named ≡ output) × bars
IsOfCreating output bars OutOfMemory = Unit {0}
IsOfCreating output bars _ = ⊥

-- what opening or reading a file left of the files: they are as they were, but for a failed call that a refusal names
abbrev pub LeavesRead : {T F W : Type 0} → Disk F W → F → F → Result T CommandRefusal → Type 0
LeavesRead disk from to (Ok _) = to ≡ from
LeavesRead disk from to (Err refusal) = LeavesCounted disk from to refusal

-- what creating a file left of the files: it was begun, or a call failed, or memory ran out before there was a file
abbrev pub AfterCreating : {F W : Type 0} → Disk F W → F → Result W CommandRefusal → Type 0
AfterCreating disk to (Err (CannotCreate _)) = disk.counts 1 to
AfterCreating disk to _ = disk.begins to

-- what is counted once a file was begun is counted in the files as they were: beginning one counts no call
pub counted_once_begun : {F : Type 0} (failures : F → ℕ) (from between to : F) (n : ℕ) → failures between ≡ failures from → failures to ≡ more_by (failures between) n → failures to ≡ more_by (failures from) n
counted_once_begun failures from between to n same counted = subst (λ (m : ℕ). failures to ≡ more_by m n) same counted
