-- What a task comes to, and how that is delivered.
use Rattle.std.specs.Prelude.{◌≡◌, ◌⊎◌, ℕ, ◌+◌, List, [], Option, None, Some}
use Rattle.std.specs.Io.KnownBytes.{Appends, Keeps}
use Rattle.heap_layout.specs.Writing.{AppendsSome}
use Rattle.command_io.specs.Disk.{Disk, IsOfMaking, WritesWhole}
use Rattle.command_io.specs.declared.refusal.Output.{Output}
use Rattle.command_io.specs.declared.refusal.CommandRefusal.{CommandRefusal}
use Rattle.command_io.specs.declared.refusal.CommandRefusal.TheVariants.{CannotPrint}

-- What a task comes to, before a file is made of it and its lines are printed.
pub record Outcome : Type 0 where
  -- which file is made, and of which bytes, if one is made
  pub made : Option (Output × List ℕ)
  -- the lines that are printed, once that file is kept
  pub text : List ℕ
  -- why the task is refused, once they are printed, if it is
  pub refusal : Option CommandRefusal

-- these lines are printed
abbrev pub prints : List ℕ → Outcome
prints text = record { made = None; text = text; refusal = None }

-- this file is made, and then these lines are printed
abbrev pub makes : Output → List ℕ → List ℕ → Outcome
makes output bytes text = record { made = Some (output, bytes); text = text; refusal = None }

-- no file is made; these lines are printed, and then the task is refused
abbrev pub stops : List ℕ → CommandRefusal → Outcome
stops text refusal = record { made = None; text = text; refusal = Some refusal }

-- what is made was written whole, and kept at the path, and these are the files since; if nothing is made, they are as
-- they were
abbrev pub IsKept : {F W : Type 0} → Disk F W → List ℕ → Option (Output × List ℕ) → F → F → Type 0
IsKept disk path None from to = to ≡ from
IsKept disk path (Some made) from to = WritesWhole disk made.0 path made.1 to

-- The outcome was delivered. The files were `from`, and are `to`; the output held `before`, and holds `after`, if that
-- is known.
pub record IsDelivered {F W : Type 0} (disk : Disk F W) (path : List ℕ) (outcome : Outcome) (from to : F) (before after : Option (List ℕ)) : Type 0 where
  pub unrefused : outcome.refusal ≡ None
  pub kept : IsKept disk path outcome.made from to
  pub printed : Appends before after outcome.text

-- all was delivered, and the outcome is this refusal; no call of the output failed, of which so many had failed before
pub record IsRefusing {F : Type 0} (outcome : Outcome) (from to : F) (old new : ℕ) (before after : Option (List ℕ)) (refusal : CommandRefusal) : Type 0 where
  pub refused : outcome.refusal ≡ Some refusal
  pub files : to ≡ from
  pub calls : new ≡ old
  pub printed : Appends before after outcome.text

-- a call of the output failed: either nothing was begun, since nothing is made, or the whole file is there; and a
-- beginning of the lines was printed
pub record IsUnprinted {F W : Type 0} (disk : Disk F W) (path : List ℕ) (outcome : Outcome) (from to : F) (old new : ℕ) (before after : Option (List ℕ)) (refusal : CommandRefusal) : Type 0 where
  pub refused : refusal ≡ CannotPrint
  pub kept : IsKept disk path outcome.made from to
  pub calls : new ≡ old + 1
  pub begun : AppendsSome before after outcome.text

-- the file that is made was not kept, and nothing was printed
pub record IsUnmade {F W : Type 0} (disk : Disk F W) (path : List ℕ) (outcome : Outcome) (from to : F) (old new : ℕ) (before after : Option (List ℕ)) (refusal : CommandRefusal) : Type 0 where
  pub made : Output × List ℕ
  pub is : outcome.made ≡ Some made
  pub cause : IsOfMaking disk made.0 path made.1 from to refusal
  pub calls : new ≡ old
  pub printed : Keeps before after

-- why an outcome was not delivered: it is a refusal; or a call of the output failed; or its file was not kept
abbrev pub IsUndelivered : {F W : Type 0} → Disk F W → List ℕ → Outcome → F → F → ℕ → ℕ → Option (List ℕ) → Option (List ℕ) → CommandRefusal → Type 0
IsUndelivered disk path outcome from to old new before after refusal =
    IsRefusing outcome from to old new before after refusal
    ⊎ (IsUnprinted disk path outcome from to old new before after refusal ⊎ IsUnmade disk path outcome from to old new before after refusal)
