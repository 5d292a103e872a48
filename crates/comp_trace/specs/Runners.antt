-- Runners before and after they run their lines.
use Rattle.std.specs.Prelude.{◌≡◌, ℕ, ◌≤◌, List, [], length, None, Vec, vec_capacity}
use mathlib.Core.Option.{some}
use lib.ListN.{get_elem?}
use Rattle.comp_mutator.specs.Builder.{Ghosts}
use Rattle.comp_mutator.specs.Mutators.{pass_of, setup_of, IsMutatorOf}
use Rattle.comp_mutator.specs.Orders.{number_of_mutator}
use Rattle.comp_mutator.specs.declared.mutator.Mutator.{Mutator}
use Rattle.comp_mutator.specs.declared.space.Space.{Space}
use Rattle.comp_trace.specs.Acting.{null_registers}
use Rattle.comp_trace.specs.AllMutators.{AreAll}
use Rattle.comp_trace.specs.Races.{numbered, own_lines, Ran}
use Rattle.comp_trace.specs.declared.text.line.Line.{Line}
use Rattle.comp_trace.specs.declared.races.racing.Run.{Run}
use Rattle.comp_trace.specs.declared.races.runner.Runner.{Runner}
use Rattle.comp_trace.specs.declared.steps.shown.Shown.{Shown}

-- the mutator's own lines, with their numbers
abbrev pub lines_for : {L : Type 0} → List Line → Mutator L → List (ℕ × Line)
lines_for lines m = own_lines (number_of_mutator m) (numbered 1 lines)

-- A runner that has run nothing, with room for what its lines may show.
pub record IsReady {L : Type 0} {B : Type 0} {g : Ghosts B} (space : Space L B g) (lines : List Line) (runner : Runner L) : Type 0 where
  pub of : IsMutatorOf space runner.mutator
  pub registers : runner.registers ≡ null_registers
  pub shown : runner.shown.items ≡ []
  pub fault : runner.fault ≡ None
  pub room : length (lines_for lines runner.mutator) ≤ vec_capacity runner.shown

-- A runner that ran its lines.
pub record RanItsLines {L : Type 0} {B : Type 0} {g : Ghosts B} (space : Space L B g) (lines : List Line) (before after : Runner L) : Type 0 where
  pub of : IsMutatorOf space after.mutator
  pub ran : Ran (setup_of space) (lines_for lines before.mutator) (pass_of before.mutator) (pass_of after.mutator) after.shown.items after.fault

-- Each mutator ran its own lines of the trace, and they have not met yet.
pub record HaveRun {L : Type 0} {B : Type 0} {g : Ghosts B} (space : Space L B g) (lines : List Line) (before after : List (Mutator L)) (runs : List Run) : Type 0 where
  pub all : AreAll space after
  pub count : length runs ≡ length before
  pub ran : (k : ℕ) (old new : Mutator L) (run : Run) → get_elem? before k ≡ some old → get_elem? after k ≡ some new → get_elem? runs k ≡ some run
      → Ran (setup_of space) (own_lines k (numbered 1 lines)) (pass_of old) (pass_of new) run.shown.items run.fault

-- Room for what each mutator's lines may show.
pub record HaveRooms {L : Type 0} {A : Type 0} (lines : List Line) (mutators : List (Mutator L)) (rooms : List (Vec Shown A)) : Type 0 where
  pub count : length rooms ≡ length mutators
  pub each : (k : ℕ) (m : Mutator L) (room : Vec Shown A) → get_elem? mutators k ≡ some m → get_elem? rooms k ≡ some room
      → (room.items ≡ []) × (length (lines_for lines m) ≤ vec_capacity room)

-- the elements of a list of shown values, and its capacity
abbrev pub room_in : {A : Type 0} → Vec Shown A → List Shown × ℕ
room_in shown = (shown.items, vec_capacity shown)

abbrev pub room_of : {L : Type 0} → Runner L → List Shown × ℕ
room_of runner = room_in runner.shown

-- the runner's mutator
abbrev pub mutator_of : {L : Type 0} → Runner L → Mutator L
mutator_of runner = runner.mutator

-- what a race answers about the runner's lines
abbrev pub run_of : {L : Type 0} → Runner L → Run
run_of runner = record { shown = runner.shown; fault = runner.fault }

-- a runner that has run nothing
abbrev pub IsBlank : {L : Type 0} → Runner L → Type 0
IsBlank runner = (runner.registers ≡ null_registers) × (runner.fault ≡ None)
