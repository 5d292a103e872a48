-- What it means that each mutator runs its own lines.
use Rattle.std.specs.Prelude.{◌≡◌, ℕ, ◌+◌, ◌≤◌, ◌==◌, cond, List, [], ◌∷◌, ◌++◌, length, map, take, Option, None, Some}
use mathlib.Core.Option.{some}
use lib.ListN.{get_elem?}
use Rattle.comp_mutator.specs.Builder.{Ghosts}
use Rattle.comp_mutator.specs.Setup.{Setup}
use Rattle.comp_mutator.specs.Passes.{did}
use Rattle.comp_mutator.specs.Pass.{Pass}
use Rattle.comp_mutator.specs.Calls.{Grows}
use Rattle.comp_mutator.specs.Mutators.{pass_of, setup_of}
use Rattle.comp_mutator.specs.declared.mutator.Mutator.{Mutator}
use Rattle.comp_mutator.specs.Refusal.TheVariants.{Busy}
use Rattle.comp_mutator.specs.declared.space.Space.{Space}
use Rattle.comp_trace.specs.Acting.{null_registers, registers_after, shown_at, Refuses, Steps}
use Rattle.comp_trace.specs.declared.text.fault.RefusedLine.{RefusedLine}
use Rattle.comp_trace.specs.declared.text.line.Line.{Line}
use Rattle.comp_trace.specs.declared.races.racing.Run.{Run}
use Rattle.comp_trace.specs.declared.steps.shown.Shown.{Shown}
use Rattle.comp_trace.specs.AllMet.{HaveAllMet, OnlyMet}
use Rattle.comp_trace.specs.AllMutators.{AreAll}

-- the lines with their numbers; the first line has number n
abbrev pub numbered : ℕ → List Line → List (ℕ × Line)
numbered n [] = []
numbered n (line ∷ lines) = (n, line) ∷ numbered (n + 1) lines

-- the lines of mutator k among these
abbrev pub own_lines : ℕ → List (ℕ × Line) → List (ℕ × Line)
own_lines k [] = []
own_lines k (line ∷ lines) = cond (line.1.mutator == k) (line ∷ own_lines k lines) (own_lines k lines)

-- The lines ran, one after the other, over these registers. With each line, what the mutator has seen grew. Each line
-- built at most the page that it touched, and the mutator has then seen that page built.
abbrev pub Went : Setup → List (ℕ × Line) → List ℕ → Pass → List Shown → List ℕ → Pass → Type 0
Went u [] registers old shown after new = (after ≡ registers) × (new ≡ old) × (shown ≡ [])
Went u (line ∷ lines) registers old shown after new =
    (middle : Pass) × (answer : ℕ) × (rest : List Shown) × Steps u line.1.action registers old middle answer × (shown ≡ shown_at line.0 line.1.action answer ++ rest)
    × Went u lines (registers_after line.1.action registers answer) middle rest after new

-- The line after the first `count` was refused. The mutator, which ran the lines before it, wrote nothing in it, and
-- forgot nothing.
pub record Stops (u : Setup) (lines : List (ℕ × Line)) (count : ℕ) (registers : List ℕ) (old new : Pass) (stop : RefusedLine) : Type 0 where
  pub line : ℕ × Line
  pub there : get_elem? lines count ≡ some line
  pub number : stop.line ≡ line.0
  pub grows : Grows old new
  pub did : did new ≡ did old
  pub refuses : Refuses u line.1.action registers old new stop.refusal
  -- a busy page is waited for
  pub waited : (p : ℕ) → stop.refusal ≡ Busy p → ⊥

-- there are no lines after the first `count`, or the next line was refused
abbrev pub Ends : Setup → List (ℕ × Line) → ℕ → List ℕ → Pass → Pass → Option RefusedLine → Type 0
Ends u lines count registers old new None = (length lines ≤ count) × (new ≡ old)
Ends u lines count registers old new (Some stop) = Stops u lines count registers old new stop

-- A mutator ran its lines in order, from null registers: all of them, or those before its refused line.
pub record Ran (u : Setup) (lines : List (ℕ × Line)) (old new : Pass) (shown : List Shown) (fault : Option RefusedLine) : Type 0 where
  pub count : ℕ
  pub registers : List ℕ
  pub last : Pass
  pub went : Went u (take count lines) null_registers old shown registers last
  pub ends : Ends u lines count registers last new fault

-- A mutator ran its lines. Then it met the other mutators.
pub record RanAndMet (u : Setup) (lines : List (ℕ × Line)) (old new : Pass) (shown : List Shown) (fault : Option RefusedLine) : Type 0 where
  pub last : Pass
  pub ran : Ran u lines old last shown fault
  pub met : OnlyMet last new

-- Each mutator ran its own lines of the trace. Then all of them met, and are handed back in the order of their numbers.
-- So what each of them saw of a page while it ran is a beginning of one journal, the same for all, which has exactly
-- what they did there.
pub record HaveRaced {L : Type 0} {B : Type 0} {g : Ghosts B} (space : Space L B g) (lines : List Line) (before after : List (Mutator L)) (runs : List Run) : Type 0 where
  pub all : AreAll space after
  pub met : HaveAllMet (setup_of space) (map pass_of after)
  pub count : length runs ≡ length before
  pub ran : (k : ℕ) (old new : Mutator L) (run : Run) → get_elem? before k ≡ some old → get_elem? after k ≡ some new → get_elem? runs k ≡ some run
      → RanAndMet (setup_of space) (own_lines k (numbered 1 lines)) (pass_of old) (pass_of new) run.shown.items run.fault
