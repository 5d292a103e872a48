-- How the runs of a race are joined, in the terms of the functions that join them.
use Rattle.std.specs.Prelude.{◌≡◌, ◌⊎◌, ℕ, ◌==◌, if◌then◌else◌, nat_lt, List, [], ◌∷◌, Option, None, Some}
use mathlib.Core.Option.{some}
use lib.ListN.{get_elem?}
use Rattle.comp_mutator.specs.Lists.{Each}
use Rattle.comp_trace.specs.Races.{numbered, own_lines}
use Rattle.comp_trace.specs.declared.text.fault.RefusedLine.{RefusedLine}
use Rattle.comp_trace.specs.declared.text.line.Line.{Line}
use Rattle.comp_trace.specs.declared.races.racing.Run.{Run}
use Rattle.comp_trace.specs.declared.steps.shown.Shown.{Shown}
use Rattle.commands.specs.TraceTasks.{HasEnded, IsLeastRefusedLine}

-- the values are of these lines, in their order, at most one of each line
abbrev pub AreOf : List (ℕ × Line) → List Shown → Type 0
AreOf [] values = values ≡ []
AreOf (line ∷ lines) values = AreOf lines values ⊎ ((value : ℕ) × (more : List Shown) × (values ≡ record { line = line.0; value = value } ∷ more) × AreOf lines more)

-- each run showed values of its own lines
abbrev pub AreOwn : List Line → List Run → Type 0
AreOwn lines runs = (k : ℕ) (run : Run) → get_elem? runs k ≡ some run → AreOf (own_lines k (numbered 1 lines)) run.shown.items

-- the refused line with the least number, if any was refused
abbrev pub IsFirstRefusedLine : List Run → Option RefusedLine → Type 0
IsFirstRefusedLine runs None = Each runs HasEnded
IsFirstRefusedLine runs (Some stop) = IsLeastRefusedLine runs stop

-- the first of these values, if it is of line n
abbrev pub printed_at : ℕ → List Shown → Option Shown
printed_at n [] = None
printed_at n (value ∷ values) = if value.line == n then Some value else None

-- of two refused lines the lower one; if there is only one, that one
abbrev pub earlier_of : Option RefusedLine → Option RefusedLine → Option RefusedLine
earlier_of None other = other
earlier_of (Some first) None = Some first
earlier_of (Some first) (Some other) = if nat_lt other.line first.line then Some other else Some first
