-- A heap over which one thread runs a trace, from its flip to its end.
use Rattle.std.specs.Prelude.{◌≡◌, ℕ, List, length, map}
use Rattle.std.specs.List.{range_with_len}
use Rattle.heap_layout.specs.Heap.{Heap, IsClosed}
use Rattle.comp_mutator.specs.Pass.{Pass}
use Rattle.comp_mutator.specs.Finishes.{builds_in, history_of, IsFinished}
use Rattle.comp_mutator.specs.Finished.{Finished}
use Rattle.comp_trace.specs.LineBuilds.{built_by}
use Rattle.comp_trace.specs.declared.steps.shown.Shown.{Shown}
use Rattle.comp_trace.specs.declared.text.line.Line.{Line}
use Rattle.comp_trace.specs.Bytes.{flipped, no_entries, CutsShort, RunsThrough}
use Rattle.comp_trace.specs.Replays.{Hold}
use Rattle.comp_trace.specs.Runs.{beginning, Moment, Runs}
use Rattle.comp_trace.specs.declared.replays.running.Halt.{Halt}
use Rattle.comp_trace.specs.declared.replays.running.Halt.TheVariants.{Cut, Unflipped, Unfinished, Unplanned}

-- The heap was flipped for these numbers of mutators and fresh pages, one thread ran these lines, which showed these
-- values, and this is the heap at the end.
pub record HasRunOver (mutators fresh : ℕ) (lines : List Line) (shown : List Shown) (heap : Heap) (f : Finished) : Type 0 where
  pub end : Moment
  pub runs : Runs (flipped heap mutators fresh) no_entries 1 lines beginning end
  pub shown_is : shown ≡ end.shown
  -- what is known of the end, for a pass of each mutator
  pub row : List Pass
  pub crew : length row ≡ mutators
  pub finished : IsFinished (flipped heap mutators fresh) row f
  -- its history is what the run added, and each mutator built what the run says, in order
  pub history : history_of (flipped heap mutators fresh) f ≡ end.added
  pub builds : builds_in f ≡ map (λ (k : ℕ). built_by k end.built) (range_with_len 0 mutators)
  -- the heap was accepted
  pub closed : IsClosed heap

-- there are registers of n mutators, and at a moment they hold these words
pub record AreRegisters (n : ℕ) (items : List (List ℕ)) (now : Moment) : Type 0 where
  pub count : length items ≡ n
  pub hold : Hold n items now.registers

-- at the end of that run the registers hold these words
pub record HasRunWith (mutators fresh : ℕ) (lines : List Line) (shown : List Shown) (heap : Heap) (f : Finished) (registers : List (List ℕ)) : Type 0 where
  pub run : HasRunOver mutators fresh lines shown heap f
  pub registers_are : AreRegisters mutators registers run.end

-- why the run over a heap that is planned does not come to its end: it was cut short, or memory ran out for the flip,
-- or for the finish after all lines were run
abbrev pub IsHaltOf : ℕ → ℕ → List Line → Heap → Halt → Type 0
IsHaltOf mutators fresh lines heap (Cut stopped) = CutsShort (flipped heap mutators fresh) lines stopped.shown.items stopped.fault
IsHaltOf mutators fresh lines heap Unplanned = ⊥
IsHaltOf mutators fresh lines heap Unflipped = Unit {0}
IsHaltOf mutators fresh lines heap (Unfinished shown) = RunsThrough (flipped heap mutators fresh) lines shown.items
