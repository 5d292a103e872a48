-- What the commands that run a trace come to: `replay`, `race`, `next`.
use Rattle.std.specs.Prelude.{◌≡◌, ◌⊎◌, ℕ, ◌+◌, ◌≤◌, List, [], ◌∷◌, ◌++◌, length, map, codes, Option, Some, None}
use mathlib.Core.Option.{some}
use lib.ListN.{get_elem?}
use Rattle.std.specs.Fmt.{decimal}
use Rattle.std.specs.List.{flat_map}
use Rattle.heap_layout.specs.Encoding.{encoding}
use Rattle.heap_layout.specs.Faults.{IsAccepted}
use Rattle.heap_layout.specs.Heap.{live, Heap, IsStored}
use Rattle.heap_layout.specs.declared.fault.LayoutFault.{LayoutFault}
use Rattle.page_plan.specs.Sliding.{live_words}
use Rattle.comp_mutator.specs.CellViews.{AreNew, Works}
use Rattle.comp_mutator.specs.Cycles.{Cycle, heap_after, IsChapter}
use Rattle.comp_mutator.specs.Ends.{setup_in}
use Rattle.comp_mutator.specs.Finishes.{builds_in, edition_in, journals_of, live_of, pages_of, roots_of, IsFinished}
use Rattle.comp_mutator.specs.Finished.{Finished}
use Rattle.comp_mutator.specs.Lists.{Each}
use Rattle.comp_mutator.specs.NumberedHeaps.{IsNumberedAs}
use Rattle.comp_mutator.specs.Pass.{Pass}
use Rattle.comp_mutator.specs.Passes.{about, number_of}
use Rattle.comp_mutator.specs.Refusal.{Refusal}
use Rattle.comp_mutator.specs.Refusal.TheVariants as refusals
use Rattle.comp_mutator.specs.Setup.{Setup}
use Rattle.comp_mutator.specs.Stable.{StableHeap}
use Rattle.comp_mutator.specs.Steps.{Steps}
use Rattle.reachable_cycles.specs.NextRoots.{IsRefusedWith}
use Rattle.comp_trace.specs.AllMet.{HaveAllMet}
use Rattle.comp_trace.specs.Bytes.{flipped, CutsShort}
use Rattle.comp_trace.specs.CycleRuns.{IsLastRun, IsPart}
use Rattle.comp_trace.specs.Heaps.{HasRunOver}
use Rattle.comp_trace.specs.Markings.{IsUnmarkable, KeepsReached}
use Rattle.comp_trace.specs.Races.{numbered, own_lines, RanAndMet}
use Rattle.comp_trace.specs.RootsNamed.{words_named}
use Rattle.comp_trace.specs.declared.races.racing.Run.{Run}
use Rattle.comp_trace.specs.declared.steps.shown.Shown.{Shown}
use Rattle.comp_trace.specs.declared.text.fault.RefusedLine.{RefusedLine}
use Rattle.comp_trace.specs.declared.text.fault.TraceFault.{TraceFault}
use Rattle.comp_trace.specs.declared.text.fault.TraceFault.TheVariants as faults
use Rattle.comp_trace.specs.declared.text.line.Line.{Line}
use Rattle.comp_dump.specs.Dumped.{Dumped}
use Rattle.comp_dump.specs.DumpEncoding.{dump_bytes}
use Rattle.comp_dump.specs.Lent.{record_of}
use Rattle.command_io.specs.Printing.{named}
use Rattle.command_io.specs.declared.refusal.Output.TheVariants as outputs
use Rattle.command_io.specs.declared.refusal.CommandRefusal.TheVariants.{Layout, Mutator, OutOfMemory, Trace}
use Rattle.commands.specs.Inputs.{Given}
use Rattle.commands.specs.Outcome.{Outcome, makes, stops}

-- the dump of a finished heap that was flipped with these numbers of mutators and fresh pages
abbrev pub dumped_of : ℕ → ℕ → Finished → Dumped
dumped_of mutators fresh f = record {
  edition = edition_in f;
  mutators = mutators;
  fresh = fresh;
  roots = roots_of f;
  pages = map record_of (pages_of f);
  builds = builds_in f;
  total = live_of f;
}

-- a shown value as it is printed: the number of its line, and the value
abbrev pub shown_line : Shown → List ℕ
shown_line shown = decimal shown.line ++ named (codes " ") shown.value

abbrev pub shown_lines : List Shown → List ℕ
shown_lines shown = flat_map shown_line shown

-- these values, and then the live words
abbrev pub run_lines : List Shown → ℕ → List ℕ
run_lines shown total = shown_lines shown ++ named (codes "live ") total

-- the dump of a finished heap is made, and these values and its live words are printed
abbrev pub dumps : ℕ → ℕ → List Shown → Finished → Outcome
dumps mutators fresh shown f = makes outputs.Dump (dump_bytes (dumped_of mutators fresh f)) (run_lines shown (live_of f))

-- The lines were not run to their end, or the heap was not finished: what was shown until then is printed, and the
-- command is refused. The lines were cut short, as `cuts` says, or memory ran out.
abbrev pub IsHaltedRun : (List Line → List Shown → TraceFault → Type 0) → List Line → Outcome → Type 0
IsHaltedRun cuts lines outcome =
    ((fault : TraceFault) × (shown : List Shown) × cuts lines shown fault × (outcome ≡ stops (shown_lines shown) (Trace fault)))
    ⊎ ((outcome ≡ stops [] (Mutator refusals.OutOfMemory)) ⊎ (outcome ≡ stops [] OutOfMemory))

-- One thread ran the lines over the heap: the dump of the finished heap is made, and the values that they showed and
-- the live words are printed. Or the lines were halted.
abbrev pub IsReplayed : ℕ → ℕ → List Line → Heap → Outcome → Type 0
IsReplayed mutators fresh lines heap outcome =
    ((shown : List Shown) × (f : Finished) × HasRunOver mutators fresh lines shown heap f × (outcome ≡ dumps mutators fresh shown f))
    ⊎ IsHaltedRun (CutsShort (flipped heap mutators fresh)) lines outcome

-- ---- several runs together

-- the value is one of these
abbrev pub IsAmong : List Shown → Shown → Type 0
IsAmong values value = (j : ℕ) × (get_elem? values j ≡ some value)

-- one of the runs showed the value
abbrev pub IsOfRuns : List Run → Shown → Type 0
IsOfRuns runs value = (k : ℕ) × (run : Run) × (get_elem? runs k ≡ some run) × IsAmong run.shown.items value

-- the lines of these values rise, from line n on
abbrev pub LinesRise : ℕ → List Shown → Type 0
LinesRise n [] = Unit {0}
LinesRise n (value ∷ values) = (n ≤ value.line) × LinesRise (value.line + 1) values

-- what all runs showed together, in the order of the lines
pub record AreByLine (runs : List Run) (values : List Shown) : Type 0 where
  pub rise : LinesRise 1 values
  pub shown : (value : Shown) → IsAmong values value → IsOfRuns runs value
  pub all : (value : Shown) → IsOfRuns runs value → IsAmong values value

-- one of the runs stopped at this refused line, and none at a lower one
pub record IsLeastRefusedLine (runs : List Run) (stop : RefusedLine) : Type 0 where
  pub reported : (k : ℕ) × (run : Run) × (get_elem? runs k ≡ some run) × (run.fault ≡ Some stop)
  pub least : (k : ℕ) (run : Run) (other : RefusedLine) → get_elem? runs k ≡ some run → run.fault ≡ Some other → stop.line ≤ other.line

-- the run came to its end
abbrev pub HasEnded : Run → Type 0
HasEnded run = run.fault ≡ None

-- ---- a race

-- Each mutator of a flipped heap, new before, ran its own lines: all of them, or those before its refused one. Then
-- they met. Their table is about this heap. `row` has what each mutator had seen and done at the end, and `runs` what
-- its lines showed, and its refused line, if any.
pub record RanTheirLines (u : Setup) (lines : List Line) (row : List Pass) (runs : List Run) : Type 0 where
  pub table : Steps
  pub about : about table ≡ u
  pub before : List Pass
  pub new : AreNew table u.mutators before
  -- at the end these are all mutators, in the order of their numbers
  pub crew : length row ≡ u.mutators
  pub numbers : (k : ℕ) (now : Pass) → get_elem? row k ≡ some now → number_of now ≡ k
  pub works : (k : ℕ) (now : Pass) → get_elem? row k ≡ some now → Works table u.mutators now
  -- they have seen one journal of each page, the same for all of them, of exactly what they did; so what each saw while
  -- it ran is a beginning of it
  pub met : HaveAllMet u row
  pub count : length runs ≡ u.mutators
  pub ran : (k : ℕ) (old now : Pass) (run : Run) → get_elem? before k ≡ some old → get_elem? row k ≡ some now → get_elem? runs k ≡ some run
      → RanAndMet u (own_lines k (numbered 1 lines)) old now run.shown.items run.fault

-- The heap was flipped for these numbers of mutators and fresh pages; each mutator ran all its own lines; together
-- they showed these values; and the heap was finished with what they had done.
pub record IsRacedHeap (mutators fresh : ℕ) (lines : List Line) (shown : List Shown) (f : Finished) (heap : Heap) : Type 0 where
  pub row : List Pass
  pub runs : List Run
  pub ran : RanTheirLines (flipped heap mutators fresh) lines row runs
  pub ended : Each runs HasEnded
  pub in_order : AreByLine runs shown
  -- the heap at the end: each page is what its journal makes of its base, the journals have all that the mutators did,
  -- and all entries have one history
  pub finished : IsFinished (flipped heap mutators fresh) row f

-- Each mutator ran its own lines to the end, or to its refused one. This refused line is the least of all, and the
-- values are those that each mutator showed until its end.
pub record IsStoppedRace (mutators fresh : ℕ) (lines : List Line) (shown : List Shown) (heap : Heap) (number : ℕ) (refusal : Refusal) : Type 0 where
  pub row : List Pass
  pub runs : List Run
  pub ran : RanTheirLines (flipped heap mutators fresh) lines row runs
  pub first : IsLeastRefusedLine runs (record { line = number; refusal = refusal })
  pub in_order : AreByLine runs shown

-- why not all lines ran: one was refused, or memory ran out before the first
abbrev pub InterruptsRace : ℕ → ℕ → Heap → List Line → List Shown → TraceFault → Type 0
InterruptsRace mutators fresh heap lines shown (faults.Refused number refusal) = IsStoppedRace mutators fresh lines shown heap number refusal
InterruptsRace mutators fresh heap lines shown faults.OutOfMemory = shown ≡ []
InterruptsRace mutators fresh heap lines shown _ = ⊥

-- Each mutator ran its own lines over the heap: the dump of the finished heap is made, and the values that they showed,
-- in the order of the lines, and the live words are printed. Or the lines were halted.
abbrev pub IsRaced : ℕ → ℕ → List Line → Heap → Outcome → Type 0
IsRaced mutators fresh lines heap outcome =
    ((shown : List Shown) × (f : Finished) × IsRacedHeap mutators fresh lines shown f heap × (outcome ≡ dumps mutators fresh shown f))
    ⊎ IsHaltedRun (InterruptsRace mutators fresh heap) lines outcome

-- ---- the next heap

-- if a heap whose objects never move stands for this heap, the cycle is a chapter of its life
abbrev pub IsChapterOf : Heap → Cycle → Type 0
IsChapterOf heap c = (numbers : List ℕ) (stable : StableHeap) → IsNumberedAs heap numbers stable → IsChapter c numbers stable

-- why the next heap is refused: if its roots stay, for its marks or its size; else for its size or for a root
abbrev pub IsRefusedBy : Heap → Finished → Option (List ℕ) → Option (List ℕ) → LayoutFault → Type 0
IsRefusedBy heap f given None fault = IsUnmarkable given heap f fault
IsRefusedBy heap f given (Some roots) fault = IsRefusedWith (setup_in heap f) (journals_of f) roots fault

-- One thread ran these lines over the heap, and they showed these values; this heap followed the cycle, with the marks
-- that are given, or with those of exactly the objects that its roots reach; and with the roots that are given, if they
-- do not stay. It is a heap that an image can have, and it is accepted, so its image is read as this heap.
pub record IsCycledHeap (mutators fresh : ℕ) (lines : List Line) (shown : List Shown) (given : Given) (heap next : Heap) : Type 0 where
  pub cycle : Cycle
  pub part : IsPart mutators fresh lines shown given.marks given.roots heap cycle
  pub chapter : IsChapterOf heap cycle
  -- without given marks the cycle keeps exactly the objects that the roots reach when it ends
  pub keeps : KeepsReached given.marks heap cycle
  pub next_is : next ≡ heap_after cycle
  pub stored : IsStored next
  pub accepted : IsAccepted next

-- One thread ran these lines over the heap; with what is given no heap follows what is left, for this fault.
pub record IsNotFollowed (mutators fresh : ℕ) (lines : List Line) (given : Given) (heap : Heap) (fault : LayoutFault) : Type 0 where
  pub shown : List Shown
  pub left : Finished
  pub run : IsLastRun mutators fresh lines shown heap left
  pub refused : IsRefusedBy heap left given.marks (words_named run.run.end.registers given.roots) fault

-- One thread ran the lines over the heap: the image of the heap that follows is made, and the values that they showed
-- and its live words are printed. Or no heap follows; or the lines were halted.
abbrev pub IsFollowed : ℕ → ℕ → List Line → Given → Heap → Outcome → Type 0
IsFollowed mutators fresh lines given heap outcome =
    ((shown : List Shown) × (next : Heap) × IsCycledHeap mutators fresh lines shown given heap next × (outcome ≡ makes outputs.New (encoding next) (run_lines shown (live_words (live next)))))
    ⊎ (((fault : LayoutFault) × IsNotFollowed mutators fresh lines given heap fault × (outcome ≡ stops [] (Layout fault)))
    ⊎ IsHaltedRun (CutsShort (flipped heap mutators fresh)) lines outcome)
