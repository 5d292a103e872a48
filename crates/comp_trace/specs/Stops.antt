-- Why cycles are not run to their end.
use Rattle.std.specs.Prelude.{◌≡◌, ℕ, zero, suc, ◌+◌, ◌<◌, List, [], ◌∷◌, ◌++◌, length, map, take, slice_index_or, ◌⊎◌, Option, Some, None, Vec}
use Rattle.heap_layout.specs.Heap.{Heap}
use Rattle.heap_layout.specs.declared.fault.LayoutFault.{LayoutFault}
use Rattle.comp_cycles.specs.declared.finished.Finished.{Finished}
use Rattle.comp_trace.specs.declared.steps.shown.Shown.{Shown}
use Rattle.comp_trace.specs.Traces.{lines_of}
use Rattle.comp_trace.specs.declared.text.line.Line.{Line}
use Rattle.comp_trace.specs.declared.text.trace.Trace.{Trace}
use Rattle.comp_cycles.specs.Cycles.{heap_after}
use Rattle.comp_cycles.specs.Ends.{cycle_of}
use Rattle.comp_cycles.specs.Setup.{Setup}
use Rattle.comp_trace.specs.Bytes.{flipped, CutsShort, RunsThrough}
use Rattle.comp_trace.specs.CycleRuns.{last_heap, CyclesRan, Further}
use Rattle.comp_trace.specs.Markings.{marks_given, IsMarkedCycle, IsUnmarkable}
use Rattle.comp_trace.specs.declared.cycles.marking.Marking.{Marking}
use Rattle.comp_trace.specs.declared.cycles.fault.CycleFault.{CycleFault}
use Rattle.comp_trace.specs.declared.cycles.fault.CycleFault.TheVariants.{NotMarked, Stopped, OutOfMemory}
use Rattle.comp_trace.specs.declared.replays.running.Halt.{Halt}
use Rattle.comp_trace.specs.declared.replays.running.Halt.TheVariants.{Cut, Unflipped, Unfinished, Unplanned}

-- the elements of these lists
abbrev pub values_of : {A : Type 0} → List (Vec Shown A) → List (List Shown)
values_of {A} lists = map (λ (list : Vec Shown A). list.items) lists

-- a further cycle, by what says how its heap is marked, and a trace
abbrev pub further_by : {M : Type 0} → (M → Option (List ℕ)) → M × Trace → Further
further_by given x = (given x.0, lines_of x.1)

-- a further cycle, by marks that are given, and a trace
abbrev pub marks_and_lines : {A : Type 0} → Vec ℕ A × Trace → Further
marks_and_lines x = (Some x.0.items, lines_of x.1)

-- a further cycle, by a marking, and a trace
abbrev pub marking_and_lines : Marking × Trace → Further
marking_and_lines x = (marks_given x.0, lines_of x.1)

-- a further cycle without lines
abbrev pub none_further : Further
none_further = (None, [])

-- no heap follows cycle c: the cycles up to it were run, and this is why the next heap is refused
pub record IsNotMarked (mutators fresh : ℕ) (heap : Heap) (lines : List Line) (rest : List Further) (shown : List (List Shown)) (c : ℕ) (fault : LayoutFault) : Type 0 where
  pub further : c < length rest
  pub left : Finished
  pub ran : CyclesRan mutators fresh heap lines (take c rest) shown left
  pub refused : IsUnmarkable (slice_index_or rest c none_further).0 (last_heap heap ran.cycles) left fault

-- how far the lines of a cycle were run, and what they showed
abbrev pub Extent : Type 1
Extent = Setup → List Line → List Shown → Type 0

-- cycle c + 1 was begun, but has no end: the cycles before it were run, and its lines so far were run over its heap and
-- showed the last values
pub record IsStopped (mutators fresh : ℕ) (heap : Heap) (lines : List Line) (rest : List Further) (shown : List (List Shown)) (c : ℕ) (runs : Extent) : Type 0 where
  pub further : c < length rest
  pub left : Finished
  pub values : List (List Shown)
  pub last : List Shown
  pub shown_is : shown ≡ values ++ last ∷ []
  pub ran : CyclesRan mutators fresh heap lines (take c rest) values left
  pub marks : List ℕ
  pub ended : IsMarkedCycle (slice_index_or rest c none_further).0 (last_heap heap ran.cycles) (cycle_of (last_heap heap ran.cycles) left marks)
  pub lines_run : runs (flipped (heap_after (cycle_of (last_heap heap ran.cycles) left marks)) mutators fresh) (slice_index_or rest c none_further).1 last

-- cycle c was begun, but has no end
abbrev pub StopsAt : ℕ → ℕ → Heap → List Line → List Further → List (List Shown) → ℕ → Extent → Type 0
StopsAt mutators fresh heap lines rest shown zero runs = (last : List Shown) × (shown ≡ last ∷ []) × runs (flipped heap mutators fresh) lines last
StopsAt mutators fresh heap lines rest shown (suc c) runs = IsStopped mutators fresh heap lines rest shown c runs

-- these are the marks with which the next heap followed what is left of a cycle
abbrev pub SomeMarks : Option (List ℕ) → Heap → Finished → Type 0
SomeMarks given heap f = (marks : List ℕ) × IsMarkedCycle given heap (cycle_of heap f marks)

-- Memory ran out after the first cycle and `ended` further ones had ended: to copy the marks that are handed in after
-- the last of these cycles, or for the next cycle, after its heap was marked.
pub record IsCutOff (mutators fresh : ℕ) (heap : Heap) (lines : List Line) (rest : List Further) (shown : List (List Shown)) (c : ℕ) : Type 0 where
  pub ended : ℕ
  pub further : ended < length rest
  pub left : Finished
  pub ran : CyclesRan mutators fresh heap lines (take ended rest) shown left
  pub next : (c ≡ ended) ⊎ ((c ≡ ended + 1) × SomeMarks (slice_index_or rest ended none_further).0 (last_heap heap ran.cycles) left)

-- memory ran out for the first cycle, which showed nothing; or after some further cycles had ended; or to finish cycle
-- c, after all its lines had run
abbrev pub IsShort : ℕ → ℕ → Heap → List Line → List Further → List (List Shown) → ℕ → Type 0
IsShort mutators fresh heap lines rest shown c = ((c ≡ 0) × (shown ≡ [])) ⊎ IsCutOff mutators fresh heap lines rest shown c ⊎ StopsAt mutators fresh heap lines rest shown c RunsThrough

-- why the cycles are not run to their end, if these values were shown
abbrev pub StopsCycles : ℕ → ℕ → Heap → List Line → List Further → List (List Shown) → CycleFault → Type 0
StopsCycles mutators fresh heap lines rest shown (NotMarked c fault) = IsNotMarked mutators fresh heap lines rest shown c fault
StopsCycles mutators fresh heap lines rest shown (Stopped c fault) = StopsAt mutators fresh heap lines rest shown c (λ u ran values. CutsShort u ran values fault)
StopsCycles mutators fresh heap lines rest shown (OutOfMemory c) = IsShort mutators fresh heap lines rest shown c

-- ---- within a replay

-- the values that a halted cycle had shown, if it was flipped
abbrev pub shown_by : Halt → List (List Shown)
shown_by Unplanned = []
shown_by Unflipped = []
shown_by (Cut stopped) = stopped.shown.items ∷ []
shown_by (Unfinished shown) = shown.items ∷ []

-- the fault of cycle c that was halted: its lines were stopped, or memory ran out
abbrev pub fault_of : ℕ → Halt → CycleFault
fault_of c (Cut stopped) = Stopped c stopped.fault
fault_of c _ = OutOfMemory c

-- why no heap follows what is left of cycle c: it is refused, or memory ran out to copy its marks
abbrev pub IsNoNext : Option (List ℕ) → Heap → Finished → ℕ → CycleFault → Type 0
IsNoNext given heap f c (NotMarked n fault) = (n ≡ c) × IsUnmarkable given heap f fault
IsNoNext given heap f c (Stopped n fault) = ⊥
IsNoNext given heap f c (OutOfMemory n) = n ≡ c
