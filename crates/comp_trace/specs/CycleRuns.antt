-- Cycles over which traces are run, one after the other, by one thread.
use Rattle.std.specs.Prelude.{◌≡◌, ℕ, List, [], ◌∷◌, length, Option, None}
use Rattle.heap_layout.specs.Heap.{Heap}
use Rattle.comp_cycles.specs.Cycles.{Cycle, entries_of, given_left, heap_after, numbers_left, story, AreApart, Follow, IsCycleOf, IsOneLife, IsRising, IsWriting}
use Rattle.comp_cycles.specs.Ends.{cycle_of, IsEndOf}
use Rattle.comp_cycles.specs.Stable.{lived}
use Rattle.comp_cycles.specs.NumberedHeaps.{first_numbers, first_numbered}
use Rattle.comp_cycles.specs.declared.finished.Finished.{Finished}
use Rattle.comp_trace.specs.declared.steps.shown.Shown.{Shown}
use Rattle.comp_trace.specs.Traces.{mutators_of, roots_of}
use Rattle.comp_trace.specs.declared.text.line.Line.{Line}
use Rattle.comp_trace.specs.declared.text.roots.NewRoot.{NewRoot}
use Rattle.comp_trace.specs.declared.text.trace.Trace.{Trace}
use Rattle.comp_trace.specs.Bytes.{flipped, no_entries}
use Rattle.comp_trace.specs.Heaps.{AreRegisters, IsHaltOf}
use Rattle.comp_trace.specs.Runs.{beginning, Moment, Runs}
use Rattle.comp_trace.specs.Markings.{IsMarkedBy, IsMarkedCycle}
use Rattle.comp_trace.specs.RootsNamed.{words_named}
use Rattle.comp_trace.specs.declared.replays.running.Halt.{Halt}
use Rattle.comp_trace.specs.declared.replays.running.Halt.TheVariants.{Unplanned}

-- the trace was parsed for these numbers of mutators and roots
abbrev pub IsParsedFor : ℕ → ℕ → Trace → Type 0
IsParsedFor mutators roots trace = (mutators_of trace ≡ mutators) × (roots_of trace ≡ roots)

-- The heap was flipped for these numbers of mutators and fresh pages, and one thread ran these lines, which showed
-- these values. The entries that the lines added are the cycle's history.
pub record IsRun (mutators fresh : ℕ) (lines : List Line) (shown : List Shown) (heap : Heap) (c : Cycle) : Type 0 where
  pub end : Moment
  pub runs : Runs (flipped heap mutators fresh) no_entries 1 lines beginning end
  pub shown_is : shown ≡ end.shown
  pub setup_is : c.setup ≡ flipped heap mutators fresh
  pub entries_are : entries_of c ≡ end.added

-- the last of several runs, which left this heap
pub record IsLastRun (mutators fresh : ℕ) (lines : List Line) (shown : List Shown) (heap : Heap) (f : Finished) : Type 0 where
  pub run : IsRun mutators fresh lines shown heap (cycle_of heap f [])
  pub end : IsEndOf heap f

-- at its end the registers of the mutators hold these words
pub record IsLastRunWith (mutators fresh : ℕ) (lines : List Line) (shown : List Shown) (heap : Heap) (f : Finished) (registers : List (List ℕ)) : Type 0 where
  pub last : IsLastRun mutators fresh lines shown heap f
  pub registers_are : AreRegisters mutators registers last.run.end

-- why a cycle does not come to its end: memory ran out for its plan, or the run over its heap was halted
abbrev pub IsCycleHaltOf : ℕ → ℕ → List Line → Heap → Halt → Type 0
IsCycleHaltOf mutators fresh lines heap Unplanned = Unit {0}
IsCycleHaltOf mutators fresh lines heap halt = IsHaltOf mutators fresh lines heap halt

-- One of several cycles: these lines were run over the heap and showed these values, and then the next heap was marked
-- by the marks that were given for it, or by what its roots reach. If roots were named, it has those that they name
-- when the run ends; else the roots stay.
pub record IsPart (mutators fresh : ℕ) (lines : List Line) (shown : List Shown) (given : Option (List ℕ)) (named : Option (List NewRoot)) (heap : Heap) (c : Cycle) : Type 0 where
  pub run : IsRun mutators fresh lines shown heap c
  pub cycle : IsCycleOf heap c
  pub marked : IsMarkedBy given c
  pub roots_are : c.new_roots ≡ words_named run.end.registers named

-- a further cycle: the marks that were given for its heap, or none if that was marked by what its roots reach; and its
-- lines
abbrev pub Further : Type 0
Further = Option (List ℕ) × List Line

-- the cycles that are over, and a last one, which left this heap; `rest` has the further cycles. The roots stay.
abbrev pub AreRuns : ℕ → ℕ → Heap → List Line → List Further → List (List Shown) → List Cycle → Finished → Type 0
AreRuns mutators fresh heap lines [] (s ∷ []) [] f = IsLastRun mutators fresh lines s heap f
AreRuns mutators fresh heap lines (r ∷ rest) (s ∷ shown) (c ∷ cs) f = IsPart mutators fresh lines s r.0 None heap c × AreRuns mutators fresh (heap_after c) r.1 rest shown cs f
AreRuns mutators fresh heap lines _ _ _ f = ⊥

-- the heap of the last cycle
abbrev pub last_heap : Heap → List Cycle → Heap
last_heap heap [] = heap
last_heap heap (c ∷ cs) = last_heap (heap_after c) cs

-- this heap follows what is left of a cycle, so marked
pub record IsMarkedNext (given : Option (List ℕ)) (heap : Heap) (f : Finished) (next : Heap) : Type 0 where
  pub ended : IsMarkedCycle given heap (cycle_of heap f next.marks)
  pub next_is : next ≡ heap_after (cycle_of heap f next.marks)

-- The traces were run over these cycles, and all cycles but the last are one life of a heap whose objects never move.
pub record CyclesRan (mutators fresh : ℕ) (heap : Heap) (lines : List Line) (rest : List Further) (shown : List (List Shown)) (f : Finished) : Type 0 where
  pub cycles : List Cycle
  pub runs : AreRuns mutators fresh heap lines rest shown cycles f
  pub follow : Follow heap cycles (last_heap heap cycles)
  pub life : IsOneLife heap cycles (last_heap heap cycles)
  -- what was written in the last cycle is written in that life too, if no object's number is an immediate
  pub last : AreApart heap.edition (given_left cycles (length heap.marks))
      → IsWriting (cycle_of (last_heap heap cycles) f []) (numbers_left cycles (first_numbers heap) (length heap.marks)) (lived (first_numbered heap) (story cycles (first_numbers heap) (length heap.marks)))
  -- the forwarding of the last cycle keeps the order of addresses
  pub rising : IsRising (last_heap heap cycles)
