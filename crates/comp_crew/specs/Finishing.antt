-- The end of a crew.
use Rattle.std.specs.Prelude.{◌≡◌, ℕ, ◌≤◌, List, [], map}
use Rattle.heap_layout.specs.Heap.{Heap}
use Rattle.cell_steps.specs.Setup.{Setup}
use Rattle.comp_cycles.specs.Finishes.{journals_of, IsFinished, IsOfFlip}
use Rattle.comp_cycles.specs.declared.finished.Finished.{Finished}
use Rattle.comp_cycles.specs.Ends.{IsEndOf}
use Rattle.comp_cycles.specs.Ends as ends
use Rattle.comp_cycles.specs.NextHeap.{next_heap}
use Rattle.comp_access.specs.Hands.{pass_of}
use Rattle.comp_access.specs.declared.hand.Hand.{Hand}
use Rattle.comp_crew.specs.Benches.{hands_on, setup_on}
use Rattle.comp_crew.specs.HandOrders.{HasAll, IsInOrder, IsLeastMissing}
use Rattle.comp_crew.specs.declared.bench.Bench.{Bench}
use Rattle.comp_crew.specs.declared.fault.FinishFault.{FinishFault}
use Rattle.comp_crew.specs.declared.fault.FinishFault.TheVariants.{OutOfMemory, MutatorMissing, StillShared}
use Rattle.comp_crew.specs.declared.finishing.Ended.{Ended}

-- the finished heap, and the heap that was compacted
abbrev pub finished_of : Ended → Finished
finished_of e = e.finished

abbrev pub heap_of : Ended → Heap
heap_of e = e.plan.value

-- the setup of the cycle that ended: the heap that was compacted, and the numbers of its compacted pages, of its fresh
-- pages and of its mutators
abbrev pub setup_at_end : Ended → Setup
setup_at_end e = ends.setup_in e.plan.value e.finished

-- the finished heap is the end of a cycle that compacted the heap of the plan, with as many mutators as a crew may have
pub record IsEnded (e : Ended) : Type 0 where
  pub end : IsEndOf e.plan.value e.finished
  pub some_mutators : 1 ≤ (setup_at_end e).mutators
  pub few_mutators : (setup_at_end e).mutators ≤ 64

-- The hands of the crew, in the order of their numbers, left this.
pub record IsEndBy (bench : Bench) (e : Ended) : Type 0 where
  pub row : List Hand
  pub ordered : IsInOrder (setup_on bench).mutators (hands_on bench) row
  pub finished : IsFinished (setup_on bench) (map pass_of row) e.finished
  pub plan_is : e.plan.value ≡ (setup_on bench).heap

-- the finished heap is the end of the flip that made the crew
abbrev pub IsOfItsFlip : Bench → Ended → Type 0
IsOfItsFlip bench e = IsOfFlip (setup_on bench).mutators (setup_on bench).fresh e.finished

-- no mutator of the crew is missing
abbrev pub IsWhole : Bench → Type 0
IsWhole bench = HasAll (setup_on bench).mutators (hands_on bench)

-- Why a crew is not finished: a mutator is missing, with the least number of such a one; or none is missing.
abbrev pub IsUnfinishedFor : Bench → FinishFault → Type 0
IsUnfinishedFor bench (MutatorMissing k) = IsLeastMissing (setup_on bench).mutators (hands_on bench) k
IsUnfinishedFor bench OutOfMemory = IsWhole bench
IsUnfinishedFor bench StillShared = IsWhole bench

-- the words of all pages as those of the next heap, which depend on no root or mark
abbrev pub rest_words : Ended → List ℕ
rest_words e = (next_heap (setup_at_end e) (journals_of e.finished) [] []).words
