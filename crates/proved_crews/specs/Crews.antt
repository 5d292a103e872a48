-- What the handles of a client keep, and a heap that lives through two cycles.
use Rattle.std.specs.Prelude.{◌≡◌, ◌≢◌, ℕ, List, [], ◌∷◌, Option, None, Some}
use Rattle.heap_layout.specs.Heap.{Heap}
use Rattle.comp_crew.specs.Benches.{crew_on, IsGiven, IsTaken}
use Rattle.comp_crew.specs.Cycles.{heap_after, IsCycleOf, IsOneLife}
use Rattle.comp_crew.specs.Ends.{cycle_with}
use Rattle.comp_crew.specs.Finished.{Finished}
use Rattle.comp_crew.specs.Finishing.{heap_of}
use Rattle.comp_crew.specs.Members.{crew_of, setup_in}
use Rattle.comp_crew.specs.StableReach.{AreMarkedReachable}
use Rattle.comp_crew.specs.declared.bench.Bench.{Bench}
use Rattle.comp_crew.specs.declared.crew.Crew.{Crew}
use Rattle.comp_crew.specs.declared.finishing.Ended.{Ended as End}
use Rattle.comp_crew.specs.declared.member.Member.{Member}
use Rattle.flip_handle.specs.Joining.{AreMet}
use Rattle.handle_base.specs.HandleKinds.{crew_in, mutator_in}
use Rattle.handle_base.specs.declared.kept.Kept.{Kept}
use Rattle.handle_base.specs.declared.kept.Kept.TheVariants as kept

-- the handle keeps this heap
abbrev pub KeepsHeap : Heap → Option Kept → Type 0
KeepsHeap heap k = k ≡ Some (kept.Heap heap)

-- the handle keeps this crew
abbrev pub KeepsCrew : Crew → Option Kept → Type 0
KeepsCrew crew k = (bench : Bench) × (crew_in k ≡ Some bench) × (crew_on bench ≡ crew)

-- the handle keeps a mutator of this crew
abbrev pub KeepsMutator : Crew → Option Kept → Type 0
KeepsMutator crew k = (m : Member) × (mutator_in k ≡ Some m) × (crew_of m ≡ crew)

-- the handle keeps the end of a cycle of this heap
abbrev pub KeepsEnd : Heap → Option Kept → Type 0
KeepsEnd heap k = (e : End) × (k ≡ Some (kept.Ended e)) × (heap_of e ≡ heap)

-- the handle keeps a crew of this name, of a flip of this heap
abbrev pub KeepsFlip : Heap → ℕ → Option Kept → Type 0
KeepsFlip heap name k = (crew : Crew) × KeepsCrew crew k × (crew.name ≡ name) × ((setup_in crew).heap ≡ heap)

-- this mutator left the crew that is kept, and another handle keeps it
abbrev pub HasTaken : Option Kept → Option Kept → Option Kept → Type 0
HasTaken crew left own =
    (before : Bench) × (after : Bench) × (m : Member) × (crew_in crew ≡ Some before) × (crew_in left ≡ Some after) × (mutator_in own ≡ Some m) × IsTaken before after (Some m)

-- the mutator that was kept went back to the crew, and its handle is empty
abbrev pub HasGiven : Option Kept → Option Kept → Option Kept → Option Kept → Type 0
HasGiven crew own left rest =
    (before : Bench) × (after : Bench) × (m : Member) × (crew_in crew ≡ Some before) × (mutator_in own ≡ Some m) × (crew_in left ≡ Some after) × IsGiven before m after × (rest ≡ None)

-- the two mutators that were kept have met
abbrev pub HaveMet : Option Kept → Option Kept → Option Kept → Option Kept → Type 0
HaveMet first other left rest =
    (m : Member) × (o : Member) × (n : Member) × (p : Member) × (mutator_in first ≡ Some m) × (mutator_in other ≡ Some o) × (mutator_in left ≡ Some n) × (mutator_in rest ≡ Some p) × AreMet m o n p

-- the handles keep a crew, and a mutator of it
abbrev pub AreOfOneCrew : Option Kept → Option Kept → Type 0
AreOfOneCrew k own = (crew : Crew) × KeepsCrew crew k × KeepsMutator crew own

-- the handles keep two mutators of one crew
abbrev pub AreFellows : Option Kept → Option Kept → Type 0
AreFellows k own = (crew : Crew) × KeepsMutator crew k × KeepsMutator crew own

-- the handles keep a crew, and a mutator of a crew of another name
abbrev pub AreMixed : Option Kept → Option Kept → Type 0
AreMixed k own = (crew : Crew) × (other : Crew) × KeepsCrew crew k × KeepsMutator other own × (crew.name ≢ other.name)

-- The next heap follows some cycle of this heap: it has these roots, and exactly the objects are marked that they
-- reach. What mutators wrote in that cycle is left open: any lawful writes will do.
pub record IsFollowed (heap : Heap) (roots : List ℕ) (next : Heap) : Type 0 where
  pub left : Finished
  pub marks : List ℕ
  pub next_is : next ≡ heap_after (cycle_with heap left roots marks)
  pub cycle : IsCycleOf heap (cycle_with heap left roots marks)
  pub reachable : AreMarkedReachable (cycle_with heap left roots marks)

-- the handle keeps a heap that follows this one
abbrev pub KeepsNext : Heap → List ℕ → Option Kept → Type 0
KeepsNext heap roots k = (next : Heap) × KeepsHeap next k × IsFollowed heap roots next

-- Some two cycles lead from the heap to the last one: after each exactly the objects were kept that the roots reached.
-- The two are one life of a heap whose objects never move.
pub record LivesTwice (heap : Heap) (roots last_roots : List ℕ) (last : Heap) : Type 0 where
  pub between : Heap
  pub first : IsFollowed heap roots between
  pub second : IsFollowed between last_roots last
  pub life : IsOneLife heap (cycle_with heap first.left roots first.marks ∷ cycle_with between second.left last_roots second.marks ∷ []) last
