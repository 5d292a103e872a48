-- A crew at rest, and the mutators that go and come.
use Rattle.std.specs.Prelude.{◌≡◌, ◌≢◌, ℕ, ◌≤◌, ◌⊎◌, ◌++◌, ◌∷◌, [], List, length, map, Option, None, Some, All}
use Rattle.heap_layout.specs.Heap.{Heap, live}
use Rattle.page_plan.specs.Sliding as sliding
use Rattle.cell_steps.specs.Setup.{Setup}
use Rattle.page_cells.specs.CellViews as cells
use Rattle.comp_access.specs.Hands as hands
use Rattle.comp_access.specs.declared.hand.Hand.{Hand}
use Rattle.comp_crew.specs.Members.{crew_of, name_of, setup_in, steps_of, IsMember}
use Rattle.comp_crew.specs.declared.bench.Bench.{Bench}
use Rattle.comp_crew.specs.declared.crew.Crew.{Crew}
use Rattle.comp_crew.specs.declared.member.Member.{Member}

-- what the mutators of the crew have in common
abbrev pub crew_on : Bench → Crew
crew_on bench = bench.crew.value

-- the hands of the mutators that nobody has taken, in the order in which they came
abbrev pub hands_on : Bench → List Hand
hands_on bench = bench.hands.items

-- the name of the crew
abbrev pub name_on : Bench → ℕ
name_on bench = bench.crew.value.name

-- the setup of the crew: the heap, and the numbers of compacted pages, fresh pages and mutators
abbrev pub setup_on : Bench → Setup
setup_on bench = setup_in bench.crew.value

-- what the member works with
abbrev pub hand_of : Member → Hand
hand_of m = m.hand

-- each hand was made with the cells of the crew
abbrev pub IsBench : Bench → Type 0
IsBench bench = All (λ (hand : Hand). hands.IsHandOf bench.crew.value.cells hand) (hands_on bench)

-- if their names are equal, the member is of this crew
abbrev pub IsToldApart : Member → Bench → Type 0
IsToldApart m bench = name_of m ≡ name_on bench → crew_of m ≡ crew_on bench

-- the hand that came last leaves, as a member of the crew; or there is none
abbrev pub IsTaken : Bench → Bench → Option Member → Type 0
IsTaken before after None = (after ≡ before) × (hands_on before ≡ [])
IsTaken before after (Some m) =
    IsMember m × (crew_of m ≡ crew_on before) × (crew_on after ≡ crew_on before) × (hands_on before ≡ hands_on after ++ hand_of m ∷ [])

-- the member is of this crew, and its hand is the last one then
abbrev pub IsGiven : Bench → Member → Bench → Type 0
IsGiven before m after =
    (crew_of m ≡ crew_on before) × (crew_on after ≡ crew_on before) × (hands_on after ≡ hands_on before ++ hand_of m ∷ [])

-- the member's crew has another name; or no mutator of this crew is out
abbrev pub IsStranger : Bench → Member → Type 0
IsStranger bench m = (name_of m ≢ name_on bench) ⊎ ((setup_on bench).mutators ≤ length (hands_on bench))

-- This is a new crew of this name, over this heap, with all its mutators: none of them has done anything.
pub record IsFlipped (heap : Heap) (name n fresh : ℕ) (bench : Bench) : Type 0 where
  pub name_is : name_on bench ≡ name
  pub heap_is : (setup_on bench).heap ≡ heap
  pub compacted_are : (setup_on bench).compacted ≡ sliding.pages (live heap)
  pub fresh_are : (setup_on bench).fresh ≡ fresh
  pub mutators_are : (setup_on bench).mutators ≡ n
  pub each : IsBench bench
  pub new : cells.AreNew (steps_of (crew_on bench)) n (map hands.pass_of (hands_on bench))
