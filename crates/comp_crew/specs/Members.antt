-- The mutators of a crew, and what they share.
use Rattle.std.specs.Prelude.{◌≡◌, ℕ}
use Rattle.cell_steps.specs.Setup.{Setup}
use Rattle.cell_steps.specs.Passes.{number_of}
use Rattle.cell_steps.specs.declared.pass.Pass.{Pass}
use Rattle.cell_steps.specs.declared.steps.Steps.{Steps}
use Rattle.page_cells.specs.CellViews as cells
use Rattle.heap_layout.specs.declared.edition.Edition.{Edition}
use Rattle.comp_access.specs.Hands as hands
use Rattle.comp_crew.specs.declared.crew.Crew.{Crew}
use Rattle.comp_crew.specs.declared.member.Member.{Member}

-- the member's pass: what it has seen, did and built
abbrev pub pass_of : Member → Pass
pass_of m = hands.pass_of m.hand

-- the number of words that the member allocated
abbrev pub made_of : Member → ℕ
made_of m = hands.made_of m.hand

-- what the member shares with the others of its crew
abbrev pub crew_of : Member → Crew
crew_of m = m.crew.value

-- the member's number
abbrev pub number_of_member : Member → ℕ
number_of_member m = number_of (pass_of m)

-- the name of its crew
abbrev pub name_of : Member → ℕ
name_of m = m.crew.value.name

-- the steps of a crew's table
abbrev pub steps_of : Crew → Steps
steps_of crew = cells.steps_of crew.cells

-- the setup of a crew: the heap, and the numbers of compacted pages, fresh pages and mutators
abbrev pub setup_in : Crew → Setup
setup_in crew = cells.setup_of crew.cells

-- the setup of the member's crew
abbrev pub setup_of : Member → Setup
setup_of m = cells.setup_of m.crew.value.cells

-- the number of mutators or the number of fresh pages is outside the limits of this edition
abbrev pub AreBadCounts : Edition → ℕ → ℕ → Type 0
AreBadCounts edition mutators fresh = hands.AreBadCounts edition mutators fresh

-- the member was made with its crew
abbrev pub IsMember : Member → Type 0
IsMember m = hands.IsHandOf m.crew.value.cells m.hand

-- if the names of their crews are equal, they are of one crew
abbrev pub AreToldApart : Member → Member → Type 0
AreToldApart m other = name_of m ≡ name_of other → crew_of m ≡ crew_of other
