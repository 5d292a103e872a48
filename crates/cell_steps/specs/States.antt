-- What a state word says of its page: the numbers behind the states.
use Rattle.std.specs.Prelude.{ℕ, Option, None, Some}
use Rattle.cell_steps.specs.Passes.{building_word, held_word}
use Rattle.cell_steps.specs.declared.state.CellState.{CellState}
use Rattle.cell_steps.specs.declared.state.CellState.TheVariants.{Empty, Home, BuiltBy, HeldBy}

-- the state word that says this state
abbrev pub word_of : CellState → ℕ
word_of Empty = 0
word_of Home = 1
word_of (BuiltBy k) = building_word k
word_of (HeldBy k) = held_word k

-- the page is built: it is home, or some pass holds it
abbrev pub IsBuilt : CellState → Type 0
IsBuilt Empty = ⊥
IsBuilt Home = Unit {0}
IsBuilt (BuiltBy k) = ⊥
IsBuilt (HeldBy k) = Unit {0}

-- the number of the pass that builds or holds the page, if there is one
abbrev pub owner : CellState → Option ℕ
owner Empty = None
owner Home = None
owner (BuiltBy k) = Some k
owner (HeldBy k) = Some k
