-- The lanes of a marking over words that others may change: nothing is said of the objects in them.
use Rattle.std.specs.Prelude.{ℕ, List}
use Rattle.atomic_table.specs.Table.{Me, State, Step}
use Rattle.mark_job.specs.Lanes.{HoldsOf, takes_of}

-- any objects
abbrev pub AreAny : List ℕ → Type 0
AreAny lane = Unit {0}

-- the rule: a lane whose word is 0 is at home
abbrev pub HoldsAny : Unit {0} → State (List ℕ) (Unit {0}) → Type 0
HoldsAny about = HoldsOf AreAny

-- what every helper knows
abbrev pub knows_none : Unit {0} → Unit {0}
knows_none about = tt

-- a helper that finds 0 takes the lane
abbrev pub takes_any : Step (List ℕ) → Me (List ℕ) (Unit {0}) → ℕ → Me (List ℕ) (Unit {0}) → Type 0
takes_any = takes_of (λ (view : Unit {0}). AreAny)
