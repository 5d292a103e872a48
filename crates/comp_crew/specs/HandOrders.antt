-- Hands by their numbers.
use Rattle.std.specs.Prelude.{ℕ, List}
use Rattle.heap_layout.specs.Numbered as numbered
use Rattle.cell_steps.specs.Passes.{number_of}
use Rattle.comp_access.specs.Hands.{pass_of}
use Rattle.comp_access.specs.declared.hand.Hand.{Hand}

-- the number of the mutator whose hand it is
abbrev pub number_of_hand : Hand → ℕ
number_of_hand hand = number_of (pass_of hand)

-- there is a hand of each number below the count
abbrev pub HasAll : ℕ → List Hand → Type 0
HasAll count hands = numbered.HasAll number_of_hand count hands

-- k is the least number below the count that no hand of the list has
abbrev pub IsLeastMissing : ℕ → List Hand → ℕ → Type 0
IsLeastMissing count hands k = numbered.IsLeastMissing number_of_hand count hands k

-- The row has the hands of the numbers below n, in the order of their numbers.
abbrev pub IsInOrder : ℕ → List Hand → List Hand → Type 0
IsInOrder n hands row = numbered.IsInOrder number_of_hand n hands row
