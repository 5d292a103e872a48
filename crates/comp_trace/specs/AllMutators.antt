-- All mutators of a space.
use Rattle.std.specs.Prelude.{◌≡◌, ℕ, List, length}
use mathlib.Core.Option.{some}
use lib.ListN.{get_elem?}
use Rattle.comp_mutator.specs.Builder.{Ghosts}
use Rattle.comp_mutator.specs.Mutators.{setup_of, AreMutatorsOf}
use Rattle.comp_mutator.specs.Orders.{number_of_mutator}
use Rattle.comp_mutator.specs.declared.mutator.Mutator.{Mutator}
use Rattle.comp_mutator.specs.declared.space.Space.{Space}

-- All mutators of the space, in the order of their numbers.
pub record AreAll {L : Type 0} {B : Type 0} {g : Ghosts B} (space : Space L B g) (mutators : List (Mutator L)) : Type 0 where
  pub of : AreMutatorsOf space mutators
  pub count : length mutators ≡ (setup_of space).mutators
  pub numbers : (k : ℕ) (m : Mutator L) → get_elem? mutators k ≡ some m → number_of_mutator m ≡ k
