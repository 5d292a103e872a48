-- All mutators of a space, after they met one another.
use Rattle.std.specs.Prelude.{◌≡◌, ℕ, ◌≤◌, List, [], length}
use mathlib.Core.Option.{some}
use lib.ListN.{get_elem?}
use Rattle.comp_mutator.specs.Setup.{Setup}
use Rattle.comp_mutator.specs.Lawful.{IsLawful}
use Rattle.comp_mutator.specs.Lists.{by, on, Rises}
use Rattle.comp_mutator.specs.Locks.{Journals}
use Rattle.comp_mutator.specs.Passes.{builds_of, did, seen}
use Rattle.comp_mutator.specs.Pass.{Pass}
use Rattle.comp_mutator.specs.Calls.{Grows}
use Rattle.comp_mutator.specs.Mutators.{pass_of}
use Rattle.comp_mutator.specs.declared.mutator.Mutator.{Mutator}

-- The passes of a row, in the order of their numbers, have seen one journal of each page, the same for all of them. It
-- has exactly what they did on that page.
pub record HaveAllMet (u : Setup) (row : List Pass) : Type 0 where
  pub journals : Journals
  -- the entries of each number are those that the pass of this number did there, in its order
  pub own : (k : ℕ) (pass : Pass) → get_elem? row k ≡ some pass → (p : ℕ) → by k (journals p) ≡ on p (did pass)
  -- there are no other entries
  pub strangers : (k p : ℕ) → length row ≤ k → by k (journals p) ≡ []
  pub rises : (p : ℕ) → (high : ℕ) × Rises 0 (journals p) high
  pub lawful : (p : ℕ) → IsLawful u p (journals p)
  -- each of them has seen all of it, and no more
  pub seen : (k : ℕ) (pass : Pass) → get_elem? row k ≡ some pass → (p : ℕ) → seen pass p ≡ journals p

-- The pass met others: it forgot nothing, and wrote and built nothing.
pub record OnlyMet (old new : Pass) : Type 0 where
  pub grows : Grows old new
  pub did : did new ≡ did old
  pub builds : builds_of new ≡ builds_of old

-- These are the same mutators, after they met.
pub record HaveOnlyMet {L : Type 0} (old new : List (Mutator L)) : Type 0 where
  pub count : length new ≡ length old
  pub each : (k : ℕ) (before after : Mutator L) → get_elem? old k ≡ some before → get_elem? new k ≡ some after → OnlyMet (pass_of before) (pass_of after)
