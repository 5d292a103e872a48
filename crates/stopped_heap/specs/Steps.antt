-- A survey that grows by some lists of roots, one after the other, in words that stay the same.
use Rattle.std.specs.Prelude.{◌≡◌, ℕ, List, [], ◌∷◌, ◌++◌}
use Rattle.heap_layout.specs.declared.edition.Edition.{Edition}
use Rattle.rest_marks.specs.Growing.{roots_on}
use Rattle.stopped_heap.specs.Growth.{HasGrown}
use Rattle.rest_marks.specs.Places.{Found}
use Rattle.rest_marks.specs.Reached.{AreReached}

-- a step: the roots that were handed in, and the objects that were kept after it
pub record Step : Type 0 where
  pub roots : List ℕ
  pub kept : List ℕ

-- Each step kept what is reached from what was kept before it and from its roots. Before the first one the objects at
-- `kept` were.
abbrev pub AreSteps : Edition → List ℕ → List ℕ → List Step → Type 0
AreSteps edition words kept [] = Unit {0}
AreSteps edition words kept (step ∷ steps) = AreReached edition words (roots_on kept step.roots) step.kept × AreSteps edition words step.kept steps

-- the roots of all steps, in their order
abbrev pub roots_of_all : List Step → List ℕ
roots_of_all [] = []
roots_of_all (step ∷ steps) = step.roots ++ roots_of_all steps

-- the objects that are kept after the last step
abbrev pub kept_at_last : List ℕ → List Step → List ℕ
kept_at_last kept [] = kept
kept_at_last kept (step ∷ steps) = kept_at_last step.kept steps

-- ---- of a survey that keeps no words

-- a step: the roots that were handed in, and what was found after it
pub record GrowthStep : Type 0 where
  pub roots : List ℕ
  pub found : Found

-- each step grew in these words from what was found before it
abbrev pub AreGrowthSteps : List ℕ → Found → List GrowthStep → Type 0
AreGrowthSteps words found [] = Unit {0}
AreGrowthSteps words found (step ∷ steps) = HasGrown found words step.roots step.found × AreGrowthSteps words step.found steps

-- the roots of all steps, in their order
abbrev pub growth_roots : List GrowthStep → List ℕ
growth_roots [] = []
growth_roots (step ∷ steps) = step.roots ++ growth_roots steps

-- what is found after the last step
abbrev pub found_at_last : Found → List GrowthStep → Found
found_at_last found [] = found
found_at_last found (step ∷ steps) = found_at_last step.found steps

-- In these words the same was found, by two surveys: the objects that are kept, and the words that are live.
pub record AreFoundAlike (one other : Found) : Type 0 where
  pub marks : one.marks ≡ other.marks
  pub indices : one.indices ≡ other.indices
