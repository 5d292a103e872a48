-- Lists of the pages that were built, one list for each mutator.
use Rattle.std.specs.Prelude.{ℕ, List}
use Rattle.cell_steps.specs.Lists.{times, total}

-- how often page p occurs in all these lists
abbrev pub named : ℕ → List (List ℕ) → ℕ
named p builds = total (times p) builds
