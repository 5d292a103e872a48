-- The runs of free words, by the tables.
use Rattle.std.specs.Prelude.{ℕ, zero, suc, ◌==◌, Bool, cond, List, [], ◌∷◌, ◌++◌}
use Rattle.pinned_heap.specs.Tables.{end_below}
use Rattle.pinned_heap.specs.declared.run.Run.{Run}

-- the run of free words that ends at index i, if one does
abbrev pub run_to : (ℕ → Bool) → (ℕ → Bool) → ℕ → List Run
run_to live staying i = cond (end_below live staying i == i) [] (record { start = end_below live staying i; end = i } ∷ [])

-- the runs that end below index i: one right before each word that stays, unless it has no words
abbrev pub runs_below : (ℕ → Bool) → (ℕ → Bool) → ℕ → List Run
runs_below live staying zero = []
runs_below live staying (suc i) = runs_below live staying i ++ cond (staying i) (run_to live staying i) []
