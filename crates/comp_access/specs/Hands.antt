-- Hands, and the cells that they were made with.
use Rattle.std.specs.Prelude.{ℕ, ◌<◌, ◌⊎◌}
use Rattle.heap_layout.specs.declared.edition.Edition.{Edition}
use Rattle.heap_layout.specs.Limits.{most_fresh_pages}
use Rattle.page_plan.specs.declared.builder.Builder.{Ghosts}
use Rattle.cell_steps.specs.declared.pass.Pass.{Pass}
use Rattle.page_cells.specs.CellViews.{IsPassOf}
use Rattle.page_cells.specs.declared.cells.Cells.{Cells}
use Rattle.comp_access.specs.declared.hand.Hand.{Hand}

-- the hand's pass: what it has seen, did and built
abbrev pub pass_of : Hand → Pass
pass_of hand = hand.pass

-- the number of words of all objects that the hand allocated
abbrev pub made_of : Hand → ℕ
made_of hand = hand.made

-- the hand was made with these cells
abbrev pub IsHandOf : {B : Type 0} {g : Ghosts B} → Cells B g → Hand → Type 0
IsHandOf cells hand = IsPassOf cells (pass_of hand)

-- the number of mutators or the number of fresh pages is outside the limits
abbrev pub AreBadCounts : Edition → ℕ → ℕ → Type 0
AreBadCounts edition mutators fresh = (mutators < 1) ⊎ ((64 < mutators) ⊎ (most_fresh_pages edition < fresh))
