-- What the end of all hands leaves.
use Rattle.std.specs.Prelude.{◌≡◌, ◌+◌, List}
use Rattle.heap_layout.specs.Heap.{live}
use Rattle.page_plan.specs.Sliding.{live_words}
use Rattle.cell_steps.specs.Setup.{Setup}
use Rattle.cell_steps.specs.declared.pass.Pass.{Pass}
use Rattle.page_cells.specs.CellEnds.{lists}
use Rattle.page_cells.specs.declared.closing.Closed.{Closed}
use Rattle.comp_cycles.specs.Finishes.{allocated_by, builds_in, edition_in, live_of, pages_of, roots_of}
use Rattle.comp_cycles.specs.Forwarded.{AreForwarded}
use Rattle.comp_cycles.specs.declared.finished.Finished.{Finished}

-- These are the closed pages and what each pass built, with the heap's edition, its forwarded roots, and as many live
-- words as slid and as the passes allocated.
pub record IsLeft (u : Setup) (row : List Pass) (closed : Closed) (f : Finished) : Type 0 where
  pub edition : edition_in f ≡ u.heap.edition
  pub pages : pages_of f ≡ closed.pages
  pub builds : builds_in f ≡ lists closed.builds.items
  pub roots : AreForwarded u.heap (roots_of f)
  pub live : live_of f ≡ live_words (live u.heap) + allocated_by row
