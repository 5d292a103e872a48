-- Reads in the history of a finished heap.
use Rattle.std.specs.Prelude.{ℕ}
use Rattle.page_plan.specs.Kind.{Kind}
use Rattle.page_cells.specs.Lists.{on, StartsWith}
use Rattle.page_cells.specs.Locks.{Journals}
use Rattle.page_cells.specs.Setup.{Setup}
use Rattle.comp_mutator.specs.Reads.{Reads}
use Rattle.comp_mutator.specs.Finishes.{history_of}
use Rattle.comp_mutator.specs.Finished.{Finished}

-- The word is that of the object's field when each page has a beginning of what the one history writes to it.
pub record StandsInHistory (u : Setup) (f : Finished) (kind : Kind) (object field word : ℕ) : Type 0 where
  pub seen : Journals
  pub begins : (p : ℕ) → StartsWith (on p (history_of u f)) (seen p)
  pub reads : Reads u seen kind object field word
