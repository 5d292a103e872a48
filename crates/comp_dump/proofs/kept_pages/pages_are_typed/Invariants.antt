use Rattle.std.proofs.Common.{ℕ, ◌<◌}
use Rattle.cell_steps.specs.Closing.{page_at}
use Rattle.comp_dump.specs.Lent.{record_of, IsTypedRecord}
use Rattle.comp_dump.proofs.kept_pages.pages_are_typed.Given as goal

-- the pages before p fit their types
abbrev pub invariant-loop-p : goal.invariant-loop-p
invariant-loop-p l = (k : ℕ) → k < l.p → IsTypedRecord (record_of (page_at l.pages k))
