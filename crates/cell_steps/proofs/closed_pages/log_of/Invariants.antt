use Rattle.std.proofs.Common.{◌≡◌, take}
use Rattle.cell_steps.proofs.closed_pages.log_of.Given as goal

-- the log has the base, and the entries so far
abbrev pub invariant-loop-entry : goal.invariant-loop-entry
invariant-loop-entry l = l.log.page ≡ record { base = l.fn.base; journal = take l.entry-index l.journal }
