use Rattle.comp_audit.proofs.Missing.{BuiltBelow}
use Rattle.comp_audit.proofs.auditing.missing_page.Given as goal

-- the pages before the loop's index were built
abbrev pub invariant-loop-p : goal.invariant-loop-p
invariant-loop-p l = BuiltBelow l.records l.p
