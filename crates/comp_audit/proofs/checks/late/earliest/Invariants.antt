use Rattle.comp_audit.specs.Checks.{is_led}
use Rattle.comp_audit.specs.Noted.{is_noted_before, IsEarliest}
use Rattle.comp_audit.proofs.Earliest.{pages_late}
use Rattle.comp_audit.proofs.checks.late.earliest.Given as goal

-- the earliest of the pages so far
abbrev pub invariant-loop-p : goal.invariant-loop-p
invariant-loop-p l = IsEarliest (pages_late (is_led l.plan (is_noted_before l.starts)) l.records l.p) l.found
