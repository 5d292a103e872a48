use Rattle.std.proofs.Common.{ℕ, List, ◌++◌}
use Rattle.comp_dump.specs.declared.fault.AuditFault.{AuditFault}
use Rattle.comp_audit.specs.Checks.{is_led}
use Rattle.comp_audit.specs.Noted.{is_noted_before, IsEarliest}
use Rattle.comp_audit.proofs.Earliest.{front_late}
use Rattle.comp_audit.proofs.checks.late.earliest_on.Given as goal

-- the earliest of the one that was found and of the entries so far
abbrev pub invariant-loop-k : goal.invariant-loop-k
invariant-loop-k l =
    let test = is_led l.plan (is_noted_before l.starts) in
    (faults : ℕ → List AuditFault) → IsEarliest faults l.fn.found → IsEarliest (λ s. faults s ++ front_late test l.p l.journal l.k s) l.found
