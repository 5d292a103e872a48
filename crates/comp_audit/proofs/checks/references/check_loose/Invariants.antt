use Rattle.std.proofs.Common.{◌≡◌, ◌||◌, not, drop, None}
use Rattle.std.specs.Prelude.{slice_index_or}
use Rattle.std.specs.List.{flat_map, enumerate_from}
use Rattle.heap_layout.specs.Values.{leads_nowhere}
use Rattle.comp_history.specs.Setup.{address}
use Rattle.comp_audit.specs.Checks.{unless, some_refers, loose_faults}
use Rattle.comp_audit.specs.Noted.{leads}
use Rattle.comp_dump.specs.declared.fault.AuditFault.TheVariants.{LooseReference}
use Rattle.comp_audit.proofs.checks.references.check_loose.Given as goal

-- the words that are left have the faults of all
abbrev pub invariant-loop-offset : goal.invariant-loop-offset
invariant-loop-offset l =
    flat_map
    (λ word. unless (not (some_refers (slice_index_or l.kinds word.0 None)) || leads_nowhere l.plan.edition word.1 || leads l.plan l.starts word.1) (LooseReference (address l.p word.0)))
    (enumerate_from l.offset (drop l.offset l.words))
    ≡ loose_faults l.plan.edition (λ offset. some_refers (slice_index_or l.kinds offset None)) (leads l.plan l.starts) l.p l.words
