use Rattle.std.proofs.Common.{◌≡◌, drop}
use Rattle.std.specs.List.{flat_map, enumerate_from}
use Rattle.comp_audit.specs.Checks.{unless, is_claimed, build_faults}
use Rattle.comp_dump.specs.declared.fault.AuditFault.TheVariants.{BuildUnclaimed}
use Rattle.comp_audit.proofs.checks.claims.check_builds.Given as goal

-- the pages that are left have the faults of all
abbrev pub invariant-loop-p : goal.invariant-loop-p
invariant-loop-p l =
    flat_map (λ slot. unless (is_claimed l.dump.builds slot) (BuildUnclaimed slot.0)) (enumerate_from l.p (drop l.p l.records)) ≡ build_faults l.dump.builds l.records
