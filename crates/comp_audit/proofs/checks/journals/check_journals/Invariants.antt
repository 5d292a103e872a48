use Rattle.std.proofs.Common.{◌≡◌, drop}
use Rattle.std.specs.List.{flat_map, enumerate_from}
use Rattle.comp_audit.specs.Checks.{of_built, each_built, journal_faults}
use Rattle.comp_audit.specs.Noted.{setup_at}
use Rattle.comp_audit.proofs.checks.journals.check_journals.Given as goal

-- the pages that are left have the faults of all
abbrev pub invariant-loop-p : goal.invariant-loop-p
invariant-loop-p l =
    let faults = journal_faults (setup_at l.setting) in
    flat_map (of_built faults) (enumerate_from l.p (drop l.p l.setting.dump.now.pages)) ≡ each_built faults l.setting.dump.now.pages
