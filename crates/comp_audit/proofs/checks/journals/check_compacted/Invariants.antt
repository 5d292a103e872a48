use Rattle.std.proofs.Common.{◌≡◌, [], take, drop}
use Rattle.comp_audit.specs.Checks.{entry_faults}
use Rattle.comp_audit.specs.Noted.{setup_at}
use Rattle.comp_audit.proofs.checks.journals.check_compacted.Given as goal

-- the entries that are left have the faults of all
abbrev pub invariant-loop-k : goal.invariant-loop-k
invariant-loop-k l =
    let u = setup_at l.fn.setting in
    entry_faults u l.p l.k l.low (take l.k l.journal) (drop l.k l.journal) ≡ entry_faults u l.p 0 0 [] l.journal
