use Rattle.std.proofs.Common.{◌≡◌, map}
use Rattle.comp_history.specs.Merged.{entries_below, stamp_of}
use Rattle.comp_audit.specs.Checks.{journals_in}
use Rattle.comp_audit.proofs.checks.stamps.gather_stamps.Given as goal

abbrev pub invariant-loop-p : goal.invariant-loop-p
invariant-loop-p l = l.stamps.items ≡ map stamp_of (entries_below (journals_in l.records) l.p)
