use Rattle.comp_audit.proofs.Entries.{stamps_next}
use Rattle.comp_audit.proofs.checks.stamps.gather_stamps.Goals as goal

pub loop-p-preserved : goal.loop-p-preserved
loop-p-preserved c =
    stamps_next c.args.records.now c.loop-p.p c.journal_of.result.now c.loop-p.stamps.items c.add_stamps.new.stamps.items c.journal_of.ensures c.loop-p.invariant
    c.in_ok-add_stamps.ensures
