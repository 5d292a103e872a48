use Rattle.comp_audit.proofs.Had.{explained_is_there}
use Rattle.comp_audit.proofs.explaining.entries.explain_entry.Goals as goal

pub returns-in-Some-cause_at : goal.returns-in-Some-cause_at
returns-in-Some-cause_at c =
    let explained = c.bad_entry.ensures in
    (explained_is_there c.args.plan.now c.args.dump.now c.args.p c.args.number c.bad_entry.result explained, explained)
