use Rattle.comp_audit.proofs.Told.{offset_inside}
use Rattle.comp_audit.proofs.explaining.entries.cause_at.Goals as goal

pub cause_of-requires-clause-inside : goal.cause_of-requires-clause-inside
cause_of-requires-clause-inside c =
    let dump = c.args.dump.now in
    offset_inside dump.edition dump.mutators dump.pages c.args.p c.args.number c.args.entry c.dump_is_stored.ensures.pages c.requires
