use Rattle.std.proofs.Common.{sym, subst}
use Rattle.comp_dump.specs.declared.fault.AuditFault.{AuditFault}
use Rattle.comp_audit.specs.Explained.{Explains}
use Rattle.comp_audit.proofs.explaining.explain.Goals as goal

pub returns-in-LooseReference : goal.returns-in-LooseReference
returns-in-LooseReference c =
    subst (λ (f : AuditFault). Explains c.args.plan.now c.args.dump.now f c.explain_loose.result) (sym c.in-LooseReference.is) c.explain_loose.ensures

pub returns-in-BadEntry : goal.returns-in-BadEntry
returns-in-BadEntry c =
    subst (λ (f : AuditFault). Explains c.args.plan.now c.args.dump.now f c.explain_entry.result) (sym c.in-BadEntry.is) c.explain_entry.ensures

pub returns-in-StampRepeated : goal.returns-in-StampRepeated
returns-in-StampRepeated c =
    subst (λ (f : AuditFault). Explains c.args.plan.now c.args.dump.now f c.explain_repeated.result) (sym c.in-StampRepeated.is) (c.explain_repeated.ensures c.args.plan.now)

pub returns-in-StampMissing : goal.returns-in-StampMissing
returns-in-StampMissing c =
    subst (λ (f : AuditFault). Explains c.args.plan.now c.args.dump.now f c.explain_missing.result) (sym c.in-StampMissing.is) (c.explain_missing.ensures c.args.plan.now)

pub returns-in-BuildUnclaimed : goal.returns-in-BuildUnclaimed
returns-in-BuildUnclaimed c =
    subst (λ (f : AuditFault). Explains c.args.plan.now c.args.dump.now f c.explain_claims.result) (sym c.in-BuildUnclaimed.is) (c.explain_claims.ensures c.args.plan.now)
