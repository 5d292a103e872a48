use Rattle.std.proofs.Common.{refl, arith}
use Rattle.comp_audit.specs.Checks.{is_led}
use Rattle.comp_audit.specs.Noted.{is_noted_before}
use Rattle.comp_audit.proofs.Earliest.{late_next, late_pages}
use Rattle.comp_audit.proofs.checks.late.earliest.Goals as goal

pub loop-p-init : goal.loop-p-init
loop-p-init c = λ s. refl

pub loop-p-preserved : goal.loop-p-preserved
loop-p-preserved c =
    late_next (is_led c.args.plan.now (is_noted_before c.args.starts.now)) c.args.records.now c.loop-p.p (omega arith)
    c.loop-p.found c.earliest_on-found.result c.journal_of.result.now c.journal_of.ensures c.loop-p.invariant c.earliest_on-found.ensures

pub returns : goal.returns
returns c = late_pages (is_led c.args.plan.now (is_noted_before c.args.starts.now)) c.args.records.now c.loop-p.p c.loop-p.found (omega arith) c.loop-p.invariant
