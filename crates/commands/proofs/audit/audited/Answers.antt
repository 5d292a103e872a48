use Rattle.std.proofs.Common.{subst}
use Rattle.heap_layout.specs.Heap.{Heap}
use Rattle.comp_audit.specs.Judged.{Judges}
use Rattle.comp_audit.specs.declared.verdict.Verdict.TheVariants.{No, Yes}
use Rattle.commands.specs.HeapTasks.{faults_by}
use Rattle.commands.proofs.ComparedAudits.{failed, passed}
use Rattle.commands.proofs.audit.audited.Goals as goal

pub returns-in-Yes : goal.returns-in-Yes
returns-in-Yes g c =
    let dump = c.args.dump.now in
    let judged = subst (λ (heap : Heap). Judges (faults_by c.args.whole heap dump) Yes) c.in_ok-plan.ensures (subst (Judges (faults_by c.args.whole c.in_ok-plan.plan dump)) c.in-Yes.is c.in_ok-verdict_by.ensures) in
    (passed c.args.whole c.args.heap dump c.args.explain c.if-explain.false judged c.live_words.result c.live_words.ensures.total, tt)

pub returns : goal.returns
returns g c =
    let dump = c.args.dump.now in
    let judged = subst (λ (heap : Heap). Judges (faults_by c.args.whole heap dump) (No c.in-No.fault)) c.in_ok-plan.ensures (subst (Judges (faults_by c.args.whole c.in_ok-plan.plan dump)) c.in-No.is c.in_ok-verdict_by.ensures) in
    failed c.args.whole c.args.heap dump c.args.explain c.if-explain.false c.in-No.fault judged
