use Rattle.commands.specs.HeapTasks.{IsAudited}
use Rattle.commands.specs.Inputs.{RefusesAuditAt, SomeAudit}
use Rattle.commands.specs.Outcome.{Outcome}
use Rattle.commands.proofs.Answered.{of_coming}
use Rattle.commands.proofs.audit.audit_at.Goals as goal

pub returns : goal.returns
returns g c =
    let disk = g.F.Files.disk c.args.files.now in
    let run = c.args.run.now in
    let read = c.in_ok-heap in
    let comes : Outcome → Type 0 = λ outcome. SomeAudit disk run.words run.large run.image.now run.dump.now (λ heap dump. IsAudited run.whole run.explain heap dump outcome) in
    of_coming disk c.args.files.now c.audited_at.new.files comes (RefusesAuditAt disk run.words run.large run.image.now run.dump.now) (IsAudited run.whole run.explain read.heap read.dump) c.audited.result
    (λ outcome h. (read.heap, read.ensures.heap, (read.dump, read.ensures.dump, h))) read.ensures.left c.audited.ensures
