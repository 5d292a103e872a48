use Rattle.std.proofs.Common.{false, Some, inl}
use Rattle.std.proofs.lemmas.Result.{err_from_is_err_and}
use Rattle.commands.specs.Inputs.{RefusesAuditAt, SomeAudit}
use Rattle.commands.specs.HeapTasks.{IsMapped}
use Rattle.commands.specs.Outcome.{Outcome}
use Rattle.commands.proofs.Answered.{of_coming}
use Rattle.commands.proofs.mapping.map_at.Goals as goal

pub returns-in_err-heap-in-Some : goal.returns-in_err-heap-in-Some
returns-in_err-heap-in-Some g c =
    let p = err_from_is_err_and c.from_residual.result c.from_residual.ensures.1 in
    let asked = c.audit_for.ensures in
    let failed = c.in_err-heap-in-Some.ensures in
    let cause = failed.cause in
    let same = rw (asked.image, asked.large, asked.words, asked.dump) at cause in
    rw (p.1, p.2, c.in-Some.is) (inl (same, failed.left))

pub returns-in_ok-heap-in-Some : goal.returns-in_ok-heap-in-Some
returns-in_ok-heap-in-Some g c =
    let disk = g.F.Files.disk c.args.files.now in
    let path = c.in-Some.path.now in
    let large = c.args.run.now.large in
    let image = c.args.run.now.image.now in
    let read = c.in_ok-heap-in-Some in
    let asked = c.audit_for.ensures in
    let at_heap = read.ensures.heap in
    let at_dump = read.ensures.dump in
    let heap = rw (asked.image, asked.large) at at_heap in
    let dump = rw (asked.large, asked.words, asked.dump) at at_dump in
    let comes : Outcome → Type 0 = λ outcome. SomeAudit disk false large image path (λ heap dump. IsMapped heap (Some dump) outcome) in
    rw c.in-Some.is (of_coming disk c.args.files.now c.audited_at.new.files comes (RefusesAuditAt disk false large image path) (IsMapped read.heap (Some read.dump)) c.drawn.result (λ outcome h. (read.heap, heap, (read.dump, dump, h))) read.ensures.left c.drawn.ensures)
