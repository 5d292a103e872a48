use Rattle.file_handle.proofs.judging.verdict.Goals as goal

pub returns-then-whole : goal.returns-then-whole
returns-then-whole c = rw c.if-whole.true c.audit_whole.ensures

pub returns-else-whole : goal.returns-else-whole
returns-else-whole c = rw c.if-whole.false c.audit.ensures
