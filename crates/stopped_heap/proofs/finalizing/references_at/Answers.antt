use Rattle.std.proofs.Common.{◌-◌, ◌^◌}
use Rattle.rest_marks.proofs.Refusing.{bad-reference}
use Rattle.stopped_heap.proofs.finalizing.references_at.Goals as goal

pub returns-in-Err-clause-fault : goal.returns-in-Err-clause-fault
returns-in-Err-clause-fault c = λ roots reached.
    bad-reference c.args.edition c.args.words.now roots c.references-found.result.now (c.args.word - 2 ^ 32) _ reached c.references-found.ensures
    c.in-Err.ensures.inside c.in-Err.ensures.stray
