use Rattle.std.proofs.Common.{arith}
use Rattle.rest_marks.proofs.Leading.{references-lead, word-reached}
use Rattle.rest_marks.proofs.lookups.find_from.Goals as goal

pub find-requires-clause-lead : goal.find-requires-clause-lead
find-requires-clause-lead c =
    let edition = c.args.edition in
    let words = c.args.words.now in
    let roots = c.args.roots.now in
    let from = c.references-from.result.now in
    word-reached edition words roots from c.loop-k.k (references-lead edition words roots from c.args.i c.requires.reached c.references-from.ensures) (omega arith)
