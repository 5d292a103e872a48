use Rattle.rest_marks.proofs.Leading.{references-lead, words-reached}
use Rattle.rest_marks.proofs.rounds.follow_large.Goals as goal

pub led_by_threads-requires-clause-lead : goal.led_by_threads-requires-clause-lead
led_by_threads-requires-clause-lead g c = λ lives outlives.
    let from = c.references-from.result.now in
    words-reached c.args.edition c.args.words.now c.args.roots.now from
    (references-lead c.args.edition c.args.words.now c.args.roots.now from c.args.i c.requires.reached c.references-from.ensures)
