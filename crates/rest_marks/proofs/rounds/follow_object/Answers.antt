use Rattle.rest_marks.proofs.Leading.{references-lead}
use Rattle.rest_marks.proofs.rounds.follow_object.Goals as goal

pub meet_led-requires-clause-lead : goal.meet_led-requires-clause-lead
meet_led-requires-clause-lead c =
    references-lead c.args.edition c.args.words.now c.args.roots.now c.references-from.result.now c.args.i c.requires.reached c.references-from.ensures
