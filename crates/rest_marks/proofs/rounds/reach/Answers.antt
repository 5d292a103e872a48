use Rattle.rest_marks.proofs.Leading.{roots-lead}
use Rattle.rest_marks.proofs.rounds.reach.Goals as goal

pub meet_led-requires-clause-lead : goal.meet_led-requires-clause-lead
meet_led-requires-clause-lead g c = roots-lead c.args.edition c.args.words.now c.args.roots.now
