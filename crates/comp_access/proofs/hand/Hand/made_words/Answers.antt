use Rattle.comp_access.proofs.Fitting.{made_few}
use Rattle.comp_access.proofs.hand.Hand.made_words.Goals as goal

pub returns-clause-few : goal.returns-clause-few
returns-clause-few c = made_few c.args.self.now
