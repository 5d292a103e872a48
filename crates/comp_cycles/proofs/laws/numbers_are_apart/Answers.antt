use Rattle.comp_cycles.proofs.Given.{given-few, life-apart, others-apart, small-apart}
use Rattle.comp_cycles.proofs.laws.numbers_are_apart.Goals as goal

pub returns-clause-others : goal.returns-clause-others
returns-clause-others c = others-apart

pub returns-clause-small : goal.returns-clause-small
returns-clause-small c = small-apart

pub returns-clause-given : goal.returns-clause-given
returns-clause-given c = given-few

pub returns-clause-life : goal.returns-clause-life
returns-clause-life c = life-apart
