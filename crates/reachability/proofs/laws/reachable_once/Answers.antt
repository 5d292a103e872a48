use Rattle.reachability.proofs.Indices.{marks-exist}
use Rattle.reachability.proofs.Least.{once}
use Rattle.reachability.proofs.laws.reachable_once.Goals as goal

pub returns-clause-some : goal.returns-clause-some
returns-clause-some c = marks-exist

pub returns-clause-one : goal.returns-clause-one
returns-clause-one c = once
