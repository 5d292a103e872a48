use Rattle.moved_heaps.proofs.Sliding.{forwards_to_place, slid_is_lawful}
use Rattle.moved_heaps.proofs.laws.sliding_is_lawful.Goals as goal

pub returns-clause-lawful : goal.returns-clause-lawful
returns-clause-lawful c = slid_is_lawful

pub returns-clause-places : goal.returns-clause-places
returns-clause-places c = λ heap k closed lt. forwards_to_place heap closed k lt
