use Rattle.young_heap.proofs.Raised.{all-led-remembered, raised-clean}
use Rattle.young_heap.proofs.laws.raised_is_clean.Goals as goal

pub returns-clause-clean : goal.returns-clause-clean
returns-clause-clean c = raised-clean

pub returns-clause-all : goal.returns-clause-all
returns-clause-all c = all-led-remembered
