use Rattle.comp_access.proofs.LowPages.{low_none}
use Rattle.comp_access.proofs.hand.Hand.new.Goals as goal

-- no page is full yet
pub invariant_of-result-clause-low : goal.invariant_of-result-clause-low
invariant_of-result-clause-low g c = low_none c.in_ok-fills.fills.items 65
