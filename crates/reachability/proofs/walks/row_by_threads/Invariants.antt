use Rattle.reachability.specs.Walks.{IsRowOf}
use Rattle.reachability.proofs.walks.row_by_threads.Given as goal

abbrev pub invariant-loop-part : goal.invariant-loop-part
invariant-loop-part g l = IsRowOf l.edition l.words l.row.items l.entry
