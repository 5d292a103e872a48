use Rattle.cell_steps.proofs.TakenOut.{AreTaken}
use Rattle.cell_steps.proofs.closed_pages.discard.Given as goal

abbrev pub invariant-loop-p : goal.invariant-loop-p
invariant-loop-p l = AreTaken l.fn.closed l.closed l.p
