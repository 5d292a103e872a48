use Rattle.comp_sweep.specs.Queues.{HasLinked}
use Rattle.comp_sweep.proofs.linking.link.Given as goal

abbrev pub invariant-loop-from : goal.invariant-loop-from
invariant-loop-from l = HasLinked l.initial.queues.items l.queues.items
