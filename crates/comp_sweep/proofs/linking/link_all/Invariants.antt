use Rattle.comp_sweep.specs.Queues.{HasLinked}
use Rattle.comp_sweep.proofs.linking.link_all.Given as goal

abbrev pub invariant-loop-step : goal.invariant-loop-step
invariant-loop-step l = HasLinked l.initial.queues.items l.queues.items
