use Rattle.std.proofs.lemmas.Result.{IfErr-weaker, IfOk-weaker}
use Rattle.std.proofs.Common.{subst}
use Rattle.heap_layout.specs.Heap.{Heap}
use Rattle.commands.specs.HeapTasks.{IsOfSweeping}
use Rattle.commands.specs.Leftovers.{IsSweptHeap}
use Rattle.commands.proofs.compact.swept_heap.Goals as goal

pub returns-clause-swept : goal.returns-clause-swept
returns-clause-swept g c =
    IfOk-weaker c.flipped_and_swept.result _ _ (λ f h. subst (λ (heap : Heap). IsSweptHeap c.args.workers f heap) c.in_ok-plan.ensures.plan h) c.flipped_and_swept.ensures.swept

pub returns-clause-cause : goal.returns-clause-cause
returns-clause-cause g c =
    IfErr-weaker c.flipped_and_swept.result _ _ (λ refusal h. subst (λ (heap : Heap). IsOfSweeping heap refusal) c.in_ok-plan.ensures.plan h) c.flipped_and_swept.ensures.cause
