use Rattle.std.proofs.Common.{Some, sym, ap, ◌∙◌}
use Rattle.std.specs.declared.boxed.Box.{Box}
use Rattle.std.specs.Global.{Global}
use Rattle.flip_handle.specs.Calling.{Does}
use Rattle.handle_base.specs.declared.kept.Kept.{Kept}
use Rattle.flip_handle.proofs.Called.{called, not_called}
use Rattle.flip_handle.proofs.calling.make_call.Goals as goal
use Rattle.flip_handle.proofs.calling.make_call.Goals.{in-Mutator, in_default-as_mut}

pub returns : goal.returns
returns c = elim c.match-as_mut.branch [
  | in-Mutator w ↦
      called (Does c.args.call) _ _ _ w.in-Mutator.m w.perform-answer.new.m w.perform-answer.result
      (c.in-Some.ensures.kept.0 ∙ ap (λ (k : Kept). Some k) (sym c.as_mut.ensures.value ∙ w.in-Mutator.is))
      (c.put_back.ensures ∙ ap (λ (b : Box Kept Global). Some b.value) w.kept-is) w.answer-is w.perform-answer.ensures.does
  | in_default-as_mut w ↦
      not_called (Does c.args.call) _ _ _ c.as_mut.result.now w.in_default-as_mut.not-Mutator
      (c.in-Some.ensures.kept.0 ∙ ap (λ (k : Kept). Some k) (sym c.as_mut.ensures.value))
      (c.put_back.ensures ∙ ap (λ (b : Box Kept Global). Some b.value) w.kept-is) (w.answer-is ∙ w.bare-answer.ensures)
]
