use Rattle.std.proofs.Common.{ℕ, List, Some, sym, ap, subst, ◌∙◌}
use Rattle.std.specs.declared.boxed.Box.{Box}
use Rattle.std.specs.Global.{Global}
use Rattle.flip_handle.specs.Seeing.{CopiesSeen}
use Rattle.handle_base.specs.declared.kept.Kept.{Kept}
use Rattle.flip_handle.proofs.Called.{saw, not_seen}
use Rattle.flip_handle.proofs.seeing.seen_page.Goals as goal
use Rattle.flip_handle.proofs.seeing.seen_page.Goals.{in-Mutator, in_default-as_mut}

pub returns : goal.returns
returns c = elim c.match-as_mut.branch [
  | in-Mutator w ↦
      saw c.args.p c.args.out.now c.match-as_mut.out _ _ _ w.in-Mutator.m w.copy_seen-answer.new.m w.copy_seen-answer.result
      (c.in-Some.ensures.kept.0 ∙ ap (λ (k : Kept). Some k) (sym c.as_mut.ensures.value ∙ w.in-Mutator.is))
      (c.put_back.ensures ∙ ap (λ (b : Box Kept Global). Some b.value) w.kept-is) w.answer-is
      (subst (λ (o : List ℕ). CopiesSeen c.args.p c.args.out.now o w.in-Mutator.m w.copy_seen-answer.new.m w.copy_seen-answer.result) (sym w.out-is) w.copy_seen-answer.ensures.copies)
  | in_default-as_mut w ↦
      not_seen c.args.p c.args.out.now c.match-as_mut.out _ _ _ c.as_mut.result.now w.in_default-as_mut.not-Mutator
      (c.in-Some.ensures.kept.0 ∙ ap (λ (k : Kept). Some k) (sym c.as_mut.ensures.value))
      (c.put_back.ensures ∙ ap (λ (b : Box Kept Global). Some b.value) w.kept-is) (w.answer-is ∙ w.bare-answer.ensures) w.out-is
]
