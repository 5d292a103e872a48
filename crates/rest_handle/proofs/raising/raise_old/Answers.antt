use Rattle.std.proofs.Common.{Some, sym, ap, ◌∙◌}
use Rattle.std.specs.declared.boxed.Box.{Box}
use Rattle.std.specs.Global.{Global}
use Rattle.rest_handle.specs.Raising.{Raises}
use Rattle.handle_base.specs.declared.kept.Kept.{Kept}
use Rattle.rest_handle.proofs.Changed.{changed, unchanged}
use Rattle.rest_handle.proofs.raising.raise_old.Goals as goal
use Rattle.rest_handle.proofs.raising.raise_old.Goals.{in-Old, in_default-as_mut}

pub returns : goal.returns
returns c =
    let does = Raises c.args.edition c.args.words.now c.args.end in
    elim c.match-as_mut.branch [
      | in-Old w ↦
          let called = w.raise_by-answer in
          changed does _ _ _ _ w.in-Old.tables called.new.tables called.result
          (c.in-Some.ensures.kept.0 ∙ ap (λ (k : Kept). Some k) (sym c.as_mut.ensures.value ∙ w.in-Old.is))
          (c.put_back.ensures ∙ ap (λ (b : Box Kept Global). Some b.value) w.kept-is) w.answer-is
          called.ensures
      | in_default-as_mut w ↦
          unchanged does _ _ _ _ c.as_mut.result.now w.in_default-as_mut.not-Old
          (c.in-Some.ensures.kept.0 ∙ ap (λ (k : Kept). Some k) (sym c.as_mut.ensures.value))
          (c.put_back.ensures ∙ ap (λ (b : Box Kept Global). Some b.value) w.kept-is) (w.answer-is ∙ w.bare-answer.ensures) tt
    ]
