use Rattle.std.proofs.Common.{ℕ, List, Some, sym, ap, subst, ◌∙◌}
use Rattle.std.specs.declared.boxed.Box.{Box}
use Rattle.std.specs.Global.{Global}
use Rattle.rest_handle.specs.Young.{CollectsYoungBy}
use Rattle.handle_base.specs.declared.kept.Kept.{Kept}
use Rattle.rest_handle.proofs.Changed.{changed, unchanged}
use Rattle.rest_handle.proofs.young.collect_young_by.Goals as goal
use Rattle.rest_handle.proofs.young.collect_young_by.Goals.{in-Old, in_default-as_mut}

pub returns : goal.returns
returns c =
    let does = CollectsYoungBy c.args.edition c.args.words.now c.match-as_mut.words c.args.fields.now c.match-as_mut.fields c.args.roots.now c.match-as_mut.roots in
    elim c.match-as_mut.branch [
      | in-Old w ↦
          let called = w.collect_young_by_in-answer in
          changed does _ _ _ _ w.in-Old.tables called.new.tables called.result
          (c.in-Some.ensures.kept.0 ∙ ap (λ (k : Kept). Some k) (sym c.as_mut.ensures.value ∙ w.in-Old.is))
          (c.put_back.ensures ∙ ap (λ (b : Box Kept Global). Some b.value) w.kept-is) w.answer-is
          (subst (λ (o : List ℕ). CollectsYoungBy c.args.edition c.args.words.now c.match-as_mut.words c.args.fields.now c.match-as_mut.fields c.args.roots.now o w.in-Old.tables called.new.tables called.result) (sym w.roots-is)
          (subst (λ (o : List ℕ). CollectsYoungBy c.args.edition c.args.words.now c.match-as_mut.words c.args.fields.now o c.args.roots.now called.new.roots w.in-Old.tables called.new.tables called.result) (sym w.fields-is)
          (subst (λ (o : List ℕ). CollectsYoungBy c.args.edition c.args.words.now o c.args.fields.now called.new.fields c.args.roots.now called.new.roots w.in-Old.tables called.new.tables called.result) (sym w.words-is)
          called.ensures)))
      | in_default-as_mut w ↦
          unchanged does _ _ _ _ c.as_mut.result.now w.in_default-as_mut.not-Old
          (c.in-Some.ensures.kept.0 ∙ ap (λ (k : Kept). Some k) (sym c.as_mut.ensures.value))
          (c.put_back.ensures ∙ ap (λ (b : Box Kept Global). Some b.value) w.kept-is) (w.answer-is ∙ w.bare-answer.ensures) (w.words-is, w.fields-is, w.roots-is)
    ]
