use Rattle.std.proofs.Common.{◌≡◌, ◌+◌, ◌≤◌, ◌∷◌, [], All, List, length, suc, ap, sym, ◌∙◌, subst, length-append}
use Rattle.std.proofs.lemmas.List.Elements.{All-push}
use Rattle.page_cells.specs.CellViews.{mutators_of, steps_of, Works}
use Rattle.cell_steps.specs.declared.pass.Pass.{Pass}
use Rattle.comp_access.specs.Hands.{pass_of, IsHandOf}
use Rattle.comp_access.specs.declared.hand.Hand.{Hand}
use Rattle.comp_access.proofs.HandRows.{next_at, one_made, still_room}
use Rattle.comp_crew.proofs.flipping.new_hands.Goals as goal

pub new-requires-clause-of : goal.new-requires-clause-of
new-requires-clause-of c κs =
    let at = next_at pass_of c.loop-pass.made.items c.in-Some.pass c.loop-pass.pass-iterator.rest.items c.next.new.self.rest.items c.args.passes.items c.in-Some.ensures.steps.0 c.loop-pass.invariant.made in
    let one = c.requires.new.new _ c.in-Some.pass at in
    (subst (λ n. Works (steps_of c.args.cells.now) n c.in-Some.pass) c.requires.mutators.0 one.works, one.rests, one.did)

pub loop-pass-preserved : goal.loop-pass-preserved
loop-pass-preserved c =
    let before = c.loop-pass.invariant in
    let cells = c.args.cells.now in
    let made = c.loop-pass.made.items in
    let left = c.loop-pass.pass-iterator.rest.items in
    let rest = c.next.new.self.rest.items in
    let first = c.in-Some.ensures.steps.0 in
    let more = c.push_reserved.ensures.items in
    let hand = c.in_ok-new.field-0 in
    let at = next_at pass_of made c.in-Some.pass left rest c.args.passes.items first before.made in
    let works = subst (λ n. Works (steps_of cells) n c.in-Some.pass) c.requires.mutators.0 (c.requires.new.new _ c.in-Some.pass at).works in
    let its : IsHandOf cells hand = subst (λ (p : Pass). Works (steps_of cells) (mutators_of cells) p) (sym c.in_ok-new.ensures.pass) works in
    let shorter : length left ≡ suc (length rest) = ap length first in
    let long = ap length more ∙ length-append made (hand ∷ []) in
    record {
      made = one_made pass_of made c.push_reserved.new.self.items hand c.in-Some.pass left rest c.args.passes.items more c.in_ok-new.ensures.pass first before.made;
      of = subst (λ (l : List Hand). All (λ (x : Hand). IsHandOf cells x) l) (sym more) (All-push (λ (x : Hand). IsHandOf cells x) made hand before.of its);
      room = subst (λ n. length c.push_reserved.new.self.items + length rest ≤ n) (sym c.push_reserved.ensures.capacity) (still_room (length made) _ (length left) (length rest) _ long shorter before.room);
      all = subst (λ n. c.args.mutators ≤ n) (sym c.push_reserved.ensures.capacity) before.all;
    }
