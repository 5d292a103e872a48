use Rattle.std.proofs.Common.{◌++◌, ◌∷◌, [], List, None, ap, ◌∙◌, arith}
use Rattle.std.proofs.lemmas.List.{replicate-append-replicate}
use Rattle.cell_steps.specs.View.{Slot}
use Rattle.cell_steps.proofs.steps.opening.vacant_slots.Goals as goal

pub loop-preserved : goal.loop-preserved
loop-preserved c =
    let before = c.loop.invariant in
    record {
      room = omega (arith, before.room, c.push_reserved.ensures.capacity);
      long = omega (arith, before.long, c.push_reserved.ensures.len);
      made = c.push_reserved.ensures.items ∙ ap (λ (l : List Slot). l ++ None ∷ []) before.made ∙ replicate-append-replicate c.loop.counter 1 None;
    }
