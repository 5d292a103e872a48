use Rattle.std.proofs.Common.{◌∙◌, IfSome, Option, Some, ap, subst, sym}
use Rattle.std.proofs.lemmas.Option.{IfSome_then}
use Rattle.heap_layout.specs.Heap.{Heap}
use Rattle.handle_base.specs.declared.kept.Kept.{Kept}
use Rattle.proved_crews.specs.Crews.{IsFollowed}
use Rattle.proved_crews.proofs.lives.cycle.Goals as goal
use Rattle.proved_crews.proofs.lives.cycle.Goals.{then-turn, else-turn}

pub returns : goal.returns
returns c =
    let heap = c.args.heap in
    let roots = c.args.roots.now in
    elim c.if-turn.branch [
      | then-turn w ↦
          let next = c.turn.ensures w.if-turn.true heap (c.put.ensures ∙ ap (λ (k : Kept). Some k) c.in-Ok.ensures.ok) in
          let found = IfSome_then w.heap_in-next.result (w.heap_in-next.ensures next.0 next.1) (λ left same. subst (IsFollowed heap roots) (sym same) next.2) in
          subst (λ (o : Option Heap). IfSome o (IsFollowed heap roots)) (sym w.next-is) found
      | else-turn w ↦ subst (λ (o : Option Heap). IfSome o (IsFollowed heap roots)) (sym w.next-is) tt
    ]
