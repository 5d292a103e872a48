use Rattle.heap_map.proofs.Spaces.{dump_space, same_scale}
use Rattle.heap_map.proofs.Standing.{on_ok}
use Rattle.heap_map.proofs.drawing.draw_dump.Goals as goal

pub returns : goal.returns
returns c =
    let frame = c.args.frame.now in
    on_ok _ _ _ (λ after. dump_space frame.to.scale frame.to.top frame.fresh.top c.args.plan.now c.args.dump.now frame.to.pages frame.fresh.pages _ _ _ c.requires.to c.requires.fresh c.in_ok-draw_compacted.ensures (same_scale frame.fresh.scale frame.to.scale frame.fresh.top c.args.dump.now frame.to.pages frame.fresh.pages _ _ c.requires.same after)) c.draw_fresh.ensures
