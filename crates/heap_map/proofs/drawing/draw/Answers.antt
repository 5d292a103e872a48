use Rattle.heap_map.proofs.Spaces.{picture_in_frame}
use Rattle.heap_map.proofs.drawing.draw.Goals as goal

pub returns-clause-shows : goal.returns-clause-shows
returns-clause-shows c =
    let frame = c.new-frame.result in
    picture_in_frame c.args.plan.now _ _ frame.from.scale frame.to.scale frame.from.top frame.to.top frame.fresh.top frame.from.pages frame.to.pages frame.fresh.pages _ _ _ _ _ _ _ _ _ c.dump_of-dump.ensures c.new-frame.ensures.to.0 c.new-frame.ensures.from c.new-frame.ensures.to.1 c.new-frame.ensures.fresh.1 c.new-frame.ensures.scale c.in_ok-draw_from.ensures c.in_ok-push_str.ensures.bytes c.in_ok-draw_to.ensures c.in_ok-push_str-2.ensures.bytes c.in_ok-push_str-3.ensures.bytes
