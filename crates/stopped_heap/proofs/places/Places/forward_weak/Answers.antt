use Rattle.std.proofs.Common.{◌∙◌}
use Rattle.rest_slide.proofs.Placing.{led-seen}
use Rattle.stopped_heap.proofs.places.Places.forward_weak.Goals as goal

pub returns : goal.returns
returns c =
    let inside = c.self.inside in
    c.settle_all.ensures
    ∙ led-seen inside.edition c.deref.result.now inside.heads.items c.deref-2.result.now inside.bits.items inside.count inside.room c.args.self.now c.args.words.now
    c.deref.ensures.value c.deref-2.ensures.value c.self.view_is
