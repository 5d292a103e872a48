use Rattle.std.proofs.Common.{ap, ◌∙◌}
use Rattle.rest_marks.specs.Surveys.{heap_of}
use Rattle.stopped_heap.proofs.Viewed.{settled-seen}
use Rattle.stopped_heap.proofs.survey.Survey.forward_weak.Goals as goal

pub returns : goal.returns
returns c =
    let inside = c.self.inside in
    c.settle_all.ensures
    ∙ settled-seen inside.edition inside.words.now inside.heads.items inside.bits.items inside.counts.items c.deref.result.now c.deref-2.result.now (heap_of c.args.self.now) c.args.words.now
    c.self.invariant.0 c.deref.ensures.value c.deref-2.ensures.value (ap heap_of c.self.view_is)
