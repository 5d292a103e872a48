use Rattle.std.proofs.Common.{◌≡◌, ◌∙◌, arith, length-take, length-drop}
use Rattle.std.proofs.lemmas.List.{take_all}
use Rattle.heap_layout.specs.Heap.{live}
use Rattle.rest_slide.specs.Settled.{settled_words}
use Rattle.rest_marks.specs.Surveys.{heap_of, with_roots}
use Rattle.rest_slide.proofs.Settling.{settled-all}
use Rattle.stopped_heap.proofs.Whole.{no-room, is-collected}
use Rattle.stopped_heap.proofs.collecting.collect.Goals as goal

pub returns-then-live-to-clause-fault : goal.returns-then-live-to-clause-fault
returns-then-live-to-clause-fault c =
    let survey = c.in-Ok.survey in
    no-room survey c.args.edition c.args.words.now c.args.roots.now c.in-Ok.ensures.edition c.in-Ok.ensures.words c.in-Ok.ensures.reached c.in-Ok.ensures.sound
    c.live_words-live.result _ c.live_words-live.ensures (omega arith)

pub returns-clause-collected : goal.returns-clause-collected
returns-clause-collected c =
    let survey = c.in-Ok.survey in
    let roots = c.args.roots.now in
    let all = settled_words (live (heap_of survey)) in
    let many = settled-all (with_roots survey roots) c.in-Ok.ensures.sound in
    let filled : c.slide.new.part ≡ all = c.slide.ensures ∙ take_all _ all (simp (length-take, length-drop) (omega (arith, c.live_words-live.ensures, many))) in
    is-collected survey c.args.edition c.args.words.now roots c.in-Ok.ensures.edition c.in-Ok.ensures.words c.in-Ok.ensures.reached c.in-Ok.ensures.sound
    c.live_words-live.result c.slide.new.part c.args.to.now _ c.live_words-live.ensures filled c.forward_weak.ensures
