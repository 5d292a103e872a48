use Rattle.std.proofs.Common.{◌≡◌, length, ◌∙◌, arith, length-take}
use Rattle.std.proofs.lemmas.Grind.{same_number_lists}
use Rattle.heap_layout.specs.Heap.{live}
use Rattle.rest_slide.specs.Settled.{settled_words}
use Rattle.rest_marks.specs.Surveys.{heap_of, with_roots}
use Rattle.rest_slide.proofs.Settling.{settled-all}
use Rattle.stopped_heap.proofs.Whole.{no-room, is-collected}
use Rattle.stopped_heap.proofs.threads.collect_by_threads.Goals as goal

pub returns-then-live-to-clause-fault : goal.returns-then-live-to-clause-fault
returns-then-live-to-clause-fault g c =
    let survey = c.in-Ok.survey in
    no-room survey c.args.edition c.args.words.now c.args.roots.now c.in-Ok.ensures.edition c.in-Ok.ensures.words c.in-Ok.ensures.reached c.in-Ok.ensures.sound
    c.live_words-live.result _ c.live_words-live.ensures (omega arith)

pub returns-clause-collected : goal.returns-clause-collected
returns-clause-collected g c =
    let survey = c.in-Ok.survey in
    let roots = c.args.roots.now in
    let all = settled_words (live (heap_of survey)) in
    let many = settled-all (with_roots survey roots) c.in-Ok.ensures.sound in
    let long : length c.slide_by_threads.new.to ≡ length all = c.slide_by_threads.ensures.length ∙ simp length-take (omega (arith, c.live_words-live.ensures, many)) in
    let filled : c.slide_by_threads.new.to ≡ all =
    same_number_lists c.slide_by_threads.new.to all long (λ k lt. c.slide_by_threads.ensures.words k (omega (arith, lt, c.slide_by_threads.ensures.length))) in
    is-collected survey c.args.edition c.args.words.now roots c.in-Ok.ensures.edition c.in-Ok.ensures.words c.in-Ok.ensures.reached c.in-Ok.ensures.sound
    c.live_words-live.result c.slide_by_threads.new.to c.args.to.now _ c.live_words-live.ensures filled c.forward_weak.ensures
