use Rattle.std.proofs.Common.{◌++◌, All, filter, length, take, ap, ◌∙◌}
use Rattle.heap_layout.specs.declared.edition.Edition.{Edition}
use Rattle.heap_layout.specs.Heap.{is_value, IsValue}
use Rattle.rest_marks.specs.Growing.{roots_on, IsMoreFaultOf}
use Rattle.stopped_heap.specs.Guarded.{is_lost}
use Rattle.rest_marks.specs.Reached.{AreReached}
use Rattle.stopped_heap.proofs.Guardians.{carried, lost-taken}
use Rattle.stopped_heap.proofs.Waiting.{fault-ready, waiting-leads, waiting-reached}
use Rattle.stopped_heap.proofs.growing.Growing.also_ready.Goals as goal

pub returns-in-Ok-also-clause-ordered : goal.returns-in-Ok-also-clause-ordered
returns-in-Ok-also-clause-ordered c =
    let waiting = c.args.waiting.now in
    let led = c.in-Ok.led in (
      led.marks,
      record {
        reached = c.in-Ok.ensures.led;
        order = c.in-Ok-part.ensures.order ∙ ap (λ (e : Edition). filter (is_lost e led.marks) waiting ++ filter (is_value e led.marks) waiting) c.in-Ok.ensures.edition;
        count = c.in-Ok-part.ensures.count ∙ ap (λ (e : Edition). length (filter (is_lost e led.marks) waiting)) c.in-Ok.ensures.edition;
      },
    )

pub returns-in-Ok-also-clause-grown : goal.returns-in-Ok-also-clause-grown
returns-in-Ok-also-clause-grown c =
    let g = c.args.self in
    let waiting = c.args.waiting.now in
    let led = c.in-Ok.led in
    let is = c.in-Ok.ensures in
    let parted = c.in-Ok-part.parted in
    let after = c.in-Ok-also.growing.marks in
    let lost = lost-taken g.edition led.edition led.marks waiting parted.order.items c.deref.result.now parted.lost is.edition c.deref.ensures.value c.in-Ok-part.ensures.order
    c.in-Ok-part.ensures.count in
    waiting-reached g.edition g.words g.marks waiting led.marks after is.many is.waiting is.led
    (carried (λ edition words more. AreReached edition words (roots_on led.marks more) after) g.edition led.edition g.words led.words (take parted.lost c.deref.result.now)
    (filter (is_lost g.edition led.marks) waiting) is.edition is.words lost c.in-Ok-also.ensures.grown)

pub returns-in-Ok-also-clause-leads : goal.returns-in-Ok-also-clause-leads
returns-in-Ok-also-clause-leads c =
    let g = c.args.self in
    let waiting = c.args.waiting.now in
    let led = c.in-Ok.led in
    let is = c.in-Ok.ensures in
    let parted = c.in-Ok-part.parted in
    let after = c.in-Ok-also.growing.marks in
    let lost = lost-taken g.edition led.edition led.marks waiting parted.order.items c.deref.result.now parted.lost is.edition c.deref.ensures.value c.in-Ok-part.ensures.order
    c.in-Ok-part.ensures.count in
    waiting-leads g.edition g.words g.marks waiting led.marks after is.many is.waiting is.led
    (carried (λ edition words more. AreReached edition words (roots_on led.marks more) after) g.edition led.edition g.words led.words (take parted.lost c.deref.result.now)
    (filter (is_lost g.edition led.marks) waiting) is.edition is.words lost c.in-Ok-also.ensures.grown)
    (carried (λ edition _ more. All (IsValue edition after) more) g.edition led.edition g.words led.words (take parted.lost c.deref.result.now)
    (filter (is_lost g.edition led.marks) waiting) is.edition is.words lost c.in-Ok-also.ensures.leads)

pub returns-clause-fault : goal.returns-clause-fault
returns-clause-fault c =
    let g = c.args.self in
    let waiting = c.args.waiting.now in
    let led = c.in-Ok.led in
    let is = c.in-Ok.ensures in
    let parted = c.in-Ok-part.parted in
    let fault = c.in-Err-also.refused.fault in
    let lost = lost-taken g.edition led.edition led.marks waiting parted.order.items c.deref.result.now parted.lost is.edition c.deref.ensures.value c.in-Ok-part.ensures.order
    c.in-Ok-part.ensures.count in
    fault-ready g.edition g.words g.marks waiting led.marks is.waiting is.led fault is.few
    (carried (λ edition words more. IsMoreFaultOf edition words led.marks more fault) g.edition led.edition g.words led.words (take parted.lost c.deref.result.now)
    (filter (is_lost g.edition led.marks) waiting) is.edition is.words lost c.in-Err-also.ensures.fault)
