use Rattle.std.proofs.Common.{sym, ◌∙◌, arith}
use Rattle.heap_layout.proofs.Bounds.{words_most}
use Rattle.reachability.proofs.Rising.{has-contained}
use Rattle.rest_marks.specs.Surveys.{marks_of}
use Rattle.rest_marks.proofs.Grown.{onward-roots, onward-reached, mark-of}
use Rattle.rest_marks.proofs.Seen.{grown-onward, seen-fault-same}
use Rattle.stopped_heap.proofs.growing.grow_in.Goals as goal

pub mark_in-requires-clause-few : goal.mark_in-requires-clause-few
mark_in-requires-clause-few c = omega (arith, c.requires.ready.few, words_most c.args.edition)

pub mark_in-requires-clause-few_bits : goal.mark_in-requires-clause-few_bits
mark_in-requires-clause-few_bits c = omega (arith, c.requires.ready.sized, c.requires.ready.few, words_most c.args.edition)

pub mark_in-requires-clause-room : goal.mark_in-requires-clause-room
mark_in-requires-clause-room c = omega (arith, c.requires.ready.sized)

pub returns-clause-ready : goal.returns-clause-ready
returns-clause-ready c = record {
  few = c.requires.ready.few;
  sized = c.mark_in.ensures.same ∙ c.requires.ready.sized;
  same = c.mark_in.ensures.long ∙ c.requires.ready.same ∙ sym c.mark_in.ensures.same;
  met = c.in_default.ensures.met;
  once = c.in_default.ensures.once;
}

pub returns-clause-grown : goal.returns-clause-grown
returns-clause-grown c = λ seen is.
    grown-onward c.args.edition c.args.words.now seen c.args.queue.now.items c.args.heads.now c.args.bits.now c.args.more.now c.mark_in.new.queue.items c.mark_in.new.heads
    c.mark_in.new.bits is
    (record {
      few = c.requires.ready.few;
      sized = c.mark_in.ensures.same ∙ c.requires.ready.sized;
      same = c.mark_in.ensures.long ∙ c.requires.ready.same ∙ sym c.mark_in.ensures.same;
      met = c.in_default.ensures.met;
      once = c.in_default.ensures.once;
    })
    c.in_default.ensures.stay (c.in_default.ensures.onward seen (record { alike = is.alike; begun = is.grown.begun }))

pub returns-clause-reached : goal.returns-clause-reached
returns-clause-reached c = λ seen is.
    onward-reached c.args.edition seen c.args.queue.now.items c.args.more.now c.mark_in.new.heads c.mark_in.new.bits
    (c.in_default.ensures.onward seen (record { alike = is.alike; begun = is.grown.begun })) c.args.heads.now is.grown.begun.met

pub returns-clause-leads : goal.returns-clause-leads
returns-clause-leads c = λ seen is.
    onward-roots c.args.edition seen c.args.queue.now.items c.args.more.now c.mark_in.new.heads c.mark_in.new.bits
    (c.in_default.ensures.onward seen (record { alike = is.alike; begun = is.grown.begun }))

pub returns-in-Err-clause-fault : goal.returns-in-Err-clause-fault
returns-in-Err-clause-fault c = λ seen is.
    seen-fault-same c.args.edition c.args.words.now seen c.args.queue.now.items (marks_of c.args.heads.now) c.args.more.now c.in-Err.fault
    (λ i had. mark-of c.args.heads.now i (c.requires.ready.met i ∙ has-contained c.args.queue.now.items i had))
    (c.in-Err.ensures.fault seen (record { alike = is.alike; begun = is.grown.begun }))
