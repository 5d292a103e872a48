use Rattle.rest_marks.specs.Surveys.{marks_of}
use Rattle.rest_marks.proofs.Seen.{fault-seen, grown-ready, grown-same}
use Rattle.stopped_heap.proofs.growing.grow.Goals as goal

pub grow_in-requires : goal.grow_in-requires
grow_in-requires c = record { ready = grown-ready c.args.edition c.args.words.now c.args.queue.now.items c.args.heads.now c.args.bits.now c.requires.grown }

pub returns-clause-grown : goal.returns-clause-grown
returns-clause-grown c =
    (c.in_default.ensures.grown c.args.words.now
    (grown-same c.args.edition c.args.words.now c.args.queue.now.items c.args.heads.now c.args.bits.now c.requires.grown)).grown

pub returns-clause-reached : goal.returns-clause-reached
returns-clause-reached c =
    c.in_default.ensures.reached c.args.words.now
    (grown-same c.args.edition c.args.words.now c.args.queue.now.items c.args.heads.now c.args.bits.now c.requires.grown)

pub returns-clause-leads : goal.returns-clause-leads
returns-clause-leads c =
    c.in_default.ensures.leads c.args.words.now (grown-same c.args.edition c.args.words.now c.args.queue.now.items c.args.heads.now c.args.bits.now c.requires.grown)

pub returns-in-Err-clause-fault : goal.returns-in-Err-clause-fault
returns-in-Err-clause-fault c =
    fault-seen c.args.edition c.args.words.now (marks_of c.args.heads.now) c.args.more.now c.in-Err.fault
    (c.in-Err.ensures.fault c.args.words.now
    (grown-same c.args.edition c.args.words.now c.args.queue.now.items c.args.heads.now c.args.bits.now c.requires.grown))
