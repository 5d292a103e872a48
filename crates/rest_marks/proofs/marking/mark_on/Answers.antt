use Rattle.rest_marks.proofs.Seen.{begun-same, fault-seen}
use Rattle.rest_marks.proofs.marking.mark_on.Goals as goal

pub returns-clause-reached : goal.returns-clause-reached
returns-clause-reached c =
    (c.in_default.ensures.onward c.args.words.now (begun-same c.args.edition c.args.words.now c.args.queue.now.items c.args.heads.now c.args.bits.now c.requires.begun)).reached

pub returns-clause-all : goal.returns-clause-all
returns-clause-all c =
    (c.in_default.ensures.onward c.args.words.now (begun-same c.args.edition c.args.words.now c.args.queue.now.items c.args.heads.now c.args.bits.now c.requires.begun)).all

pub returns-clause-done : goal.returns-clause-done
returns-clause-done c =
    (c.in_default.ensures.onward c.args.words.now (begun-same c.args.edition c.args.words.now c.args.queue.now.items c.args.heads.now c.args.bits.now c.requires.begun)).done

pub returns-clause-only : goal.returns-clause-only
returns-clause-only c =
    (c.in_default.ensures.onward c.args.words.now (begun-same c.args.edition c.args.words.now c.args.queue.now.items c.args.heads.now c.args.bits.now c.requires.begun)).only

pub returns-clause-apart : goal.returns-clause-apart
returns-clause-apart c =
    (c.in_default.ensures.onward c.args.words.now (begun-same c.args.edition c.args.words.now c.args.queue.now.items c.args.heads.now c.args.bits.now c.requires.begun)).apart

pub returns-clause-roots : goal.returns-clause-roots
returns-clause-roots c =
    (c.in_default.ensures.onward c.args.words.now (begun-same c.args.edition c.args.words.now c.args.queue.now.items c.args.heads.now c.args.bits.now c.requires.begun)).roots_lead

pub returns-in-Err-clause-fault : goal.returns-in-Err-clause-fault
returns-in-Err-clause-fault c =
    fault-seen c.args.edition c.args.words.now c.args.queue.now.items c.args.roots.now c.in-Err.fault
    (c.in-Err.ensures.fault c.args.words.now (begun-same c.args.edition c.args.words.now c.args.queue.now.items c.args.heads.now c.args.bits.now c.requires.begun))
