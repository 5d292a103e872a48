use Rattle.stopped_heap.proofs.Waiting.{piece-fault, piece-grown, piece-never}
use Rattle.stopped_heap.proofs.finalizing.also_piece.Goals as goal

pub returns-in-Ok-clause-grown : goal.returns-in-Ok-clause-grown
returns-in-Ok-clause-grown c =
    let g = c.args.growing in
    piece-grown c.args.edition g.edition c.args.words.now g.words c.args.more.now g.marks c.in-Ok.grown.marks c.args.next c.args.end c.requires.edition c.requires.words c.requires.order
    c.in-Ok.ensures.together

pub returns-in-Err-clause-fault : goal.returns-in-Err-clause-fault
returns-in-Err-clause-fault c =
    let g = c.args.growing in
    piece-fault c.args.edition g.edition c.args.words.now g.words c.args.more.now g.marks c.args.next c.args.end c.in-Err.refused.fault c.requires.edition c.requires.words c.requires.few
    c.requires.lead c.in-Err.ensures.fault

pub returns-in-Err-clause-never : goal.returns-in-Err-clause-never
returns-in-Err-clause-never c =
    let g = c.args.growing in
    piece-never c.args.edition g.edition c.args.words.now g.words c.args.more.now g.marks c.args.next c.args.end c.in-Err.refused.fault c.requires.edition c.requires.words c.requires.lead
    c.in-Err.ensures.fault
