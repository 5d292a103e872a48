use Rattle.std.proofs.lemmas.Result.{err_from_is_err_and}
use Rattle.reachable_cycles.proofs.Refused.{lowered_by, moved_reachable, refused_marks}
use Rattle.reachable_cycles.proofs.marking.mark_next.Goals as goal

pub returns-in_err-next-clause-refused : goal.returns-in_err-next-clause-refused
returns-in_err-next-clause-refused g c =
    let p = err_from_is_err_and c.from_residual.result c.from_residual.ensures.1 in
    rw (p.1, p.2) c.in_err-next.ensures.refused

pub returns-in_err-marks-clause-refused : goal.returns-in_err-marks-clause-refused
returns-in_err-marks-clause-refused g c =
    let heap = g.B.Builder.heap c.args.builder.now in
    let f = c.args.finished.now in
    let next = c.in_ok-next.next in
    let found = c.in_ok-next.ensures in
    let roots_are = lowered_by f c.edition.result c.args.roots.now next.roots.items c.edition.ensures found.roots in
    let p = err_from_is_err_and c.from_residual-in_err-marks.result c.from_residual-in_err-marks.ensures.1 in
    rw (p.1, p.2) (refused_marks heap f c.requires c.args.roots.now c.edition.result next.moved.words.items next.moved.starts.items next.roots.items c.edition.ensures found.moved roots_are
    c.deref.result.now c.deref-2.result.now c.in_err-marks.field-0.0 c.deref.ensures.value c.deref-2.ensures.value found.fits c.in_err-marks.ensures.refused)

pub returns-clause-found : goal.returns-clause-found
returns-clause-found g c =
    let heap = g.B.Builder.heap c.args.builder.now in
    let f = c.args.finished.now in
    let next = c.in_ok-next.next in
    let found = c.in_ok-next.ensures in
    let roots_are = lowered_by f c.edition.result c.args.roots.now next.roots.items c.edition.ensures found.roots in
    let reachable = moved_reachable heap f c.requires c.args.roots.now c.edition.result next.moved.words.items next.moved.starts.items next.roots.items c.edition.ensures found.moved roots_are
    c.deref.result.now c.deref-2.result.now c.in_ok-marks.marks.items c.deref.ensures.value c.deref-2.ensures.value found.lead c.in_ok-marks.ensures.reachable in
    record { moved = found.moved; lowered = found.roots; fits = found.fits; lead = found.lead; reachable = reachable }
