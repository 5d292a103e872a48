use Rattle.std.proofs.Common.{◌≡◌, ap, ◌∙◌, arith}
use Rattle.rest_marks.specs.Surveys.{marks_of}
use Rattle.mark_job.proofs.Taking.{are-kept}
use Rattle.mark_job.proofs.marking.taken.Goals as goal

pub returns-clause-begun : goal.returns-clause-begun
returns-clause-begun c =
    let heads = c.in_ok-heads.heads.items in
    let same : c.in_ok-places.places.marks ≡ marks_of heads = c.in_ok-places.ensures.marks ∙ ap marks_of c.deref.ensures.value in
    are-kept c.args.marks.count c.div_ceil.result c.args.marks.heads.table.shared.key heads c.in_ok-places.places.marks (omega (arith, c.div_ceil.ensures)) same c.in_ok-heads.ensures.begun

pub returns-clause-met : goal.returns-clause-met
returns-clause-met c =
    let heads = c.in_ok-heads.heads.items in
    let same : c.in_ok-places.places.marks ≡ marks_of heads = c.in_ok-places.ensures.marks ∙ ap marks_of c.deref.ensures.value in
    are-kept c.args.marks.count c.div_ceil.result c.args.met.bits heads c.in_ok-places.places.marks (omega (arith, c.div_ceil.ensures)) same c.in_ok-heads.ensures.met
