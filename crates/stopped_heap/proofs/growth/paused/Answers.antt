use Rattle.std.proofs.Common.{length, refl, subst}
use Rattle.stopped_heap.specs.Growth.{IsFoundIn}
use Rattle.rest_marks.specs.Places.{found_in}
use Rattle.rest_marks.specs.Surveys.{Surveyed}
use Rattle.stopped_heap.proofs.FoundIn.{grown-found}
use Rattle.stopped_heap.proofs.growth.paused.Goals as goal

pub invariant_of-result : goal.invariant_of-result
invariant_of-result c =
    let is = c.growing.invariant in
    ((c.growing.inside.words.now, refl, is.0), is.1, is.2, is.3, is.4)

pub returns-clause-found : goal.returns-clause-found
returns-clause-found c =
    let inside = c.growing.inside in
    subst (λ (s : Surveyed). IsFoundIn (found_in inside.edition (length inside.words.now) inside.heads.items inside.bits.items inside.room) s.words) c.growing.view_is
    (grown-found inside.edition (length inside.words.now) inside.room inside.queue.items inside.heads.items inside.bits.items inside.words.now refl c.growing.invariant.0)
