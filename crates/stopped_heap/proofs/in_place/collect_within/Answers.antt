use Rattle.std.proofs.Common.{List, ℕ, sym, subst}
use Rattle.rest_marks.specs.Reached.{AreReached, IsSound}
use Rattle.rest_marks.specs.Surveys.{marks_of}
use Rattle.stopped_heap.proofs.in_place.collect_within.Goals as goal

pub returns-clause-collected : goal.returns-clause-collected
returns-clause-collected c =
    let e = c.args.edition in
    let words = c.args.words.now in
    let roots = c.args.roots.now in
    let found = c.in_default.ensures in
    let same = sym c.deref.ensures.value in
    c.slide_home.ensures (subst (λ (heads : List ℕ). AreReached e words roots (marks_of heads)) same found.reached)
    (subst (λ (heads : List ℕ). IsSound (record { edition = e; words = words; marks = marks_of heads; roots = roots })) same found.sound)
