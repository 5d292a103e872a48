use Rattle.std.proofs.Common.{List, ℕ, subst}
use Rattle.rest_marks.specs.Checks.{AreOthers}
use Rattle.stopped_heap.proofs.looks.Looks.check.Goals as goal

pub ask_whole-requires-clause-others : goal.ask_whole-requires-clause-others
ask_whole-requires-clause-others c =
    rw (c.deref_mut.ensures.value, c.deref-3.ensures.value)
    (subst (λ (xs : List ℕ). AreOthers xs c.in-Ok.taken.items) c.deref.ensures.value c.in-Ok.ensures.others)
