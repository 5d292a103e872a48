use Rattle.std.proofs.lemmas.Result.{err_from_is_err_and}
use Rattle.heap_layout.specs.ImageParts.{heap_in}
use Rattle.commands.proofs.Marked.{marked_heap}
use Rattle.commands.proofs.mark.mark_by_roots.Goals as goal

-- The heap with the reachable marks is refused.
pub returns-in_err-heap-clause-cause : goal.returns-in_err-heap-clause-cause
returns-in_err-heap-clause-cause g c =
    let p = err_from_is_err_and c.from_residual.result c.from_residual.ensures.1 in
    let parts = heap_in c.args.parts in
    let found = c.reachable_once.ensures.some parts.edition parts.words parts.roots in
    rw (p.1, p.2) (found.0, found.1, c.in_err-heap.ensures.refused found.0 found.1)

pub returns-clause-marked : goal.returns-clause-marked
returns-clause-marked g c =
    let heap = c.in_ok-heap.heap in
    let made = c.in_ok-heap.ensures in
    marked_heap (heap_in c.args.parts) heap made.made made.reachable made.accepted made.stored
