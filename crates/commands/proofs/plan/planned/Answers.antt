use Rattle.std.proofs.Common.{◌≡◌, ◌∙◌, List, ℕ, map, ◌++◌, ap, inl, subst}
use Rattle.heap_layout.specs.Heap.{live, Heap}
use Rattle.page_plan.specs.Sliding.{forward_value, forwarded_value}
use Rattle.command_io.proofs.Lines.{each-given}
use Rattle.commands.specs.Outcome.{prints}
use Rattle.commands.specs.HeapTasks.{count_lines, page_lines, root_lines, IsPlanned}
use Rattle.commands.proofs.plan.planned.Goals as goal

pub returns : goal.returns
returns g c =
    let heap = c.in_ok-plan.plan in
    let addresses : c.in_ok-roots.roots.items ≡ map (forwarded_value heap.edition (live heap)) heap.roots =
    each-given (forward_value heap.edition (live heap)) heap.roots c.in_ok-roots.roots.items c.in_ok-roots.ensures in
    let planned : IsPlanned heap (prints (count_lines (live heap) ++ page_lines (live heap) ++ root_lines c.in_ok-roots.roots.items)) =
    inl (ap (λ (roots : List ℕ). prints (count_lines (live heap) ++ page_lines (live heap) ++ root_lines roots)) addresses) in
    (subst (λ (h : Heap). IsPlanned h (prints (count_lines (live heap) ++ page_lines (live heap) ++ root_lines c.in_ok-roots.roots.items))) c.in_ok-plan.ensures planned, tt)
