use Rattle.std.proofs.Common.{◌++◌}
use Rattle.std.proofs.KnownBytes.{Appends-trans}
use Rattle.std.proofs.lemmas.Result.{err_from_is_err_and}
use Rattle.heap_layout.specs.Counted.{inner_of}
use Rattle.heap_layout.specs.Heap.{live}
use Rattle.commands.specs.HeapTasks.{count_lines, page_lines, root_lines}
use Rattle.command_io.proofs.Begun.{begun_after, begun_longer, begun_then}
use Rattle.commands.proofs.plan.print_plan.Goals as goal

-- A beginning of the plan was printed.
pub returns-in_err-print_counts-clause-begun : goal.returns-in_err-print_counts-clause-begun
returns-in_err-print_counts-clause-begun g c =
    let p = err_from_is_err_and c.from_residual.result c.from_residual.ensures.1 in
    rw p.1 (begun_longer _ _ (count_lines (live c.args.plan.now) ++ page_lines (live c.args.plan.now)) _ (begun_longer _ _ (count_lines (live c.args.plan.now)) _ c.in_err-print_counts.ensures.begun))

pub returns-in_err-print_pages-clause-begun : goal.returns-in_err-print_pages-clause-begun
returns-in_err-print_pages-clause-begun g c =
    let p = err_from_is_err_and c.from_residual-in_err-print_pages.result c.from_residual-in_err-print_pages.ensures.1 in
    rw p.1 (begun_longer _ _ (count_lines (live c.args.plan.now) ++ page_lines (live c.args.plan.now)) _
    (begun_then _ _ _ (count_lines (live c.args.plan.now)) _ c.in_ok-print_counts.ensures.printed c.in_err-print_pages.ensures.begun))

pub returns-clause-begun : goal.returns-clause-begun
returns-clause-begun g c =
    begun_after _ _ _ (count_lines (live c.args.plan.now) ++ page_lines (live c.args.plan.now)) _ c.print_roots.result
    (Appends-trans _ _ _ (count_lines (live c.args.plan.now)) (page_lines (live c.args.plan.now)) c.in_ok-print_counts.ensures.printed c.in_ok-print_pages.ensures.printed) c.print_roots.ensures.begun
