use Rattle.std.proofs.Common.{◌<◌, rules, ◌∙◌}
use Rattle.std.proofs.KnownBytes.{Appends-trans}
use Rattle.heap_layout.specs.Heap.{live}
use Rattle.page_plan.specs.Sliding.{pages}
use Rattle.commands.specs.HeapTasks.{page_line}
use Rattle.std.proofs.lemmas.Result.{err_from_is_err_and}
use Rattle.command_io.proofs.Begun.{begun_amid}
use Rattle.command_io.proofs.Lines.{numbered-amid, numbered-next}
use Rattle.commands.proofs.plan.print_pages.Goals as goal

pub loop-p-preserved : goal.loop-p-preserved
loop-p-preserved g c =
    let objects = live c.args.plan.now in
    let p = c.loop-p.p in
    record {
      printed = rw (numbered-next (page_line objects) p) (Appends-trans _ _ _ _ _ c.loop-p.invariant.printed (search rules));
      none_failed = c.in_ok-print_numbered.ensures.counts ∙ c.loop-p.invariant.none_failed;
      same_writer = c.in_ok-print_numbered.ensures.same_writer ∙ c.loop-p.invariant.same_writer;
    }

-- A beginning of the lines was printed.
pub returns-in_err-print_numbered-clause-begun : goal.returns-in_err-print_numbered-clause-begun
returns-in_err-print_numbered-clause-begun g c =
    let p = err_from_is_err_and c.from_residual.result c.from_residual.ensures.1 in
    let objects = live c.args.plan.now in
    let k = c.loop-p.p in
    let lt : k < pages objects = search rules in
    rw p.1 (begun_amid _ _ _ _ _ _ _ (numbered-amid (page_line objects) k (pages objects) lt) c.loop-p.invariant.printed (search rules))
