use Rattle.std.proofs.Common.{◌≡◌, List, [], rules, subst, sym}
use Rattle.comp_trace.specs.declared.steps.shown.Shown.{Shown}
use Rattle.commands.specs.HeapTasks.{IsCompacted}
use Rattle.commands.specs.TraceTasks.{dumps}
use Rattle.commands.proofs.Halted.{swept_run}
use Rattle.commands.proofs.compact.compacted.Goals as goal

pub returns : goal.returns
returns g c =
    let f = c.in_ok-finished.finished in
    let none : c.new.result.items ≡ [] = search rules in
    (subst (λ (shown : List Shown). IsCompacted c.args.workers c.args.heap (dumps c.args.workers 0 shown f)) (sym none) (swept_run c.args.workers c.args.heap f c.in_ok-finished.ensures.swept), c.in_ok-finished.ensures.flipped)
