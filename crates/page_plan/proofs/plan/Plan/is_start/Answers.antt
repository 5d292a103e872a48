use Rattle.std.proofs.Common.{◌-◌, sym, ap, ◌∙◌, arith}
use Rattle.std.specs.Option.{is_some}
use Rattle.heap_layout.specs.Heap.{live}
use Rattle.page_plan.proofs.Shapes.{shape-below, shape-behind}
use Rattle.page_plan.proofs.Ranks.{start-told}
use Rattle.page_plan.proofs.plan.Plan.is_start.Goals as goal

pub returns-then-address-lt-TO_SPACE : goal.returns-then-address-lt-TO_SPACE
returns-then-address-lt-TO_SPACE c = sym (ap is_some (shape-below c.args.self.now c.args.address (omega arith)))

pub returns-then-new_index-starts : goal.returns-then-new_index-starts
returns-then-new_index-starts c = sym (ap is_some (shape-behind c.args.self.now c.args.address (omega (arith, c.starts.ensures.starts.long))))

pub returns : goal.returns
returns c =
    c.is_set.ensures
    ∙ start-told (live c.args.self.now) c.starts-2.result.now c.starts-2.ensures.starts (c.args.address - 8589934592) c.args.address (omega arith)
