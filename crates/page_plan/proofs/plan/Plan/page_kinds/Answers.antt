use Rattle.std.proofs.Common.{arith}
use Rattle.heap_layout.specs.Heap.{live}
use Rattle.page_plan.proofs.Telling.{told-none, told-whole}
use Rattle.page_plan.proofs.plan.Plan.page_kinds.Goals as goal

pub loop-cursor-init : goal.loop-cursor-init
loop-cursor-init c = record {
  at = c.cursor_at-cursor.ensures.at;
  begun = omega arith;
  before = omega arith;
  told = told-none (live c.args.self.now) c.cursor_at-cursor.result.new_index;
}

pub returns : goal.returns
returns c =
    let heap = c.args.self.now in
    let made = c.loop-cursor.invariant in
    let begin = c.cursor_at-cursor.ensures.new_index in
    rw (← begin) (told-whole heap c.cursor_at-cursor.ensures.closed c.cursor_at-cursor.result.new_index c.loop-cursor.cursor.new_index c.loop-cursor.kinds made.told (λ early. omega arith))
