use Rattle.std.proofs.Common.{◌≡◌, replicate, rules, arith}
use Rattle.mark_tables.proofs.Runs.{zeros-bit}
use Rattle.rest_marks.proofs.Queued.{once-none}
use Rattle.stopped_heap.proofs.lane.empty.Goals as goal

pub invariant_of-result : goal.invariant_of-result
invariant_of-result c =
    let n = c.div_ceil-blocks.result in
    let heads_are : c.in_ok-heads.heads.items ≡ replicate n 0 = c.in_ok-heads.ensures.items_if_clones_equal (λ y same. same) in (
      c.requires,
      search rules,
      search rules,
      search rules,
      λ i. rw (heads_are, c.new-queue.ensures.items) (zeros-bit n i),
      rw c.new-queue.ensures.items (once-none c.args.count),
      omega arith,
    )
