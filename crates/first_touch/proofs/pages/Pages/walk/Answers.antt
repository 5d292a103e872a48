use Rattle.std.proofs.Common.{arith}
use Rattle.first_touch.proofs.Steps.{walk_allowed}
use Rattle.first_touch.proofs.pages.Pages.walk.Goals as goal

pub load-requires : goal.load-requires
load-requires c =
    let table = c.args.self.now.table.shared in
    let seat = c.loop-k.seat in (
      c.loop-k.invariant.same,
      omega (arith, c.loop-k-test.true, c.word_count-k-end.ensures, c.loop-k.auto.k-end),
      walk_allowed table.key table.table_id.slots seat.id c.loop-k.k seat.me
          (omega (arith, c.loop-k-test.true, c.word_count-k-end.ensures, c.loop-k.auto.k-end, c.args.self.now.same)),
    )
