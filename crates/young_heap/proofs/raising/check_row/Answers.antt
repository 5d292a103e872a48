use Rattle.std.proofs.Common.{refl, sym, ◌+◌}
use Rattle.heap_layout.specs.Header.{size_of}
use Rattle.heap_layout.specs.Heap.{header_at}
use Rattle.young_heap.specs.Rows.{done, goes}
use Rattle.young_heap.proofs.Raised.{row-joined}
use Rattle.young_heap.proofs.raising.check_row.Goals as goal

pub loop-next-init : goal.loop-next-init
loop-next-init c = record { row = done c.args.from refl; within = c.requires.order }

pub loop-next-preserved : goal.loop-next-preserved
loop-next-preserved c =
    let e = c.args.edition in
    let words = c.args.words.now in
    let next = c.loop-next.next in
    let behind = c.in-Some.behind in
    let is = c.in-Some.ensures in
    record {
      row = row-joined e words behind next c.args.from c.loop-next.invariant.row
          (goes next is.placed (done (next + size_of (header_at e words next)) (sym is.end)));
      within = is.order.1;
    }
