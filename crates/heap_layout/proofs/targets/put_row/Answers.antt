use Rattle.std.proofs.Common.{◌≡◌, ap, ◌∙◌, arith}
use Rattle.heap_layout.specs.Header.{size_of}
use Rattle.heap_layout.specs.Heap.{header_at}
use Rattle.heap_layout.proofs.Rows.{reached-next}
use Rattle.heap_layout.proofs.RowBits.{below-next, below-all}
use Rattle.heap_layout.proofs.targets.put_row.Goals as goal

pub loop-start-preserved : goal.loop-start-preserved
loop-start-preserved c =
    let e = c.args.edition in
    let words = c.args.words.now in
    let start = c.loop-start.start in
    let at = c.loop-start.invariant.reached in
    let size : c.size.result ≡ size_of (header_at e words start) = c.size.ensures ∙ ap size_of c.from_word_of.ensures in
    record {
      reached = rw size (reached-next e words start at c.loop-start-test.true);
      below = below-next e words _ _ start _ at c.loop-start-test.true c.loop-start.invariant.below c.set.ensures.here c.set.ensures.elsewhere (omega (arith, size));
    }

pub returns-clause-row : goal.returns-clause-row
returns-clause-row c =
    below-all c.args.edition c.args.words.now c.loop-start.bits c.loop-start.start c.loop-start.invariant.reached c.loop-start-test.false c.loop-start.invariant.below
