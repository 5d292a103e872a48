use Rattle.std.proofs.Common.{ℕ, List, arith}
use Rattle.command_io.proofs.LongLines.{byte_cut, byte_next, feed_next}
use Rattle.command_io.proofs.texts.kept_of.Goals.{then-piece-i-eq10, else-piece-i-eq10+else-left-eq0}
use Rattle.command_io.proofs.texts.kept_of.Goals as goal

pub returns-then-left-eq0-clause-cut : goal.returns-then-left-eq0-clause-cut
returns-then-left-eq0-clause-cut c none more =
    byte_cut c.args.room c.loop-i.left c.loop-i.i c.args.piece.now more c.loop-i-test.true c.loop-i.invariant.read c.if-piece-i-eq10.false c.if-left-eq0.true

pub loop-i-preserved : goal.loop-i-preserved
loop-i-preserved c =
    let piece : List ℕ = c.args.piece.now in
    elim c.if-piece-i-eq10.branch [
      | then-piece-i-eq10 w ↦ record {
        read = feed_next c.args.room c.loop-i.left c.if-piece-i-eq10.left c.loop-i.i piece c.loop-i-test.true c.loop-i.invariant.read w.if-piece-i-eq10.true w.left-is;
        few = omega (arith, w.left-is);
      }
      | else-piece-i-eq10+else-left-eq0 w ↦ record {
        read = byte_next c.args.room c.loop-i.left c.if-piece-i-eq10.left c.loop-i.i piece c.loop-i-test.true c.loop-i.invariant.read w.if-piece-i-eq10.false w.if-left-eq0.false w.left-is;
        few = omega (arith, w.left-is, c.loop-i.invariant.few);
      }
    ]
