use Rattle.std.proofs.Common.{arith}
use Rattle.rest_marks.proofs.Covered.{live-block}
use Rattle.rest_marks.proofs.live_bits.fill_at.Goals as goal

pub returns-clause-live : goal.returns-clause-live
returns-clause-live c = λ k within.
    live-block c.args.edition c.args.words.now c.args.heads.now c.args.start c.fill_part.new.part c.fill_part.ensures.live k (omega (arith, within, c.fill_part.ensures.length))
