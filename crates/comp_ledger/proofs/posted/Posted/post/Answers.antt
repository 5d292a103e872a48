use Rattle.std.proofs.Common.{sym, ◌∙◌, arith}
use Rattle.comp_ledger.proofs.posted.Posted.post.Goals as goal

pub returns-then-all-room-clause-alone : goal.returns-then-all-room-clause-alone
returns-then-all-room-clause-alone g c =
    λ alone.
    let share = c.args.share.now in
    let whole = c.audit.ensures.whole (share.one ∙ sym alone) in
    omega (arith, whole, share.counted, c.args.self.now.counted)
