use Rattle.commands.proofs.ComparedAudits.{explained_failed, explained_passed}
use Rattle.commands.proofs.explained.explained.Goals as goal

pub returns-in-Passed : goal.returns-in-Passed
returns-in-Passed c =
    (explained_passed c.args.whole c.args.plan.now c.args.dump.now (record { counts = c.count.result; found = c.in_ok-found.found }) c.count.ensures c.in_ok-found.ensures _ (c.in_ok-text.ensures.ok) _ c.in-Passed.is, tt)

pub returns-in-Failed : goal.returns-in-Failed
returns-in-Failed c =
    (explained_failed c.args.whole c.args.plan.now c.args.dump.now (record { counts = c.count.result; found = c.in_ok-found.found }) c.count.ensures c.in_ok-found.ensures _ (c.in_ok-text.ensures.ok) _ _ c.in-Failed.is, tt)
