use Rattle.std.proofs.Common.{subst, rules}
use Rattle.comp_ledger.specs.Ledgers.{share_count}
use Rattle.comp_ledger.specs.Shares.{NoneMissing}
use Rattle.comp_ledger.proofs.ledger.Ledger.gather.Goals as goal

pub returns-in_default-last_within-clause-fault : goal.returns-in_default-last_within-clause-fault
returns-in_default-last_within-clause-fault g c =
    let all = subst (NoneMissing (share_count c.args.self)) c.deref.ensures.value c.in_default.ensures in
    (all, search rules)

pub merged-requires-clause-all : goal.merged-requires-clause-all
merged-requires-clause-all g c =
    let all = subst (NoneMissing (share_count c.args.self)) c.deref.ensures.value c.in_default.ensures in
    subst (λ n. NoneMissing n c.args.shares.items) c.requires.whole all

pub returns-clause-all : goal.returns-clause-all
returns-clause-all g c = subst (NoneMissing (share_count c.args.self)) c.deref.ensures.value c.in_default.ensures
