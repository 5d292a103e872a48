use Rattle.std.proofs.Common.{ℕ, List, [], sym, subst}
use Rattle.std.specs.Result.{IfErr}
use Rattle.handle_base.specs.Making.{AreFew, IsWhyReached}
use Rattle.handle_base.proofs.Whys.{err_more, why_refused}
use Rattle.handle_base.proofs.making.reached_heap.Goals as goal

pub returns-clause-fault : goal.returns-clause-fault
returns-clause-fault c =
    let edition = c.args.edition in
    let r = c.reachable_heap.result in
    let words = c.in_ok-words.words.items in
    let roots = c.in_ok-roots.roots.items in
    let few = subst (λ (ws : List ℕ). AreFew edition ws [] roots) (sym c.in_ok-words.ensures) (subst (λ (rs : List ℕ). AreFew edition c.args.words.now [] rs) (sym c.in_ok-roots.ensures) c.in_ok-check_sizes.ensures) in
    let h = err_more r (λ fault refused. why_refused edition words roots fault few refused) c.reachable_heap.ensures.refused in
    subst (λ (ws : List ℕ). IfErr r (IsWhyReached edition ws c.args.roots.now)) c.in_ok-words.ensures
    (subst (λ (rs : List ℕ). IfErr r (IsWhyReached edition words rs)) c.in_ok-roots.ensures h)
