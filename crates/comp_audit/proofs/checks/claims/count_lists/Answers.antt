use Rattle.std.proofs.Common.{ℕ, List, ◌∙◌, ◌<◌, All, length, subst, sym, arith}
use Rattle.std.proofs.lemmas.List.{length-map}
use Rattle.comp_history.specs.CellEnds.{lists as items_of}
use Rattle.comp_dump.specs.Dumped.{IsStoredList}
use Rattle.comp_dump.proofs.Writings.{list_at, item_at}
use Rattle.comp_audit.proofs.BuildCounts.{list_counted}
use Rattle.comp_audit.proofs.checks.claims.count_lists.Goals as goal

pub count_in-requires-clause-below : goal.count_in-requires-clause-below
count_in-requires-clause-below c =
    let stored = list_at (IsStoredList (length c.args.counts.now)) c.args.lists.now c.loop-list.list-index _ _ c.loop-list-test.true c.list-item.is c.requires.below in
    let there = subst (λ (list : List ℕ). All (λ p. p < length c.args.counts.now) list) (sym c.deref.ensures.value) stored.below in
    subst (λ (n : ℕ). All (λ p. p < n) c.deref.result.now) (sym c.loop-list.invariant.same) there

pub loop-list-preserved : goal.loop-list-preserved
loop-list-preserved c =
    let i = c.loop-list.invariant in
    record {
      same = c.count_in.ensures.length ∙ i.same;
      few = λ p. omega (arith, c.count_in.ensures.counts p);
      counts = λ p. list_counted p (items_of c.args.lists.now) c.loop-list.list-index _ c.deref.result.now _ _ _ (simp length-map (omega arith))
          (c.deref.ensures.value ∙ item_at c.args.lists.now c.loop-list.list-index _ _ c.list-item.is) (c.count_in.ensures.counts p) (i.counts p);
    }
