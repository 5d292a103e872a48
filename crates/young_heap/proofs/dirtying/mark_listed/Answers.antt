use Rattle.std.proofs.Common.{◌≡◌, ℕ, ◌+◌, ◌<◌, true, get_or, inl, inr, sym, ap, subst, ◌∙◌, arith}
use Rattle.std.proofs.lemmas.Bool.{cases_lt}
use Rattle.reachability.specs.Queue.{has}
use Rattle.reachability.proofs.Queues.{has-at, place-of}
use Rattle.young_heap.specs.Dirty.{LeadsAbove}
use Rattle.young_heap.proofs.Made.{marked-as, marked-both, marked-none}
use Rattle.young_heap.proofs.dirtying.mark_listed.Goals as goal

pub loop-n-init : goal.loop-n-init
loop-n-init c = record {
  marked = marked-none c.args.cards.now _ (λ j is. omega (arith, is.0.1));
  long = omega arith;
}

pub loop-n-preserved : goal.loop-n-preserved
loop-n-preserved c =
    let list = c.args.list.now in
    let above = LeadsAbove c.args.edition c.args.words.now c.args.starts.now c.args.old in
    let n = c.loop-n.n in
    record {
      marked = marked-both c.args.cards.now c.loop-n.cards c.mark_word.new.cards
          (λ j. ((k : ℕ) × (k < n) × (get_or list k 0 ≡ j)) × above j) (λ j. (j ≡ get_or list n 0) × above j)
          (λ j. ((k : ℕ) × (k < n + 1) × (get_or list k 0 ≡ j)) × above j)
          c.loop-n.invariant.marked c.mark_word.ensures.marked
          (λ j is. elim (cases_lt is.0.0 n) [
            | inl before ↦ inl ((is.0.0, before, is.0.2), is.1)
            | inr last ↦ (let same : is.0.0 ≡ n = omega (arith, last, is.0.1) in inr (sym is.0.2 ∙ ap (λ (k : ℕ). get_or list k 0) same, is.1))
          ])
          (λ j is. ((is.0.0, omega (arith, is.0.1), is.0.2), is.1))
          (λ j is. ((n, omega arith, sym is.0), is.1));
      long = c.mark_word.ensures.length ∙ c.loop-n.invariant.long;
    }

pub returns-clause-marked : goal.returns-clause-marked
returns-clause-marked c =
    let list = c.args.list.now in
    let above = LeadsAbove c.args.edition c.args.words.now c.args.starts.now c.args.old in
    let n = c.loop-n.n in
    marked-as c.args.cards.now c.loop-n.cards
    (λ j. ((k : ℕ) × (k < n) × (get_or list k 0 ≡ j)) × above j) (λ j. (has list j ≡ true) × above j) c.loop-n.invariant.marked
    (λ j is. (let at = place-of list j is.0 in ((at.0, omega (arith, at.1, c.loop-n-test.false), at.2), is.1)))
    (λ j is. (subst (λ (k : ℕ). has list k ≡ true) is.0.2 (has-at list is.0.0 (omega (arith, is.0.1, c.loop-n.auto.n-end))), is.1))
