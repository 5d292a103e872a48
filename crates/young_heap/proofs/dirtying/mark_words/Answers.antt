use Rattle.std.proofs.Common.{◌≡◌, ◌+◌, ◌<◌, ◌≤◌, inl, inr, ◌∙◌, arith}
use Rattle.std.proofs.lemmas.Bool.{cases_lt}
use Rattle.young_heap.specs.Dirty.{LeadsAbove}
use Rattle.young_heap.proofs.Made.{marked-as, marked-both, marked-none}
use Rattle.young_heap.proofs.dirtying.mark_words.Goals as goal

pub loop-j-init : goal.loop-j-init
loop-j-init c = record {
  marked = marked-none c.args.cards.now _ (λ n is. omega (arith, is.0, is.1));
  long = omega arith;
}

pub loop-j-preserved : goal.loop-j-preserved
loop-j-preserved c =
    let e = c.args.edition in
    let above = LeadsAbove e c.args.words.now c.args.starts.now c.args.old in
    let j = c.loop-j.j in
    let from = c.args.from in
    record {
      marked = marked-both c.args.cards.now c.loop-j.cards c.mark_word.new.cards
          (λ n. (from ≤ n) × (n < j) × above n) (λ n. (n ≡ j) × above n) (λ n. (from ≤ n) × (n < j + 1) × above n)
          c.loop-j.invariant.marked c.mark_word.ensures.marked
          (λ n is. elim (cases_lt n j) [
            | inl before ↦ inl (is.0, before, is.2)
            | inr last ↦ inr (omega (arith, last, is.1), is.2)
          ])
          (λ n is. (is.0, omega (arith, is.1), is.2))
          (λ n is. (omega (arith, is.0, c.loop-j.auto.j), omega (arith, is.0), is.1));
      long = c.mark_word.ensures.length ∙ c.loop-j.invariant.long;
    }

pub returns-clause-marked : goal.returns-clause-marked
returns-clause-marked c =
    let above = LeadsAbove c.args.edition c.args.words.now c.args.starts.now c.args.old in
    let from = c.args.from in
    let j = c.loop-j.j in
    marked-as c.args.cards.now c.loop-j.cards (λ n. (from ≤ n) × (n < j) × above n) (λ n. (from ≤ n) × (n < c.args.to) × above n)
    c.loop-j.invariant.marked
    (λ n is. (is.0, omega (arith, is.1, c.loop-j-test.false), is.2))
    (λ n is. (is.0, omega (arith, is.1, c.loop-j.auto.j-end c.requires.order), is.2))
