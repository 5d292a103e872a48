use Rattle.std.proofs.Common.{◌≡◌, ℕ, ◌+◌, true, sym, subst, ◌∙◌, arith}
use Rattle.heap_layout.specs.Bits.{bit}
use Rattle.heap_layout.specs.Heap.{IsPlaced}
use Rattle.young_heap.specs.Young.{AreOld}
use Rattle.young_heap.proofs.Lengthening.{old-next, old-start}
use Rattle.young_heap.proofs.checking.row_step.Goals as goal
use Rattle.young_heap.proofs.checking.row_step.Goals.{then-next-words-via-then-next-words, then-next-words-via-else-next-words+then-not-is_set}

pub returns-then-next-words-clause-last : goal.returns-then-next-words-clause-last
returns-then-next-words-clause-last c = λ row. record {
  low = c.requires.low;
  row = row;
  last = λ j above le all. elim c.then-next-words.branch [
    | then-next-words-via-then-next-words w ↦ absurd (omega (arith, all.within, above, w.if-next-words.true))
    | then-next-words-via-else-next-words+then-not-is_set w ↦
        old-start c.args.edition c.args.words.now c.args.starts.now c.args.next row j all above (sym w.is_set.ensures ∙ w.if-not-is_set.true)
  ];
}

pub returns-clause-row : goal.returns-clause-row
returns-clause-row c = λ row.
    let e = c.args.edition in
    let words = c.args.words.now in
    let starts = c.args.starts.now in
    let next = c.args.next in
    let size = c.shape_of-size.ensures.size in
    let set : bit starts next ≡ true = sym c.is_set.ensures ∙ c.if-not-is_set.false in
    let fits = c.if-size-words.false in
    let short = c.if-size-max_object_words.false in
    let placed : IsPlaced e words next = record {
      within = omega (arith, size, fits, c.if-next-words.false);
      short = omega (arith, size, short, c.max_object_words.ensures);
    } in
    let none = c.are_none.ensures.none c.if-not-are_none.false in
    let longer = old-next e words starts next row set placed (λ j above below. none j (omega (arith, above)) (omega (arith, below, size))) in
    subst (λ (n : ℕ). AreOld e words starts (next + n)) (sym size) longer
