use Rattle.std.proofs.Common.{ℕ, ◌<◌, length, get_or, set, inl, inr, sym, ap, ◌∙◌, arith, get_or-set_same, get_or-set_other}
use Rattle.std.proofs.lemmas.Bool.{both_ways, cases_eq}
use Rattle.std.proofs.lemmas.List.{length-set}
use Rattle.mark_tables.specs.MarkBitmap.{set_bits}
use Rattle.reachability.specs.Queue.{has}
use Rattle.reachability.proofs.Queues.{has-at}
use Rattle.rest_marks.specs.Looking.{kept_by}
use Rattle.young_heap.proofs.Staying.{differ}
use Rattle.young_heap.proofs.sliding.settle_weaks.Goals as goal

pub loop-n-preserved : goal.loop-n-preserved
loop-n-preserved c =
    let weaks = c.args.weaks.now in
    let n = c.loop-n.n in
    let before = c.loop-n.words in
    let j = get_or weaks n 0 in
    let value = c.settled_weak.result in
    let lt : n < length weaks = omega (arith, c.loop-n-test.true) in
    let inside = c.requires.below n 0 lt in
    record {
      done = λ m less. elim (cases_eq m n) [
        | inl same ↦
            ap (λ (k : ℕ). get_or (set before j value) (get_or weaks k 0) 0) same
            ∙ get_or-set_same before j value 0 (omega (arith, inside, c.loop-n.invariant.long))
            ∙ c.settled_weak.ensures
            ∙ ap (kept_by c.args.edition c.args.heads.now (set_bits c.args.bits.now)) (c.loop-n.invariant.later n (omega arith) lt ∙ ap (λ (k : ℕ). get_or c.args.words.now (get_or weaks k 0) 0) (sym same))
        | inr other ↦
            get_or-set_other before j (get_or weaks m 0) value 0 (differ weaks c.requires.rising m n other (omega (arith, less, lt)) lt)
            ∙ c.loop-n.invariant.done m (omega (arith, less, other))
      ];
      later = λ m from less.
          get_or-set_other before j (get_or weaks m 0) value 0 (differ weaks c.requires.rising m n (λ same. omega (arith, same, from)) less lt)
          ∙ c.loop-n.invariant.later m (omega (arith, from)) less;
      others = λ k none.
          get_or-set_other before j k value 0 (λ same. both_ways (has weaks k) none (ap (has weaks) same ∙ has-at weaks n lt))
          ∙ c.loop-n.invariant.others k none;
      long = length-set before j value ∙ c.loop-n.invariant.long;
    }
