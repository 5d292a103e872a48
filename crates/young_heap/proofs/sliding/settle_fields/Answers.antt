use Rattle.std.proofs.Common.{◌≡◌, ℕ, ◌-◌, ◌*◌, ◌^◌, ◌<◌, false, length, get_or, set, inl, inr, sym, ap, subst, ◌∙◌, arith, get_or-set_same, get_or-set_other}
use Rattle.std.proofs.lemmas.Bool.{both_ways, cases_eq}
use Rattle.std.proofs.lemmas.List.{length-set}
use Rattle.heap_layout.specs.Values.{is_immediate}
use Rattle.mark_tables.specs.MarkBitmap.{set_bits}
use Rattle.reachability.specs.Queue.{has}
use Rattle.reachability.proofs.Queues.{has-at}
use Rattle.rest_marks.specs.Looking.{led_to}
use Rattle.young_heap.proofs.Staying.{differ}
use Rattle.young_heap.proofs.sliding.settle_fields.Goals as goal

pub settled_reference-requires-clause-known : goal.settled_reference-requires-clause-known
settled_reference-requires-clause-known c =
    let n = c.loop-n.n in
    let lt : n < length c.args.fields.now = omega (arith, c.loop-n-test.true) in
    let same = c.loop-n.invariant.later n (omega arith) lt in
    subst (λ (w : ℕ). is_immediate c.args.edition w ≡ false → w - 2 ^ 32 < 64 * length c.args.bits.now) (sym same) (c.requires.known n lt)

pub loop-n-preserved : goal.loop-n-preserved
loop-n-preserved c =
    let fields = c.args.fields.now in
    let n = c.loop-n.n in
    let before = c.loop-n.words in
    let j = get_or fields n 0 in
    let value = c.settled_reference.result in
    let lt : n < length fields = omega (arith, c.loop-n-test.true) in
    let inside = c.requires.below n 0 lt in
    record {
      done = λ m less. elim (cases_eq m n) [
        | inl same ↦
            ap (λ (k : ℕ). get_or (set before j value) (get_or fields k 0) 0) same
            ∙ get_or-set_same before j value 0 (omega (arith, inside, c.loop-n.invariant.long))
            ∙ c.settled_reference.ensures
            ∙ ap (led_to c.args.edition (set_bits c.args.bits.now)) (c.loop-n.invariant.later n (omega arith) lt ∙ ap (λ (k : ℕ). get_or c.args.words.now (get_or fields k 0) 0) (sym same))
        | inr other ↦
            get_or-set_other before j (get_or fields m 0) value 0 (differ fields c.requires.rising m n other (omega (arith, less, lt)) lt)
            ∙ c.loop-n.invariant.done m (omega (arith, less, other))
      ];
      later = λ m from less.
          get_or-set_other before j (get_or fields m 0) value 0 (differ fields c.requires.rising m n (λ same. omega (arith, same, from)) less lt)
          ∙ c.loop-n.invariant.later m (omega (arith, from)) less;
      others = λ k none.
          get_or-set_other before j k value 0 (λ same. both_ways (has fields k) none (ap (has fields) same ∙ has-at fields n lt))
          ∙ c.loop-n.invariant.others k none;
      long = length-set before j value ∙ c.loop-n.invariant.long;
    }
