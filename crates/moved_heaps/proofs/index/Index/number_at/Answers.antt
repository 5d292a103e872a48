use Rattle.std.proofs.Common.{◌≡◌, ◌<◌, ◌*◌, ℕ, List, true, length, sym, ap, ◌∙◌, arith}
use Rattle.heap_layout.specs.Bits.{bit}
use Rattle.moved_heaps.proofs.Ranks.{none_there, not_set, number_found, number_small, number_there, out_of_range}
use Rattle.moved_heaps.proofs.index.Index.number_at.Goals as goal
use Rattle.moved_heaps.proofs.index.Index.number_at.Goals.{then-i-len-via-then-i-len, then-i-len-via-else-i-len+then-not-is_set}

pub returns-then-i-len : goal.returns-then-i-len
returns-then-i-len c =
    let bits = c.self.inside.bits.items in
    elim c.then-i-len.branch [
      | then-i-len-via-then-i-len w ↦ none_there bits c.args.self.now c.self.view_is c.args.i (out_of_range (bit bits) (64 * length bits) c.args.i (omega arith))
      | then-i-len-via-else-i-len+then-not-is_set w ↦
          none_there bits c.args.self.now c.self.view_is c.args.i
          (not_set (bit bits) (64 * length bits) c.args.i (ap (λ (xs : List ℕ). bit xs c.args.i) (sym w.deref.ensures.value) ∙ sym w.is_set.ensures ∙ w.if-not-is_set.true))
    ]

pub overflow_add-result : goal.overflow_add-result
overflow_add-result c =
    let bits = c.self.inside.bits.items in
    let within : c.args.i < 64 * length bits = omega arith in
    let here : bit bits c.args.i ≡ true = ap (λ (xs : List ℕ). bit xs c.args.i) (sym c.deref.ensures.value) ∙ sym c.is_set.ensures ∙ c.if-not-is_set.false in
    let small = number_small bits _ c.args.i (number_found bits c.self.inside.below.items c.self.invariant c.args.i within here c.index.result.now c.index-2.result.now c.index.ensures c.index-2.ensures) in
    omega (arith, small, c.self.invariant.few)

pub returns : goal.returns
returns c =
    let bits = c.self.inside.bits.items in
    let within : c.args.i < 64 * length bits = omega arith in
    let here : bit bits c.args.i ≡ true = ap (λ (xs : List ℕ). bit xs c.args.i) (sym c.deref.ensures.value) ∙ sym c.is_set.ensures ∙ c.if-not-is_set.false in
    let there = number_there bits c.self.inside.below.items c.args.self.now c.self.view_is c.self.invariant c.args.i within here c.index.result.now c.index-2.result.now c.index.ensures c.index-2.ensures in
    (there.inside, there.there)
