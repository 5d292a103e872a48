use Rattle.std.proofs.Common.{◌≡◌, ℕ, ◌+◌, length, get_or, set, take, refl, sym, subst, ◌∙◌, arith}
use Rattle.std.proofs.lemmas.Grind.{take-set_at}
use Rattle.std.proofs.lemmas.List.{get_or-take, length-take-le, length-set, take_all}
use Rattle.std.proofs.lemmas.Nat.{ones-le}
use Rattle.mark_tables.specs.MarkBitmap.{AreOffsets}
use Rattle.rest_marks.proofs.Counts.{AreCountedTo, counted-few, counted-next, counted-all}
use Rattle.young_heap.proofs.recounting.recount.Goals as goal

pub loop-b-init : goal.loop-b-init
loop-b-init c =
    let offsets = c.args.offsets.now in
    let first = c.args.first in
    record {
      counted = record {
        long = length-take-le first offsets (omega (arith, c.requires.long, c.requires.known));
        count = c.requires.before first (omega arith);
        each = λ q lt. get_or-take first offsets q 0 lt ∙ c.requires.before q (omega (arith, lt));
      };
      long = refl;
    }

pub overflow_add-total : goal.overflow_add-total
overflow_add-total c =
    let b = c.loop-b.b in
    let bits = c.args.bits.now in
    let block = get_or bits b 0 in
    omega (arith, c.loop-b.invariant.counted.count, counted-few bits b, ones-le 64 block (omega (arith, c.type_inv.bits b)), c.requires.few, c.loop-b-test.true)

pub loop-b-preserved : goal.loop-b-preserved
loop-b-preserved c =
    let bits = c.args.bits.now in
    let b = c.loop-b.b in
    let offsets = c.loop-b.offsets in
    let total = c.loop-b.total in
    let next = counted-next bits (take b offsets) b total (get_or bits b 0) c.loop-b.invariant.counted (omega (arith, c.type_inv.bits b)) refl in
    let taken = take-set_at offsets b (b + 1) total refl (omega (arith, c.loop-b.invariant.long, c.requires.long, c.loop-b-test.true)) in
    record {
      counted = rw taken next;
      long = length-set offsets b total ∙ c.loop-b.invariant.long;
    }

pub returns-clause-offsets : goal.returns-clause-offsets
returns-clause-offsets c =
    let bits = c.args.bits.now in
    let b = c.loop-b.b in
    let n = length bits in
    let offsets = c.loop-b.offsets in
    let total = c.loop-b.total in
    let end : b ≡ n = omega (arith, c.loop-b-test.false, c.requires.known, c.loop-b.auto.b-end) in
    let counted : AreCountedTo bits n total (take n offsets) = subst (λ (k : ℕ). AreCountedTo bits k total (take k offsets)) end c.loop-b.invariant.counted in
    let all = counted-all bits (take n offsets) n total c.requires.few refl counted in
    let taken = take-set_at offsets n (n + 1) total refl (omega (arith, c.loop-b.invariant.long, c.requires.long)) in
    let whole = take_all (n + 1) (set offsets n total) (omega (arith, length-set offsets n total, c.loop-b.invariant.long, c.requires.long)) in
    subst (AreOffsets bits) (sym taken ∙ whole) all
