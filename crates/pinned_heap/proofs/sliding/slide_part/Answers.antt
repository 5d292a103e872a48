use Rattle.std.proofs.Common.{◌≡◌, ◌+◌, ℕ, true, false, length, refl, sym, ap, subst, ◌∙◌, arith}
use Rattle.std.proofs.lemmas.Bool.{both_ways}
use Rattle.heap_layout.specs.Bits.{bit}
use Rattle.rest_marks.proofs.Bounding.{bit-past}
use Rattle.pinned_heap.specs.Around.{IsFilled}
use Rattle.pinned_heap.proofs.SlidingPart.{part-slid}
use Rattle.pinned_heap.proofs.sliding.slide_part.Goals as goal
use Rattle.pinned_heap.proofs.sliding.slide_part.Goals.{else-end-stays-via-then-end-stays+else-is_set, else-end-stays-via-else-end-stays}

pub returns-then-is_set : goal.returns-then-is_set
returns-then-is_set c =
    let e = c.args.edition in
    let old = c.args.part.now in
    let stays = c.args.stays.now in
    let low = c.args.low in
    let place = c.slide_objects-place.result in
    let slid = c.slide_objects-place.ensures in
    let new = c.fill_run.new.words in
    let set : bit stays (low + length old) ≡ true = ap (λ (n : ℕ). bit stays (low + n)) (sym slid.long) ∙ sym c.is_set.ensures ∙ c.if-is_set.true in
    part-slid e c.args.heads.now c.args.bits.now stays low old c.requires.tables place c.slide_objects-place.new.part new slid c.fill_run.ensures.length c.fill_run.ensures.before
    (λ _ some. subst (λ (n : ℕ). IsFilled e new (record { start = place; end = n })) slid.long (c.fill_run.ensures.filled (omega (arith, some, slid.long))))
    (λ unset. absurd (both_ways (bit stays (low + length old)) unset set))

pub returns-else-end-stays : goal.returns-else-end-stays
returns-else-end-stays c =
    let old = c.args.part.now in
    let stays = c.args.stays.now in
    let low = c.args.low in
    let slid = c.slide_objects-place.ensures in
    let words = c.slide_objects-place.new.part in
    let unset : bit stays (low + length old) ≡ false = elim c.else-end-stays.branch [
      | else-end-stays-via-then-end-stays+else-is_set w ↦ ap (λ (n : ℕ). bit stays (low + n)) (sym slid.long) ∙ sym w.is_set.ensures ∙ w.if-is_set.false
      | else-end-stays-via-else-end-stays w ↦ bit-past stays (low + length old) (omega (arith, w.if-end-stays.false, slid.long))
    ] in
    part-slid c.args.edition c.args.heads.now c.args.bits.now stays low old c.requires.tables c.slide_objects-place.result words words slid refl (λ k lt. refl)
    (λ set some. absurd (both_ways (bit stays (low + length old)) unset set)) (λ _. refl)
