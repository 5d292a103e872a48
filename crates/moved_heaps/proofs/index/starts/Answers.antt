use Rattle.std.proofs.Common.{◌≡◌, ◌<◌, ℕ, List, length, get_or, drop, sym, ap, ◌∙◌, arith}
use Rattle.std.proofs.lemmas.List.{take_at}
use Rattle.heap_layout.specs.Bits.{bit}
use Rattle.moved_heaps.proofs.Ranks.{set-none, set-next}
use Rattle.moved_heaps.proofs.index.starts.Goals as goal

pub loop-mark-init : goal.loop-mark-init
loop-mark-init c =
    let words = ap length c.words.ensures.words in
    rw (c.in_ok-bits.ensures.items_if_clones_equal (λ y e. e)) (set-none c.args.heap.now c.div_ceil.result (omega (arith, c.div_ceil.ensures, words)))

pub loop-mark-preserved : goal.loop-mark-preserved
loop-mark-preserved c =
    let heap = c.args.heap.now in
    let k = c.loop-mark.mark-index in
    let new = c.set.new.bits in
    let old = c.loop-mark.bits.items in
    let value = c.deref_mut.ensures.value in
    let marks : c.marks-mark-items.result.now ≡ heap.marks = c.marks-mark-items.ensures.marks in
    let kept : length new ≡ c.loop-mark.bits.len = c.set.ensures.length ∙ c.deref_mut.ensures.len in
    let lt : k < length heap.marks = omega (arith, ap length marks) in
    let is : get_or c.marks-mark-items.result.now k 0 ≡ get_or heap.marks k 0 = ap (λ (xs : List ℕ). get_or xs k 0) marks in
    rw (take_at new (drop (length new) old) c.loop-mark.bits.len kept)
    (set-next heap c.marks-mark-items.ensures.closed k lt old new c.loop-mark.invariant (c.set.ensures.length ∙ ap length value)
    (ap (bit new) (sym is) ∙ c.set.ensures.here)
    (λ j other. c.set.ensures.elsewhere j (λ e. other (e ∙ is)) ∙ ap (λ (xs : List ℕ). bit xs j) value))
