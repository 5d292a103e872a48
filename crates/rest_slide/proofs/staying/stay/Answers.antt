use Rattle.std.proofs.Common.{◌≡◌, ℕ, ◌+◌, ◌-◌, ◌^◌, ◌≤◌, ◌⊎◌, false, get_or, inl, inr, sym, subst, arith}
use Rattle.heap_layout.specs.Values.{is_immediate}
use Rattle.mark_tables.specs.MarkBitmap.{set_bits}
use Rattle.rest_marks.specs.Looking.{led_to}
use Rattle.rest_slide.proofs.Moving.{IsMoved, moved-first, moved-next, moved-stays}
use Rattle.rest_slide.proofs.Dense.{dense-inside, led-stays}
use Rattle.rest_slide.proofs.staying.stay.Goals as goal
use Rattle.rest_slide.proofs.staying.stay.Goals.{then-word-first, else-word-first}

pub loop-k-init : goal.loop-k-init
loop-k-init c = moved-first (led_to c.args.edition (set_bits c.args.bits.now)) c.args.words.now c.args.from c.args.from

pub overflow_add-first : goal.overflow_add-first
overflow_add-first c = omega (arith, dense-inside c.args.bits.now c.args.dense c.requires.dense, c.requires.offsets.few)

pub overflow_sub-others : goal.overflow_sub-others
overflow_sub-others c = dense-inside c.args.bits.now c.args.dense c.requires.dense

pub loop-k-preserved : goal.loop-k-preserved
loop-k-preserved c =
    let bits = c.args.bits.now in
    let from = c.args.from in
    let k = c.loop-k.k in
    let lead = led_to c.args.edition (set_bits bits) in
    let word = get_or c.loop-k.words (from + k) 0 in
    let same = c.loop-k.invariant.behind (from + k) (omega arith) in
    elim c.if-word-first.branch [
      | then-word-first w ↦
          subst (IsMoved lead c.args.words.now from from (k + 1)) (sym w.words-is)
          (moved-next lead c.args.words.now from from k c.loop-k.words w.settled_reference.result c.loop-k.invariant (omega arith)
          (omega (arith, c.loop-k.invariant.long, c.requires.inside, c.loop-k-test.true)) w.settled_reference.ensures)
      | else-word-first w ↦
          let low : is_immediate c.args.edition word ≡ false → (word ≡ 0) ⊎ ((2 ^ 32 ≤ word) × (word - 2 ^ 32 ≤ c.args.dense)) =
          λ plain.
          let is = subst (λ (n : ℕ). is_immediate c.args.edition n ≡ false) same plain in
          let known = c.requires.known k c.loop-k-test.true is in
          elim (c.requires.addresses k c.loop-k-test.true is) [
            | inl null ↦ inl (omega (arith, null, same))
            | inr address ↦ inr (omega (arith, address, same), omega (arith, address, same, known, w.if-word-first.false, c.requires.offsets.few))
          ] in
          subst (IsMoved lead c.args.words.now from from (k + 1)) (sym w.words-is)
          (moved-stays lead c.args.words.now from k c.loop-k.words c.loop-k.invariant (led-stays bits c.args.dense c.requires.dense c.args.edition word low))
    ]
