use Rattle.std.proofs.Common.{◌≡◌, ℕ, ◌+◌, ◌-◌, ◌*◌, ◌^◌, ◌<◌, false, length, sym, subst, arith}
use Rattle.heap_layout.specs.Values.{is_immediate}
use Rattle.pinned_heap.specs.Tables.{led_to_place}
use Rattle.rest_slide.proofs.Moving.{moved-first, moved-next}
use Rattle.pinned_heap.proofs.sliding.move_references.Goals as goal

pub loop-k-init : goal.loop-k-init
loop-k-init c = moved-first (led_to_place c.args.edition c.args.bits.now c.args.stays.now) c.args.words.now c.args.from c.args.to

pub settled_reference-requires-clause-known : goal.settled_reference-requires-clause-known
settled_reference-requires-clause-known c =
    let k = c.loop-k.k in
    let stays = c.loop-k.invariant.behind (c.args.from + k) (omega (arith, c.requires.down)) in
    subst (λ (w : ℕ). is_immediate c.args.edition w ≡ false → w - 2 ^ 32 < 64 * length c.args.bits.now) (sym stays) (c.requires.known k (omega (arith, c.loop-k-test.true)))

pub loop-k-preserved : goal.loop-k-preserved
loop-k-preserved c =
    moved-next (led_to_place c.args.edition c.args.bits.now c.args.stays.now) c.args.words.now c.args.from c.args.to c.loop-k.k c.loop-k.words c.settled_reference.result
    c.loop-k.invariant c.requires.down (omega (arith, c.loop-k.invariant.long, c.requires.down, c.requires.inside, c.loop-k-test.true)) c.settled_reference.ensures

pub returns-clause-moved : goal.returns-clause-moved
returns-clause-moved c = λ j lt. c.loop-k.invariant.moved j (omega (arith, lt, c.loop-k-test.false))

pub returns-clause-behind : goal.returns-clause-behind
returns-clause-behind c = λ j le. c.loop-k.invariant.behind j (omega (arith, le, c.loop-k.auto.k-end))
