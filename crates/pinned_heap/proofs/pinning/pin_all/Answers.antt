use Rattle.std.proofs.Common.{◌≡◌, false, get_or, below_more, rules, ◌∙◌}
use Rattle.heap_layout.specs.Bits.{bit}
use Rattle.heap_layout.specs.Values.{is_immediate}
use Rattle.pinned_heap.proofs.PinBits.{object-found, objects-more, pin-found, pinned-more}
use Rattle.pinned_heap.proofs.pinning.pin_all.Goals as goal

pub loop-k-preserved : goal.loop-k-preserved
loop-k-preserved c =
    let edition = c.args.edition in
    let heads = c.args.heads.now in
    let pins = c.args.pins.now in
    let k = c.loop-k.k in
    let pin = get_or pins k 0 in
    let old = c.loop-k.stays in
    let new = c.set.new.bits in
    let found = object-found (bit heads) pin c.in-Some.i c.in-Some.ensures in
    let plain : is_immediate edition pin ≡ false = search (rules, c.if-is_immediate.ensures, c.if-is_immediate.false, c.is_immediate.ensures) in
    record {
      long = c.set.ensures.length ∙ c.loop-k.invariant.long;
      objects = objects-more heads old new c.in-Some.i found.here c.set.ensures.elsewhere c.loop-k.invariant.objects;
      pinned = pinned-more old new pins k c.in-Some.i c.loop-k-test.true found.at c.set.ensures.here c.set.ensures.elsewhere c.loop-k.invariant.pinned;
      good = below_more _ _ c.loop-k.invariant.good (pin-found edition heads pin plain found.address);
    }
