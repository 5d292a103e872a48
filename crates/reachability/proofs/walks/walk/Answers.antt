use Rattle.std.proofs.Common.{◌≡◌, ◌-◌, ap, ◌∙◌, arith}
use Rattle.heap_layout.specs.Header.{size_of}
use Rattle.heap_layout.specs.Heap.{header_at, IsPlaced}
use Rattle.reachability.proofs.Entries.{entered, entered-next}
use Rattle.reachability.proofs.walks.walk.Goals as goal

pub loop-start-init : goal.loop-start-init
loop-start-init c = entered c.args.edition c.args.words.now c.args.base c.args.bits.now c.args.entry c.requires.from c.requires.within c.requires.none

pub loop-start-preserved : goal.loop-start-preserved
loop-start-preserved c =
    let e = c.args.edition in
    let words = c.args.words.now in
    let start = c.loop-start.start in
    let at = c.loop-start.invariant in
    let from = at.from in
    let above = at.above in
    let size : c.size-size.result ≡ size_of (header_at e words start) = c.size-size.ensures ∙ ap size_of c.from_word_of.ensures in
    let placed : IsPlaced e words start = record { within = omega arith; short = omega arith } in
    entered-next e words c.args.base c.loop-start.bits c.set.new.bits c.args.entry start _ (start - c.args.base) at (omega arith) placed (omega (arith, from, above)) c.set.ensures.here c.set.ensures.elsewhere (omega (arith, size))
