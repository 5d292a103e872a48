use Rattle.std.proofs.Common.{◌≡◌, ap, ◌∙◌, arith}
use Rattle.heap_layout.specs.Header.{size_of}
use Rattle.heap_layout.specs.Heap.{header_at, IsPlaced}
use Rattle.reachability.proofs.Starts.{walked-first, walked-next}
use Rattle.reachability.proofs.row.set_starts.Goals as goal

pub loop-start-init : goal.loop-start-init
loop-start-init c = walked-first c.args.edition c.args.words.now c.args.bits.now c.requires.none

pub loop-start-preserved : goal.loop-start-preserved
loop-start-preserved c =
    let e = c.args.edition in
    let words = c.args.words.now in
    let start = c.loop-start.start in
    let size : c.size-size.result ≡ size_of (header_at e words start) = c.size-size.ensures ∙ ap size_of c.from_word_of.ensures in
    let placed : IsPlaced e words start = record { within = omega arith; short = omega arith } in
    walked-next e words c.loop-start.bits c.set.new.bits start _ c.loop-start.invariant (omega arith) placed c.set.ensures.here c.set.ensures.elsewhere (omega (arith, size))
