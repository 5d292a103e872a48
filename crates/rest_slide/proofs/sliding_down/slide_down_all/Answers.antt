use Rattle.std.proofs.Common.{◌≡◌, ◌<◌, length, arith}
use Rattle.heap_layout.specs.Header.{refs_of, size_of}
use Rattle.heap_layout.specs.Heap.{header_at}
use Rattle.heap_layout.proofs.Bounds.{words_most}
use Rattle.mark_tables.specs.MarkBitmap.{set_bits}
use Rattle.rest_slide.proofs.Slides.{next-known}
use Rattle.rest_slide.proofs.SlidingDown.{IsDown, down-first, next-down, down-next, down-all}
use Rattle.rest_slide.proofs.sliding_down.slide_down_all.Goals as goal

pub loop-place-init : goal.loop-place-init
loop-place-init c = down-first c.args.edition c.args.words.now c.args.heads.now c.args.bits.now c.args.counts.now c.requires.tables

pub next_set-start-requires-clause-known : goal.next_set-start-requires-clause-known
next_set-start-requires-clause-known c =
    let bits = c.args.bits.now in
    let all = c.requires.tables.offsets.before (length bits) (omega arith) in
    next-known c.args.edition c.args.words.now c.args.heads.now bits c.args.counts.now c.requires.tables 0 c.loop-place.place c.loop-place.next c.loop-place.words
    c.loop-place.invariant.slid (omega (arith, all, c.loop-place-test.true))

pub offset_bounds-words-start : goal.offset_bounds-words-start
offset_bounds-words-start c =
    let e = c.args.edition in
    let words = c.args.words.now in
    let heads = c.args.heads.now in
    let bits = c.args.bits.now in
    let counts = c.args.counts.now in
    let found = c.next_set-start.ensures in
    let all = c.requires.tables.offsets.before (length bits) (omega arith) in
    let inside : c.loop-place.place < length (set_bits bits) = omega (arith, all, c.loop-place-test.true) in
    let next = next-down e words heads bits counts c.requires.tables c.loop-place.place c.loop-place.next c.loop-place.words c.loop-place.invariant inside c.next_set-start.result found.from found.none found.here in
    omega (arith, next.within, c.requires.tables.sound.few_words, words_most e, c.loop-place.invariant.long)

pub bounds-words-start : goal.bounds-words-start
bounds-words-start c =
    let e = c.args.edition in
    let words = c.args.words.now in
    let heads = c.args.heads.now in
    let bits = c.args.bits.now in
    let counts = c.args.counts.now in
    let found = c.next_set-start.ensures in
    let all = c.requires.tables.offsets.before (length bits) (omega arith) in
    let inside : c.loop-place.place < length (set_bits bits) = omega (arith, all, c.loop-place-test.true) in
    let next = next-down e words heads bits counts c.requires.tables c.loop-place.place c.loop-place.next c.loop-place.words c.loop-place.invariant inside c.next_set-start.result found.from found.none found.here in
    omega (arith, next.within)

pub slide_down_object-requires-clause-down : goal.slide_down_object-requires-clause-down
slide_down_object-requires-clause-down c =
    let e = c.args.edition in
    let words = c.args.words.now in
    let heads = c.args.heads.now in
    let bits = c.args.bits.now in
    let counts = c.args.counts.now in
    let found = c.next_set-start.ensures in
    let all = c.requires.tables.offsets.before (length bits) (omega arith) in
    let inside : c.loop-place.place < length (set_bits bits) = omega (arith, all, c.loop-place-test.true) in
    let next = next-down e words heads bits counts c.requires.tables c.loop-place.place c.loop-place.next c.loop-place.words c.loop-place.invariant inside c.next_set-start.result found.from found.none found.here in
    next.down

pub slide_down_object-requires-clause-inside : goal.slide_down_object-requires-clause-inside
slide_down_object-requires-clause-inside c =
    let e = c.args.edition in
    let words = c.args.words.now in
    let heads = c.args.heads.now in
    let bits = c.args.bits.now in
    let counts = c.args.counts.now in
    let found = c.next_set-start.ensures in
    let all = c.requires.tables.offsets.before (length bits) (omega arith) in
    let inside : c.loop-place.place < length (set_bits bits) = omega (arith, all, c.loop-place-test.true) in
    let next = next-down e words heads bits counts c.requires.tables c.loop-place.place c.loop-place.next c.loop-place.words c.loop-place.invariant inside c.next_set-start.result found.from found.none found.here in
    let size : c.shape_of-shape.result.size ≡ size_of (header_at e c.loop-place.words c.next_set-start.result) = c.shape_of-shape.ensures.size in
    omega (arith, next.within, size)

pub slide_down_object-requires-clause-known : goal.slide_down_object-requires-clause-known
slide_down_object-requires-clause-known c =
    let e = c.args.edition in
    let words = c.args.words.now in
    let heads = c.args.heads.now in
    let bits = c.args.bits.now in
    let counts = c.args.counts.now in
    let found = c.next_set-start.ensures in
    let all = c.requires.tables.offsets.before (length bits) (omega arith) in
    let inside : c.loop-place.place < length (set_bits bits) = omega (arith, all, c.loop-place-test.true) in
    let next = next-down e words heads bits counts c.requires.tables c.loop-place.place c.loop-place.next c.loop-place.words c.loop-place.invariant inside c.next_set-start.result found.from found.none found.here in
    let refs : c.shape_of-shape.result.refs ≡ refs_of (header_at e c.loop-place.words c.next_set-start.result) = c.shape_of-shape.ensures.refs in
    λ k lt. next.known k (omega (arith, lt, refs))

pub slide_down_object-requires-clause-addresses : goal.slide_down_object-requires-clause-addresses
slide_down_object-requires-clause-addresses c =
    let e = c.args.edition in
    let words = c.args.words.now in
    let heads = c.args.heads.now in
    let bits = c.args.bits.now in
    let counts = c.args.counts.now in
    let found = c.next_set-start.ensures in
    let all = c.requires.tables.offsets.before (length bits) (omega arith) in
    let inside : c.loop-place.place < length (set_bits bits) = omega (arith, all, c.loop-place-test.true) in
    let next = next-down e words heads bits counts c.requires.tables c.loop-place.place c.loop-place.next c.loop-place.words c.loop-place.invariant inside c.next_set-start.result found.from found.none found.here in
    let refs : c.shape_of-shape.result.refs ≡ refs_of (header_at e c.loop-place.words c.next_set-start.result) = c.shape_of-shape.ensures.refs in
    λ k lt. next.addresses k (omega (arith, lt, refs))

pub overflow_add-next : goal.overflow_add-next
overflow_add-next c =
    let e = c.args.edition in
    let words = c.args.words.now in
    let heads = c.args.heads.now in
    let bits = c.args.bits.now in
    let counts = c.args.counts.now in
    let found = c.next_set-start.ensures in
    let all = c.requires.tables.offsets.before (length bits) (omega arith) in
    let inside : c.loop-place.place < length (set_bits bits) = omega (arith, all, c.loop-place-test.true) in
    let next = next-down e words heads bits counts c.requires.tables c.loop-place.place c.loop-place.next c.loop-place.words c.loop-place.invariant inside c.next_set-start.result found.from found.none found.here in
    let size : c.shape_of-shape.result.size ≡ size_of (header_at e c.loop-place.words c.next_set-start.result) = c.shape_of-shape.ensures.size in
    omega (arith, next.within, size, c.requires.tables.sound.few_words, words_most e, c.loop-place.invariant.long)

pub loop-place-preserved : goal.loop-place-preserved
loop-place-preserved c =
    let e = c.args.edition in
    let words = c.args.words.now in
    let heads = c.args.heads.now in
    let bits = c.args.bits.now in
    let counts = c.args.counts.now in
    let found = c.next_set-start.ensures in
    let all = c.requires.tables.offsets.before (length bits) (omega arith) in
    let inside : c.loop-place.place < length (set_bits bits) = omega (arith, all, c.loop-place-test.true) in
    let next = next-down e words heads bits counts c.requires.tables c.loop-place.place c.loop-place.next c.loop-place.words c.loop-place.invariant inside c.next_set-start.result found.from found.none found.here in
    let size : c.shape_of-shape.result.size ≡ size_of (header_at e c.loop-place.words c.next_set-start.result) = c.shape_of-shape.ensures.size in
    let refs : c.shape_of-shape.result.refs ≡ refs_of (header_at e c.loop-place.words c.next_set-start.result) = c.shape_of-shape.ensures.refs in
    let down : IsDown e heads (set_bits bits) c.next_set-start.result c.loop-place.place c.shape_of-shape.result.refs c.shape_of-shape.result.weak c.shape_of-shape.result.size
    c.loop-place.words c.slide_down_object.new.words = record {
      header = c.slide_down_object.ensures.header;
      references = c.slide_down_object.ensures.references;
      weak_words = c.slide_down_object.ensures.weak;
      data_words = c.slide_down_object.ensures.data;
    } in
    down-next e words heads bits counts c.requires.tables c.loop-place.place c.loop-place.next c.loop-place.words c.loop-place.invariant inside
    c.next_set-start.result c.shape_of-shape.result.refs c.shape_of-shape.result.weak c.shape_of-shape.result.size c.slide_down_object.new.words next found.from
    refs c.shape_of-shape.ensures.weak size down c.slide_down_object.ensures.before c.slide_down_object.ensures.behind c.slide_down_object.ensures.length

pub returns : goal.returns
returns c =
    let bits = c.args.bits.now in
    let all = c.requires.tables.offsets.before (length bits) (omega arith) in
    down-all c.args.edition c.args.words.now c.args.heads.now bits c.args.counts.now c.requires.tables c.loop-place.place c.loop-place.next c.loop-place.words c.loop-place.invariant
    (omega (arith, all, c.loop-place-test.false))
