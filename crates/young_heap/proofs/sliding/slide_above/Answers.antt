use Rattle.std.proofs.Common.{◌≡◌, ◌<◌, length, arith, ◌∙◌}
use Rattle.heap_layout.specs.Header.{refs_of, size_of}
use Rattle.heap_layout.specs.Heap.{header_at}
use Rattle.mark_tables.specs.MarkBitmap.{set_bits}
use Rattle.rest_slide.proofs.SlidingDown.{IsDown, next-down, down-next, down-all}
use Rattle.young_heap.proofs.Entering.{down-from}
use Rattle.young_heap.proofs.Safe.{at-first, at-next, next-inside, no-field-above, safe-next}
use Rattle.young_heap.proofs.Staying.{old-settled}
use Rattle.young_heap.proofs.sliding.slide_above.Goals as goal

pub settle_fields-requires-clause-below : goal.settle_fields-requires-clause-below
settle_fields-requires-clause-below c = λ k d lt. (let low = c.requires.fields.below k d lt in omega (arith, low, c.requires.tables.within))

pub settle_weaks-requires-clause-below : goal.settle_weaks-requires-clause-below
settle_weaks-requires-clause-below c = λ k d lt.
    let low = c.requires.weaks.below k d lt in
    omega (arith, low, c.requires.tables.within, c.settle_fields.ensures.length)

pub loop-place-init : goal.loop-place-init
loop-place-init c =
    let e = c.args.edition in
    let words = c.args.words.now in
    let heads = c.args.heads.now in
    let bits = c.args.bits.now in
    let counts = c.args.counts.now in
    let fields = c.args.fields.now in
    let weaks = c.args.weaks.now in
    let middle = c.settle_fields.new.words in
    let new = c.settle_weaks.new.words in
    let done = c.settle_fields.ensures in
    let weak_done = c.settle_weaks.ensures in
    let long = weak_done.length ∙ done.length in
    record {
      safe = at-first e words c.args.old heads bits counts c.requires.tables new
          (λ k above. weak_done.others k (no-field-above c.args.old weaks c.requires.weaks k above) ∙ done.others k (no-field-above c.args.old fields c.requires.fields k above)) long;
      down = λ tables old_are remembered.
          down-from e c.args.old words heads bits counts new tables old_are
          (old-settled e c.args.old words heads bits counts fields weaks tables old_are remembered c.requires.fields c.requires.weaks c.requires.tables.ones
          middle new long done.settled done.others weak_done.settled weak_done.others);
      low = λ j lt none no_weak. weak_done.others j no_weak ∙ done.others j none;
    }

pub next_set-start-requires-clause-known : goal.next_set-start-requires-clause-known
next_set-start-requires-clause-known c =
    let bits = c.args.bits.now in
    let all = c.requires.tables.offsets.before (length bits) (omega arith) in
    let inside : c.loop-place.place < length (set_bits bits) = omega (arith, all, c.loop-place-test.true) in
    let at = next-inside c.args.edition c.args.words.now c.args.old c.args.heads.now bits c.args.counts.now c.requires.tables c.loop-place.place c.loop-place.next c.loop-place.words
    c.loop-place.invariant.safe inside in
    omega (arith, at, c.requires.tables.same)

pub offset_bounds-words-start : goal.offset_bounds-words-start
offset_bounds-words-start c =
    let e = c.args.edition in
    let words = c.args.words.now in
    let heads = c.args.heads.now in
    let bits = c.args.bits.now in
    let counts = c.args.counts.now in
    let found = c.next_set-start.ensures in
    let all = c.requires.tables.offsets.before (length bits) (omega arith) in
    let inside : c.loop-place.place < length (set_bits bits) = omega (arith, all, c.loop-place-test.true) in
    let next = safe-next e words c.args.old heads bits counts c.requires.tables c.loop-place.place c.loop-place.next c.loop-place.words c.loop-place.invariant.safe inside
    c.next_set-start.result found.from found.none found.here in
    omega (arith, next.within, c.requires.tables.few, c.loop-place.invariant.safe.long)

pub bounds-words-start : goal.bounds-words-start
bounds-words-start c =
    let e = c.args.edition in
    let words = c.args.words.now in
    let heads = c.args.heads.now in
    let bits = c.args.bits.now in
    let counts = c.args.counts.now in
    let found = c.next_set-start.ensures in
    let all = c.requires.tables.offsets.before (length bits) (omega arith) in
    let inside : c.loop-place.place < length (set_bits bits) = omega (arith, all, c.loop-place-test.true) in
    let next = safe-next e words c.args.old heads bits counts c.requires.tables c.loop-place.place c.loop-place.next c.loop-place.words c.loop-place.invariant.safe inside
    c.next_set-start.result found.from found.none found.here in
    omega (arith, next.within)

pub slide_down_object-requires-clause-down : goal.slide_down_object-requires-clause-down
slide_down_object-requires-clause-down c =
    let e = c.args.edition in
    let words = c.args.words.now in
    let heads = c.args.heads.now in
    let bits = c.args.bits.now in
    let counts = c.args.counts.now in
    let found = c.next_set-start.ensures in
    let all = c.requires.tables.offsets.before (length bits) (omega arith) in
    let inside : c.loop-place.place < length (set_bits bits) = omega (arith, all, c.loop-place-test.true) in
    let next = safe-next e words c.args.old heads bits counts c.requires.tables c.loop-place.place c.loop-place.next c.loop-place.words c.loop-place.invariant.safe inside
    c.next_set-start.result found.from found.none found.here in
    next.down

pub slide_down_object-requires-clause-inside : goal.slide_down_object-requires-clause-inside
slide_down_object-requires-clause-inside c =
    let e = c.args.edition in
    let words = c.args.words.now in
    let heads = c.args.heads.now in
    let bits = c.args.bits.now in
    let counts = c.args.counts.now in
    let found = c.next_set-start.ensures in
    let all = c.requires.tables.offsets.before (length bits) (omega arith) in
    let inside : c.loop-place.place < length (set_bits bits) = omega (arith, all, c.loop-place-test.true) in
    let next = safe-next e words c.args.old heads bits counts c.requires.tables c.loop-place.place c.loop-place.next c.loop-place.words c.loop-place.invariant.safe inside
    c.next_set-start.result found.from found.none found.here in
    let size : c.shape_of-shape.result.size ≡ size_of (header_at e c.loop-place.words c.next_set-start.result) = c.shape_of-shape.ensures.size in
    omega (arith, next.within, size)

pub slide_down_object-requires-clause-known : goal.slide_down_object-requires-clause-known
slide_down_object-requires-clause-known c =
    let e = c.args.edition in
    let words = c.args.words.now in
    let heads = c.args.heads.now in
    let bits = c.args.bits.now in
    let counts = c.args.counts.now in
    let found = c.next_set-start.ensures in
    let all = c.requires.tables.offsets.before (length bits) (omega arith) in
    let inside : c.loop-place.place < length (set_bits bits) = omega (arith, all, c.loop-place-test.true) in
    let next = safe-next e words c.args.old heads bits counts c.requires.tables c.loop-place.place c.loop-place.next c.loop-place.words c.loop-place.invariant.safe inside
    c.next_set-start.result found.from found.none found.here in
    let refs : c.shape_of-shape.result.refs ≡ refs_of (header_at e c.loop-place.words c.next_set-start.result) = c.shape_of-shape.ensures.refs in
    λ k lt. next.known k (omega (arith, lt, refs))

pub overflow_add-next : goal.overflow_add-next
overflow_add-next c =
    let e = c.args.edition in
    let words = c.args.words.now in
    let heads = c.args.heads.now in
    let bits = c.args.bits.now in
    let counts = c.args.counts.now in
    let found = c.next_set-start.ensures in
    let all = c.requires.tables.offsets.before (length bits) (omega arith) in
    let inside : c.loop-place.place < length (set_bits bits) = omega (arith, all, c.loop-place-test.true) in
    let next = safe-next e words c.args.old heads bits counts c.requires.tables c.loop-place.place c.loop-place.next c.loop-place.words c.loop-place.invariant.safe inside
    c.next_set-start.result found.from found.none found.here in
    let size : c.shape_of-shape.result.size ≡ size_of (header_at e c.loop-place.words c.next_set-start.result) = c.shape_of-shape.ensures.size in
    omega (arith, next.within, size, c.requires.tables.few, c.loop-place.invariant.safe.long)

pub loop-place-preserved : goal.loop-place-preserved
loop-place-preserved c =
    let e = c.args.edition in
    let words = c.args.words.now in
    let heads = c.args.heads.now in
    let bits = c.args.bits.now in
    let counts = c.args.counts.now in
    let found = c.next_set-start.ensures in
    let all = c.requires.tables.offsets.before (length bits) (omega arith) in
    let inside : c.loop-place.place < length (set_bits bits) = omega (arith, all, c.loop-place-test.true) in
    let next = safe-next e words c.args.old heads bits counts c.requires.tables c.loop-place.place c.loop-place.next c.loop-place.words c.loop-place.invariant.safe inside
    c.next_set-start.result found.from found.none found.here in
    let size : c.shape_of-shape.result.size ≡ size_of (header_at e c.loop-place.words c.next_set-start.result) = c.shape_of-shape.ensures.size in
    let refs : c.shape_of-shape.result.refs ≡ refs_of (header_at e c.loop-place.words c.next_set-start.result) = c.shape_of-shape.ensures.refs in
    let start = c.next_set-start.result in
    let shape = c.shape_of-shape.result in
    let place = c.loop-place.place in
    let from = c.loop-place.next in
    let before = c.loop-place.words in
    let new = c.slide_down_object.new.words in
    let moved = c.slide_down_object.ensures in
    let done : IsDown e heads (set_bits bits) start place shape.refs shape.weak shape.size before new = record {
      header = moved.header;
      references = moved.references;
      weak_words = moved.weak;
      data_words = moved.data;
    } in
    record {
      safe = at-next e words c.args.old heads bits counts c.requires.tables place from before c.loop-place.invariant.safe start shape.size new next found.from found.none size
          moved.behind moved.length;
      down = λ tables old_are remembered.
          let is = c.loop-place.invariant.down tables old_are remembered in
          let at = next-down e words heads bits counts tables place from before is inside start found.from found.none found.here in
          down-next e words heads bits counts tables place from before is inside start shape.refs shape.weak shape.size new at found.from
          refs c.shape_of-shape.ensures.weak size done moved.before moved.behind moved.length;
      low = λ j lt none no_weak. moved.before j (omega (arith, lt, c.loop-place.invariant.safe.up)) ∙ c.loop-place.invariant.low j lt none no_weak;
    }

pub returns-clause-slid : goal.returns-clause-slid
returns-clause-slid c = λ tables old_are remembered.
    let bits = c.args.bits.now in
    let all = c.requires.tables.offsets.before (length bits) (omega arith) in
    down-all c.args.edition c.args.words.now c.args.heads.now bits c.args.counts.now tables c.loop-place.place c.loop-place.next c.loop-place.words
    (c.loop-place.invariant.down tables old_are remembered) (omega (arith, all, c.loop-place-test.false))
