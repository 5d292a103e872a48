use Rattle.std.proofs.Common.{◌≡◌, ◌+◌, ◌-◌, ◌<◌, ◌≤◌, ◌⊎◌, length, inl, inr, refl, arith}
use Rattle.std.proofs.lemmas.Bool.{cases_lt}
use Rattle.heap_layout.specs.Header.{size_of}
use Rattle.heap_layout.specs.Heap.{header_at}
use Rattle.heap_layout.proofs.Bounds.{words_most}
use Rattle.mark_tables.specs.MarkBitmap.{set_bits}
use Rattle.rest_slide.proofs.Slides.{some-head, slid-first, next-known, next-start, next-placed, slid-next}
use Rattle.rest_slide.proofs.sliding.slide_run.Goals as goal

pub last_head-next-requires-clause-some : goal.last_head-next-requires-clause-some
last_head-next-requires-clause-some c =
    some-head c.args.edition c.args.words.now c.args.heads.now c.args.bits.now c.args.counts.now c.requires.tables c.args.first (omega arith)

pub loop-place-init : goal.loop-place-init
loop-place-init c =
    let last = c.last_head-next.ensures in
    slid-first c.args.edition c.args.words.now c.args.heads.now c.args.bits.now c.args.counts.now c.requires.tables c.args.first c.below-place.result c.last_head-next.result c.args.part.now
    (omega arith) last.here c.below-place.ensures.below (omega (arith, c.below-place.ensures.below, last.below)) last.last

pub next_set-start-requires-clause-known : goal.next_set-start-requires-clause-known
next_set-start-requires-clause-known c =
    next-known c.args.edition c.args.words.now c.args.heads.now c.args.bits.now c.args.counts.now c.requires.tables c.args.first c.loop-place.place c.loop-place.next c.loop-place.part
    c.loop-place.invariant (omega arith)

pub offset_bounds-words-start : goal.offset_bounds-words-start
offset_bounds-words-start c =
    let e = c.args.edition in
    let words = c.args.words.now in
    let heads = c.args.heads.now in
    let bits = c.args.bits.now in
    let counts = c.args.counts.now in
    let found = c.next_set-start.ensures in
    let inside : c.loop-place.place < length (set_bits bits) = omega arith in
    let start = next-start e words heads bits counts c.requires.tables c.args.first c.loop-place.place c.loop-place.next c.loop-place.part c.loop-place.invariant inside c.next_set-start.result found.from found.none found.here in
    let placed = next-placed e words heads bits counts c.requires.tables c.args.first c.loop-place.place c.loop-place.next c.loop-place.part c.loop-place.invariant inside c.next_set-start.result start in
    omega (arith, placed.0, c.requires.tables.sound.few_words, words_most e)

pub bounds-words-start : goal.bounds-words-start
bounds-words-start c =
    let e = c.args.edition in
    let words = c.args.words.now in
    let heads = c.args.heads.now in
    let bits = c.args.bits.now in
    let counts = c.args.counts.now in
    let found = c.next_set-start.ensures in
    let inside : c.loop-place.place < length (set_bits bits) = omega arith in
    let start = next-start e words heads bits counts c.requires.tables c.args.first c.loop-place.place c.loop-place.next c.loop-place.part c.loop-place.invariant inside c.next_set-start.result found.from found.none found.here in
    let placed = next-placed e words heads bits counts c.requires.tables c.args.first c.loop-place.place c.loop-place.next c.loop-place.part c.loop-place.invariant inside c.next_set-start.result start in
    omega (arith, placed.0)

pub overflow_sub-stop : goal.overflow_sub-stop
overflow_sub-stop c =
    let e = c.args.edition in
    let words = c.args.words.now in
    let heads = c.args.heads.now in
    let bits = c.args.bits.now in
    let counts = c.args.counts.now in
    let found = c.next_set-start.ensures in
    let inside : c.loop-place.place < length (set_bits bits) = omega arith in
    let start = next-start e words heads bits counts c.requires.tables c.args.first c.loop-place.place c.loop-place.next c.loop-place.part c.loop-place.invariant inside c.next_set-start.result found.from found.none found.here in
    let placed = next-placed e words heads bits counts c.requires.tables c.args.first c.loop-place.place c.loop-place.next c.loop-place.part c.loop-place.invariant inside c.next_set-start.result start in
    let size : c.shape_of-shape.result.size ≡ size_of (header_at e words c.next_set-start.result) = c.shape_of-shape.ensures.size in
    omega (arith, placed.1, size, c.saturating_sub-from.ensures, c.min-stop.ensures, c.loop-place-test.true)

pub slide_object-requires-clause-head : goal.slide_object-requires-clause-head
slide_object-requires-clause-head c =
    let e = c.args.edition in
    let words = c.args.words.now in
    let heads = c.args.heads.now in
    let bits = c.args.bits.now in
    let counts = c.args.counts.now in
    let found = c.next_set-start.ensures in
    let inside : c.loop-place.place < length (set_bits bits) = omega arith in
    let start = next-start e words heads bits counts c.requires.tables c.args.first c.loop-place.place c.loop-place.next c.loop-place.part c.loop-place.invariant inside c.next_set-start.result found.from found.none found.here in
    (next-placed e words heads bits counts c.requires.tables c.args.first c.loop-place.place c.loop-place.next c.loop-place.part c.loop-place.invariant inside c.next_set-start.result start).2

pub slide_object-requires-clause-some : goal.slide_object-requires-clause-some
slide_object-requires-clause-some c =
    let e = c.args.edition in
    let words = c.args.words.now in
    let heads = c.args.heads.now in
    let bits = c.args.bits.now in
    let counts = c.args.counts.now in
    let found = c.next_set-start.ensures in
    let inside : c.loop-place.place < length (set_bits bits) = omega arith in
    let start = next-start e words heads bits counts c.requires.tables c.args.first c.loop-place.place c.loop-place.next c.loop-place.part c.loop-place.invariant inside c.next_set-start.result found.from found.none found.here in
    let placed = next-placed e words heads bits counts c.requires.tables c.args.first c.loop-place.place c.loop-place.next c.loop-place.part c.loop-place.invariant inside c.next_set-start.result start in
    let size : c.shape_of-shape.result.size ≡ size_of (header_at e words c.next_set-start.result) = c.shape_of-shape.ensures.size in
    omega (arith, placed.1, size, c.saturating_sub-from.ensures, c.min-stop.ensures, c.loop-place-test.true)

pub slide_object-requires-clause-inside : goal.slide_object-requires-clause-inside
slide_object-requires-clause-inside c =
    let e = c.args.edition in
    let words = c.args.words.now in
    let heads = c.args.heads.now in
    let bits = c.args.bits.now in
    let counts = c.args.counts.now in
    let found = c.next_set-start.ensures in
    let inside : c.loop-place.place < length (set_bits bits) = omega arith in
    let start = next-start e words heads bits counts c.requires.tables c.args.first c.loop-place.place c.loop-place.next c.loop-place.part c.loop-place.invariant inside c.next_set-start.result found.from found.none found.here in
    let placed = next-placed e words heads bits counts c.requires.tables c.args.first c.loop-place.place c.loop-place.next c.loop-place.part c.loop-place.invariant inside c.next_set-start.result start in
    let size : c.shape_of-shape.result.size ≡ size_of (header_at e words c.next_set-start.result) = c.shape_of-shape.ensures.size in
    omega (arith, placed.1, size, c.saturating_sub-from.ensures, c.min-stop.ensures)

pub overflow_add-next : goal.overflow_add-next
overflow_add-next c =
    let e = c.args.edition in
    let words = c.args.words.now in
    let heads = c.args.heads.now in
    let bits = c.args.bits.now in
    let counts = c.args.counts.now in
    let found = c.next_set-start.ensures in
    let inside : c.loop-place.place < length (set_bits bits) = omega arith in
    let start = next-start e words heads bits counts c.requires.tables c.args.first c.loop-place.place c.loop-place.next c.loop-place.part c.loop-place.invariant inside c.next_set-start.result found.from found.none found.here in
    let placed = next-placed e words heads bits counts c.requires.tables c.args.first c.loop-place.place c.loop-place.next c.loop-place.part c.loop-place.invariant inside c.next_set-start.result start in
    let size : c.shape_of-shape.result.size ≡ size_of (header_at e words c.next_set-start.result) = c.shape_of-shape.ensures.size in
    omega (arith, placed.0, size, c.requires.tables.sound.few_words, words_most e)

pub loop-place-preserved : goal.loop-place-preserved
loop-place-preserved c =
    let e = c.args.edition in
    let words = c.args.words.now in
    let heads = c.args.heads.now in
    let bits = c.args.bits.now in
    let counts = c.args.counts.now in
    let found = c.next_set-start.ensures in
    let inside : c.loop-place.place < length (set_bits bits) = omega arith in
    let start = next-start e words heads bits counts c.requires.tables c.args.first c.loop-place.place c.loop-place.next c.loop-place.part c.loop-place.invariant inside c.next_set-start.result found.from found.none found.here in
    let size : c.shape_of-shape.result.size ≡ size_of (header_at e words c.next_set-start.result) = c.shape_of-shape.ensures.size in
    let whole : (c.shape_of-shape.result.size ≤ c.min-stop.result) ⊎ (c.args.first + length c.loop-place.part ≤ c.loop-place.place + c.min-stop.result) =
    elim (cases_lt c.min-stop.result c.shape_of-shape.result.size) [
      | inl cut ↦ inr (omega (arith, cut, c.min-stop.ensures))
      | inr all ↦ inl all
    ] in
    slid-next e words heads bits counts c.requires.tables c.args.first c.loop-place.place c.loop-place.next c.loop-place.part c.loop-place.invariant inside
    c.next_set-start.result c.shape_of-shape.result.size c.saturating_sub-from.result c.min-stop.result (c.loop-place.place + c.saturating_sub-from.result - c.args.first) c.slide_object.new.part
    start found.from size c.saturating_sub-from.ensures (omega (arith, c.min-stop.ensures)) whole refl c.slide_object.ensures.length c.slide_object.ensures.before c.slide_object.ensures.written
