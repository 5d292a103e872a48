use Rattle.std.proofs.Common.{◌≡◌, ◌+◌, ◌-◌, ◌<◌, Bool, true, cond, length, inl, inr, ap, ◌∙◌, arith}
use Rattle.std.proofs.lemmas.Bool.{cases_lt}
use Rattle.heap_layout.specs.Bits.{bit}
use Rattle.heap_layout.specs.Header.{refs_of, size_of}
use Rattle.heap_layout.specs.Heap.{header_at}
use Rattle.rest_marks.proofs.Bounding.{bit-past}
use Rattle.pinned_heap.proofs.SlidingPart.{slid-first, slid-begun, slid-all, begun-within, begun-known, begun-moved}
use Rattle.pinned_heap.proofs.sliding.slide_objects.Goals as goal

pub loop-next-init : goal.loop-next-init
loop-next-init c = slid-first c.args.edition c.args.heads.now c.args.bits.now c.args.stays.now c.args.low c.args.part.now c.requires.tables

pub returns-then-start-limit : goal.returns-then-start-limit
returns-then-start-limit c =
    let e = c.args.edition in
    let old = c.args.part.now in
    let heads = c.args.heads.now in
    let bits = c.args.bits.now in
    let stays = c.args.stays.now in
    let low = c.args.low in
    let tables = c.requires.tables in
    let place = c.loop-next.place in
    let next = c.loop-next.next in
    let is = c.loop-next.invariant in
    let start = c.next_set-start.result in
    let found = c.next_set-start.ensures in
    slid-all e heads bits stays low old tables next place c.loop-next.part is (λ j from lt. elim (cases_lt j start) [
      | inl before ↦ found.none j from before
      | inr past ↦ bit-past heads j (omega (arith, past, lt, c.if-start-limit.true))
    ])

pub bounds-part-from : goal.bounds-part-from
bounds-part-from c =
    let e = c.args.edition in
    let old = c.args.part.now in
    let heads = c.args.heads.now in
    let bits = c.args.bits.now in
    let stays = c.args.stays.now in
    let low = c.args.low in
    let tables = c.requires.tables in
    let place = c.loop-next.place in
    let next = c.loop-next.next in
    let is = c.loop-next.invariant in
    let start = c.next_set-start.result in
    let found = c.next_set-start.ensures in
    let known : start < low + length old = omega (arith, c.if-start-limit.false, is.long) in
    let head : bit heads start ≡ true = found.here (omega (arith, c.if-start-limit.false)) in
    let to = c.place_behind-place.result in
    let behind = c.place_behind-place.ensures in
    let words = c.place_behind-place.new.words in
    let chosen : to ≡ cond (bit stays start) (start - low) place = behind.place ∙ ap (λ (b : Bool). cond b (start - low) place) c.is_set.ensures in
    let begun = slid-begun e heads bits stays low old tables next place c.loop-next.part is start found.from found.none (omega (arith, known)) to words known head chosen behind.filled behind.before behind.behind behind.length in
    let within = begun-within e heads bits stays low old tables start to words begun in
    omega (arith, within)

pub move_object-requires-clause-inside : goal.move_object-requires-clause-inside
move_object-requires-clause-inside c =
    let e = c.args.edition in
    let old = c.args.part.now in
    let heads = c.args.heads.now in
    let bits = c.args.bits.now in
    let stays = c.args.stays.now in
    let low = c.args.low in
    let tables = c.requires.tables in
    let place = c.loop-next.place in
    let next = c.loop-next.next in
    let is = c.loop-next.invariant in
    let start = c.next_set-start.result in
    let found = c.next_set-start.ensures in
    let known : start < low + length old = omega (arith, c.if-start-limit.false, is.long) in
    let head : bit heads start ≡ true = found.here (omega (arith, c.if-start-limit.false)) in
    let to = c.place_behind-place.result in
    let behind = c.place_behind-place.ensures in
    let words = c.place_behind-place.new.words in
    let chosen : to ≡ cond (bit stays start) (start - low) place = behind.place ∙ ap (λ (b : Bool). cond b (start - low) place) c.is_set.ensures in
    let begun = slid-begun e heads bits stays low old tables next place c.loop-next.part is start found.from found.none (omega (arith, known)) to words known head chosen behind.filled behind.before behind.behind behind.length in
    let size : c.shape_of-shape.result.size ≡ size_of (header_at e words (start - low)) = c.shape_of-shape.ensures.size in
    let within = begun-within e heads bits stays low old tables start to words begun in
    omega (arith, within, size)

pub move_object-requires-clause-known : goal.move_object-requires-clause-known
move_object-requires-clause-known c =
    let e = c.args.edition in
    let old = c.args.part.now in
    let heads = c.args.heads.now in
    let bits = c.args.bits.now in
    let stays = c.args.stays.now in
    let low = c.args.low in
    let tables = c.requires.tables in
    let place = c.loop-next.place in
    let next = c.loop-next.next in
    let is = c.loop-next.invariant in
    let start = c.next_set-start.result in
    let found = c.next_set-start.ensures in
    let known : start < low + length old = omega (arith, c.if-start-limit.false, is.long) in
    let head : bit heads start ≡ true = found.here (omega (arith, c.if-start-limit.false)) in
    let to = c.place_behind-place.result in
    let behind = c.place_behind-place.ensures in
    let words = c.place_behind-place.new.words in
    let chosen : to ≡ cond (bit stays start) (start - low) place = behind.place ∙ ap (λ (b : Bool). cond b (start - low) place) c.is_set.ensures in
    let begun = slid-begun e heads bits stays low old tables next place c.loop-next.part is start found.from found.none (omega (arith, known)) to words known head chosen behind.filled behind.before behind.behind behind.length in
    let refs : c.shape_of-shape.result.refs ≡ refs_of (header_at e words (start - low)) = c.shape_of-shape.ensures.refs in
    λ k lt. begun-known e heads bits stays low old tables start to words begun k (omega (arith, lt, refs))

pub loop-next-preserved : goal.loop-next-preserved
loop-next-preserved c =
    let e = c.args.edition in
    let old = c.args.part.now in
    let heads = c.args.heads.now in
    let bits = c.args.bits.now in
    let stays = c.args.stays.now in
    let low = c.args.low in
    let tables = c.requires.tables in
    let place = c.loop-next.place in
    let next = c.loop-next.next in
    let is = c.loop-next.invariant in
    let start = c.next_set-start.result in
    let found = c.next_set-start.ensures in
    let known : start < low + length old = omega (arith, c.if-start-limit.false, is.long) in
    let head : bit heads start ≡ true = found.here (omega (arith, c.if-start-limit.false)) in
    let to = c.place_behind-place.result in
    let behind = c.place_behind-place.ensures in
    let words = c.place_behind-place.new.words in
    let chosen : to ≡ cond (bit stays start) (start - low) place = behind.place ∙ ap (λ (b : Bool). cond b (start - low) place) c.is_set.ensures in
    let begun = slid-begun e heads bits stays low old tables next place c.loop-next.part is start found.from found.none (omega (arith, known)) to words known head chosen behind.filled behind.before behind.behind behind.length in
    let shape = c.shape_of-shape in
    let moved = c.move_object.ensures in
    begun-moved e heads bits stays low old tables start to words begun shape.result.refs shape.result.weak shape.result.size c.move_object.new.words
    shape.ensures.refs shape.ensures.weak shape.ensures.size
    (record { header = moved.header; references = moved.references; weak_words = moved.weak; data_words = moved.data })
    moved.before moved.behind moved.length

pub returns : goal.returns
returns c =
    let e = c.args.edition in
    let old = c.args.part.now in
    let heads = c.args.heads.now in
    let bits = c.args.bits.now in
    let stays = c.args.stays.now in
    let low = c.args.low in
    let tables = c.requires.tables in
    let place = c.loop-next.place in
    let next = c.loop-next.next in
    let is = c.loop-next.invariant in
    slid-all e heads bits stays low old tables next place c.loop-next.part is (λ j from lt. bit-past heads j (omega (arith, from, lt, c.loop-next-test.false)))
