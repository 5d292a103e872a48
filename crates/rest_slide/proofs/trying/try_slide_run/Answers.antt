use Rattle.std.proofs.Common.{◌≡◌, ℕ, ◌+◌, ◌-◌, ◌<◌, ◌≤◌, ◌⊎◌, length, get_or, inl, inr, refl, sym, ap, subst, ◌∙◌, arith}
use Rattle.std.proofs.lemmas.Bool.{cases_lt}
use Rattle.heap_layout.specs.Header.{size_of}
use Rattle.heap_layout.specs.Heap.{header_at, object_at}
use Rattle.heap_layout.proofs.Bounds.{words_most}
use Rattle.mark_tables.specs.MarkBitmap.{set_bits}
use Rattle.rest_marks.specs.Places.{led_by, led_words, words_now, Found, IsAsFound, IsSlideFault}
use Rattle.rest_marks.specs.Surveys.{marks_of, told}
use Rattle.rest_marks.specs.declared.fault.SlideFault.TheVariants.{Changed, Unmarked}
use Rattle.rest_slide.proofs.Placing.{found-same}
use Rattle.rest_slide.proofs.Slides.{some-head}
use Rattle.rest_slide.proofs.Tried.{IsTried, tried-first, start-inside, start-below, is-next, next-start, now-placed, tried-next, tried-all, tried-changed, tried-unmarked}
use Rattle.rest_slide.proofs.trying.try_slide_run.Goals as goal

pub last_head-start-requires-clause-some : goal.last_head-start-requires-clause-some
last_head-start-requires-clause-some c =
    some-head c.args.edition c.requires.tables.0 c.args.heads.now c.args.bits.now c.args.counts.now c.requires.tables.2 c.args.first (omega arith)

pub loop-place-init : goal.loop-place-init
loop-place-init c =
    let e = c.args.edition in
    let words = c.args.words.now in
    let heads = c.args.heads.now in
    let bits = c.args.bits.now in
    let counts = c.args.counts.now in
    let first = c.args.first in
    let ws = c.requires.tables.0 in
    let last = c.last_head-start.ensures in (
      ws,
      c.requires.tables.1,
      c.requires.tables.2,
      c.last_head-start.result,
      λ inside. refl,
      tried-first e ws heads bits counts c.requires.tables.2 words first c.below-place.result c.last_head-start.result c.args.part.now
          (omega arith) last.here c.below-place.ensures.below (omega (arith, c.below-place.ensures.below, last.below)) last.last,
      refl,
    )

pub offset_bounds-words-start : goal.offset_bounds-words-start
offset_bounds-words-start c =
    let e = c.args.edition in
    let words = c.args.words.now in
    let heads = c.args.heads.now in
    let bits = c.args.bits.now in
    let counts = c.args.counts.now in
    let first = c.args.first in
    let loop = c.loop-place.invariant in
    let ws = loop.0 in
    let tables = loop.2 in
    let place = c.loop-place.place in
    let start = c.loop-place.start in
    let part = c.loop-place.part in
    let lt : place < length (set_bits bits) = omega arith in
    let tried : IsTried (told e ws heads) words first place start part = subst (λ (s : ℕ). IsTried (told e ws heads) words first place s part) (loop.4 c.loop-place-test.true) loop.5 in
    let inside = start-inside e ws heads bits counts tables words first place start part tried lt in
    omega (arith, inside.0, tables.sound.few_words, words_most e)

pub bounds-words-start : goal.bounds-words-start
bounds-words-start c =
    let e = c.args.edition in
    let words = c.args.words.now in
    let heads = c.args.heads.now in
    let bits = c.args.bits.now in
    let counts = c.args.counts.now in
    let first = c.args.first in
    let loop = c.loop-place.invariant in
    let ws = loop.0 in
    let tables = loop.2 in
    let place = c.loop-place.place in
    let start = c.loop-place.start in
    let part = c.loop-place.part in
    let lt : place < length (set_bits bits) = omega arith in
    let tried : IsTried (told e ws heads) words first place start part = subst (λ (s : ℕ). IsTried (told e ws heads) words first place s part) (loop.4 c.loop-place-test.true) loop.5 in
    let inside = start-inside e ws heads bits counts tables words first place start part tried lt in
    omega (arith, inside.0, loop.1)

pub next_behind-behind-requires-clause-offsets : goal.next_behind-behind-requires-clause-offsets
next_behind-behind-requires-clause-offsets c =
    let e = c.args.edition in
    let words = c.args.words.now in
    let heads = c.args.heads.now in
    let bits = c.args.bits.now in
    let counts = c.args.counts.now in
    let first = c.args.first in
    let loop = c.loop-place.invariant in
    let ws = loop.0 in
    let tables = loop.2 in
    let place = c.loop-place.place in
    let start = c.loop-place.start in
    let part = c.loop-place.part in
    let lt : place < length (set_bits bits) = omega arith in
    let tried : IsTried (told e ws heads) words first place start part = subst (λ (s : ℕ). IsTried (told e ws heads) words first place s part) (loop.4 c.loop-place-test.true) loop.5 in
    tables.offsets

pub next_behind-behind-requires-clause-same : goal.next_behind-behind-requires-clause-same
next_behind-behind-requires-clause-same c =
    let e = c.args.edition in
    let words = c.args.words.now in
    let heads = c.args.heads.now in
    let bits = c.args.bits.now in
    let counts = c.args.counts.now in
    let first = c.args.first in
    let loop = c.loop-place.invariant in
    let ws = loop.0 in
    let tables = loop.2 in
    let place = c.loop-place.place in
    let start = c.loop-place.start in
    let part = c.loop-place.part in
    let lt : place < length (set_bits bits) = omega arith in
    let tried : IsTried (told e ws heads) words first place start part = subst (λ (s : ℕ). IsTried (told e ws heads) words first place s part) (loop.4 c.loop-place-test.true) loop.5 in
    tables.same

pub next_behind-behind-requires-clause-head : goal.next_behind-behind-requires-clause-head
next_behind-behind-requires-clause-head c =
    let e = c.args.edition in
    let words = c.args.words.now in
    let heads = c.args.heads.now in
    let bits = c.args.bits.now in
    let counts = c.args.counts.now in
    let first = c.args.first in
    let loop = c.loop-place.invariant in
    let ws = loop.0 in
    let tables = loop.2 in
    let place = c.loop-place.place in
    let start = c.loop-place.start in
    let part = c.loop-place.part in
    let lt : place < length (set_bits bits) = omega arith in
    let tried : IsTried (told e ws heads) words first place start part = subst (λ (s : ℕ). IsTried (told e ws heads) words first place s part) (loop.4 c.loop-place-test.true) loop.5 in
    (start-inside e ws heads bits counts tables words first place start part tried lt).1

pub next_behind-behind-requires-clause-place : goal.next_behind-behind-requires-clause-place
next_behind-behind-requires-clause-place c =
    let e = c.args.edition in
    let words = c.args.words.now in
    let heads = c.args.heads.now in
    let bits = c.args.bits.now in
    let counts = c.args.counts.now in
    let first = c.args.first in
    let loop = c.loop-place.invariant in
    let ws = loop.0 in
    let tables = loop.2 in
    let place = c.loop-place.place in
    let start = c.loop-place.start in
    let part = c.loop-place.part in
    let lt : place < length (set_bits bits) = omega arith in
    let tried : IsTried (told e ws heads) words first place start part = subst (λ (s : ℕ). IsTried (told e ws heads) words first place s part) (loop.4 c.loop-place-test.true) loop.5 in
    start-below e ws heads bits counts tables words first place start part tried lt

pub next_behind-behind-requires-clause-some : goal.next_behind-behind-requires-clause-some
next_behind-behind-requires-clause-some c =
    let e = c.args.edition in
    let words = c.args.words.now in
    let heads = c.args.heads.now in
    let bits = c.args.bits.now in
    let counts = c.args.counts.now in
    let first = c.args.first in
    let loop = c.loop-place.invariant in
    let ws = loop.0 in
    let tables = loop.2 in
    let place = c.loop-place.place in
    let start = c.loop-place.start in
    let part = c.loop-place.part in
    let lt : place < length (set_bits bits) = omega arith in
    let tried : IsTried (told e ws heads) words first place start part = subst (λ (s : ℕ). IsTried (told e ws heads) words first place s part) (loop.4 c.loop-place-test.true) loop.5 in
    let size : c.shape_of-shape.result.size ≡ size_of (header_at e words start) = c.shape_of-shape.ensures.size in
    omega (arith, size)

pub returns-in_default-clause-fault : goal.returns-in_default-clause-fault
returns-in_default-clause-fault c =
    λ room.
    let e = c.args.edition in
    let words = c.args.words.now in
    let heads = c.args.heads.now in
    let bits = c.args.bits.now in
    let counts = c.args.counts.now in
    let first = c.args.first in
    let loop = c.loop-place.invariant in
    let ws = loop.0 in
    let tables = loop.2 in
    let place = c.loop-place.place in
    let start = c.loop-place.start in
    let part = c.loop-place.part in
    let lt : place < length (set_bits bits) = omega arith in
    let tried : IsTried (told e ws heads) words first place start part = subst (λ (s : ℕ). IsTried (told e ws heads) words first place s part) (loop.4 c.loop-place-test.true) loop.5 in
    let size : c.shape_of-shape.result.size ≡ size_of (header_at e words start) = c.shape_of-shape.ensures.size in
    let own = size_of (header_at e ws start) in
    let object = is-next e ws heads bits counts tables words first place start part tried lt (place + own) refl in
    subst (λ (f : Found). IsSlideFault f words first (length c.args.part.now) (Changed start)) (found-same e ws heads bits counts (length words) room loop.1 tables)
    (tried-changed e ws heads bits counts tables words first (length c.args.part.now) place start (get_or (marks_of heads) (tried.number + 1) 0) (place + own) tried.number c.shape_of-shape.result.size object
    tried.at loop.1 c.requires.inside (omega arith) (omega (arith, c.loop-place-test.true)) size (omega arith) (λ same. c.in_default.ensures.other e ws tables (omega (arith, same))))

pub overflow_sub-stop : goal.overflow_sub-stop
overflow_sub-stop c =
    let e = c.args.edition in
    let words = c.args.words.now in
    let heads = c.args.heads.now in
    let bits = c.args.bits.now in
    let counts = c.args.counts.now in
    let first = c.args.first in
    let loop = c.loop-place.invariant in
    let ws = loop.0 in
    let tables = loop.2 in
    let place = c.loop-place.place in
    let start = c.loop-place.start in
    let part = c.loop-place.part in
    let lt : place < length (set_bits bits) = omega arith in
    let tried : IsTried (told e ws heads) words first place start part = subst (λ (s : ℕ). IsTried (told e ws heads) words first place s part) (loop.4 c.loop-place-test.true) loop.5 in
    let next = c.in-Some.next in
    let there = c.in-Some.ensures in
    let size : c.shape_of-shape.result.size ≡ size_of (header_at e words start) = c.shape_of-shape.ensures.size in
    let had = there.had e ws tables in
    let object = is-next e ws heads bits counts tables words first place start part tried lt next.place (omega (arith, there.place, had)) in
    let seen : c.shape_of-shape.result.size ≡ next.place - place = omega (arith, there.place) in
    omega (arith, object.reaches, object.size, seen, c.saturating_sub-from.ensures, c.min-stop.ensures, c.loop-place-test.true)

pub try_slide_object-tried-requires-clause-offsets : goal.try_slide_object-tried-requires-clause-offsets
try_slide_object-tried-requires-clause-offsets c =
    let e = c.args.edition in
    let words = c.args.words.now in
    let heads = c.args.heads.now in
    let bits = c.args.bits.now in
    let counts = c.args.counts.now in
    let first = c.args.first in
    let loop = c.loop-place.invariant in
    let ws = loop.0 in
    let tables = loop.2 in
    let place = c.loop-place.place in
    let start = c.loop-place.start in
    let part = c.loop-place.part in
    let lt : place < length (set_bits bits) = omega arith in
    let tried : IsTried (told e ws heads) words first place start part = subst (λ (s : ℕ). IsTried (told e ws heads) words first place s part) (loop.4 c.loop-place-test.true) loop.5 in
    tables.offsets

pub try_slide_object-tried-requires-clause-placed : goal.try_slide_object-tried-requires-clause-placed
try_slide_object-tried-requires-clause-placed c =
    let e = c.args.edition in
    let words = c.args.words.now in
    let heads = c.args.heads.now in
    let bits = c.args.bits.now in
    let counts = c.args.counts.now in
    let first = c.args.first in
    let loop = c.loop-place.invariant in
    let ws = loop.0 in
    let tables = loop.2 in
    let place = c.loop-place.place in
    let start = c.loop-place.start in
    let part = c.loop-place.part in
    let lt : place < length (set_bits bits) = omega arith in
    let tried : IsTried (told e ws heads) words first place start part = subst (λ (s : ℕ). IsTried (told e ws heads) words first place s part) (loop.4 c.loop-place-test.true) loop.5 in
    let next = c.in-Some.next in
    let there = c.in-Some.ensures in
    let size : c.shape_of-shape.result.size ≡ size_of (header_at e words start) = c.shape_of-shape.ensures.size in
    let had = there.had e ws tables in
    let object = is-next e ws heads bits counts tables words first place start part tried lt next.place (omega (arith, there.place, had)) in
    let seen : c.shape_of-shape.result.size ≡ next.place - place = omega (arith, there.place) in
    now-placed e ws heads bits counts tables words tried.number start object.known object.at loop.1 (omega (arith, size, had))

pub try_slide_object-tried-requires-clause-some : goal.try_slide_object-tried-requires-clause-some
try_slide_object-tried-requires-clause-some c =
    let e = c.args.edition in
    let words = c.args.words.now in
    let heads = c.args.heads.now in
    let bits = c.args.bits.now in
    let counts = c.args.counts.now in
    let first = c.args.first in
    let loop = c.loop-place.invariant in
    let ws = loop.0 in
    let tables = loop.2 in
    let place = c.loop-place.place in
    let start = c.loop-place.start in
    let part = c.loop-place.part in
    let lt : place < length (set_bits bits) = omega arith in
    let tried : IsTried (told e ws heads) words first place start part = subst (λ (s : ℕ). IsTried (told e ws heads) words first place s part) (loop.4 c.loop-place-test.true) loop.5 in
    let next = c.in-Some.next in
    let there = c.in-Some.ensures in
    let size : c.shape_of-shape.result.size ≡ size_of (header_at e words start) = c.shape_of-shape.ensures.size in
    let had = there.had e ws tables in
    let object = is-next e ws heads bits counts tables words first place start part tried lt next.place (omega (arith, there.place, had)) in
    let seen : c.shape_of-shape.result.size ≡ next.place - place = omega (arith, there.place) in
    omega (arith, object.reaches, object.size, seen, c.saturating_sub-from.ensures, c.min-stop.ensures, c.loop-place-test.true)

pub try_slide_object-tried-requires-clause-inside : goal.try_slide_object-tried-requires-clause-inside
try_slide_object-tried-requires-clause-inside c =
    let e = c.args.edition in
    let words = c.args.words.now in
    let heads = c.args.heads.now in
    let bits = c.args.bits.now in
    let counts = c.args.counts.now in
    let first = c.args.first in
    let loop = c.loop-place.invariant in
    let ws = loop.0 in
    let tables = loop.2 in
    let place = c.loop-place.place in
    let start = c.loop-place.start in
    let part = c.loop-place.part in
    let lt : place < length (set_bits bits) = omega arith in
    let tried : IsTried (told e ws heads) words first place start part = subst (λ (s : ℕ). IsTried (told e ws heads) words first place s part) (loop.4 c.loop-place-test.true) loop.5 in
    let next = c.in-Some.next in
    let there = c.in-Some.ensures in
    let size : c.shape_of-shape.result.size ≡ size_of (header_at e words start) = c.shape_of-shape.ensures.size in
    let had = there.had e ws tables in
    let object = is-next e ws heads bits counts tables words first place start part tried lt next.place (omega (arith, there.place, had)) in
    let seen : c.shape_of-shape.result.size ≡ next.place - place = omega (arith, there.place) in
    omega (arith, object.reaches, object.size, seen, size, c.saturating_sub-from.ensures, c.min-stop.ensures, c.loop-place-test.true)

pub returns-in-Err-clause-fault : goal.returns-in-Err-clause-fault
returns-in-Err-clause-fault c =
    λ room.
    let e = c.args.edition in
    let words = c.args.words.now in
    let heads = c.args.heads.now in
    let bits = c.args.bits.now in
    let counts = c.args.counts.now in
    let first = c.args.first in
    let loop = c.loop-place.invariant in
    let ws = loop.0 in
    let tables = loop.2 in
    let place = c.loop-place.place in
    let start = c.loop-place.start in
    let part = c.loop-place.part in
    let lt : place < length (set_bits bits) = omega arith in
    let tried : IsTried (told e ws heads) words first place start part = subst (λ (s : ℕ). IsTried (told e ws heads) words first place s part) (loop.4 c.loop-place-test.true) loop.5 in
    let next = c.in-Some.next in
    let there = c.in-Some.ensures in
    let size : c.shape_of-shape.result.size ≡ size_of (header_at e words start) = c.shape_of-shape.ensures.size in
    let had = there.had e ws tables in
    let object = is-next e ws heads bits counts tables words first place start part tried lt next.place (omega (arith, there.place, had)) in
    let seen : c.shape_of-shape.result.size ≡ next.place - place = omega (arith, there.place) in
    let inside = c.in-Err.ensures.inside in
    let f = c.in-Err.f in
    let offset = c.saturating_sub-from.ensures in
    let ends = c.min-stop.ensures in
    let short : f < c.min-stop.result = omega (arith, inside.0, inside.1) in
    subst (λ (g : Found). IsSlideFault g words first (length c.args.part.now) (Unmarked (start + f))) (found-same e ws heads bits counts (length words) room loop.1 tables)
    (tried-unmarked e ws heads bits counts tables words first place start part tried (get_or (marks_of heads) (tried.number + 1) 0) next.place f object (length c.args.part.now)
    loop.1 c.requires.inside (omega (arith, inside.0, offset)) (omega (arith, short, ends, c.loop-place-test.true)) (omega (arith, short, ends, seen)) inside.2 inside.3 c.in-Err.ensures.unmarked)

pub loop-place-preserved : goal.loop-place-preserved
loop-place-preserved c =
    let e = c.args.edition in
    let words = c.args.words.now in
    let heads = c.args.heads.now in
    let bits = c.args.bits.now in
    let counts = c.args.counts.now in
    let first = c.args.first in
    let loop = c.loop-place.invariant in
    let ws = loop.0 in
    let tables = loop.2 in
    let place = c.loop-place.place in
    let start = c.loop-place.start in
    let part = c.loop-place.part in
    let lt : place < length (set_bits bits) = omega arith in
    let tried : IsTried (told e ws heads) words first place start part = subst (λ (s : ℕ). IsTried (told e ws heads) words first place s part) (loop.4 c.loop-place-test.true) loop.5 in
    let next = c.in-Some.next in
    let there = c.in-Some.ensures in
    let size : c.shape_of-shape.result.size ≡ size_of (header_at e words start) = c.shape_of-shape.ensures.size in
    let had = there.had e ws tables in
    let object = is-next e ws heads bits counts tables words first place start part tried lt next.place (omega (arith, there.place, had)) in
    let seen : c.shape_of-shape.result.size ≡ next.place - place = omega (arith, there.place) in
    let from = c.saturating_sub-from.result in
    let stop = c.min-stop.result in
    let new = c.try_slide_object-tried.new.part in
    let same = found-same e ws heads bits counts (length words) 0 loop.1 tables in
    let whole : (c.shape_of-shape.result.size ≤ stop) ⊎ (first + length part ≤ place + stop) =
    elim (cases_lt stop c.shape_of-shape.result.size) [
      | inl cut ↦ inr (omega (arith, cut, c.min-stop.ensures, loop.6))
      | inr all ↦ inl all
    ] in
    let behind = get_or (marks_of heads) (tried.number + 1) 0 in (
      ws,
      loop.1,
      tables,
      behind,
      λ inside. next-start e ws heads bits counts tables words first place start next.place tried.number object (omega (arith, inside, c.requires.inside)) next.start (there.from inside) (there.none inside) (there.here inside),
      tried-next e ws heads bits counts tables words first place start part tried behind next.place object c.shape_of-shape.result.size from stop (place + from - first) new
          size seen c.saturating_sub-from.ensures (omega (arith, c.min-stop.ensures)) whole refl c.try_slide_object-tried.ensures.length c.in_default-tried.ensures.before
          (λ j less. c.in_default-tried.ensures.written j less ∙ ap (λ (g : Found). get_or (led_words (led_by g) (object_at e words start)) (from + j) 0) (sym same))
          (λ f low high positive few. c.in_default-tried.ensures.marked f low (omega (arith, low, high)) positive few),
      c.try_slide_object-tried.ensures.length ∙ loop.6,
    )

pub returns-clause-words : goal.returns-clause-words
returns-clause-words c =
    λ j lt.
    let e = c.args.edition in
    let words = c.args.words.now in
    let heads = c.args.heads.now in
    let bits = c.args.bits.now in
    let counts = c.args.counts.now in
    let first = c.args.first in
    let loop = c.loop-place.invariant in
    let ws = loop.0 in
    let tables = loop.2 in
    let place = c.loop-place.place in
    let start = c.loop-place.start in
    let part = c.loop-place.part in
    let same = found-same e ws heads bits counts (length words) 0 loop.1 tables in
    let at : j ≡ first + j - first = omega arith in
    ap (λ (n : ℕ). get_or part n 0) at
    ∙ loop.5.made (first + j) (omega arith) (omega (arith, lt, c.loop-place-test.false)) (omega (arith, lt, loop.6))
    ∙ ap (λ (g : Found). get_or (words_now g words) (first + j) 0) same

pub returns-clause-as_found : goal.returns-clause-as_found
returns-clause-as_found c =
    λ room.
    let e = c.args.edition in
    let words = c.args.words.now in
    let heads = c.args.heads.now in
    let bits = c.args.bits.now in
    let counts = c.args.counts.now in
    let first = c.args.first in
    let loop = c.loop-place.invariant in
    let ws = loop.0 in
    let tables = loop.2 in
    let place = c.loop-place.place in
    let start = c.loop-place.start in
    let part = c.loop-place.part in
    let count = length c.args.part.now in
    subst (λ (g : Found). IsAsFound g words first count) (found-same e ws heads bits counts (length words) room loop.1 tables)
    (tried-all e ws heads bits counts tables words first place loop.3 part loop.5 count room (sym loop.6) (omega (arith, c.loop-place-test.false)))
