use Rattle.std.proofs.Common.{◌≡◌, ℕ, ◌+◌, ◌-◌, ◌≤◌, get_or, inl, inr, refl, sym, ap, ◌∙◌, arith, rules}
use Rattle.std.proofs.lemmas.Bool.{cases_lt}
use Rattle.heap_layout.specs.Header.{refs_of, weak_of}
use Rattle.heap_layout.specs.Heap.{header_at, live, object_at}
use Rattle.rest_slide.specs.Settled.{settled}
use Rattle.rest_marks.specs.Surveys.{told}
use Rattle.rest_marks.proofs.Bounding.{bit-inside}
use Rattle.rest_slide.proofs.Filling.{filled-next, before-kept, live-placed, live-value}
use Rattle.rest_slide.proofs.Settling.{settled-header, settled-refers, settled-data, led-settled, kept-settled, target-known}
use Rattle.rest_slide.proofs.sliding.slide_object.Goals as goal
use Rattle.rest_slide.proofs.sliding.slide_object.Goals.{then-at-eq0, else-at-eq0}

pub bounds-words-start : goal.bounds-words-start
bounds-words-start c =
    let placed = live-placed c.args.edition c.args.words.now c.args.heads.now c.args.bits.now c.args.counts.now c.requires.tables c.args.start c.requires.head in
    omega (arith, placed.within)

pub loop-at-init : goal.loop-at-init
loop-at-init c =
    let expected = settled (live (told c.args.edition c.args.words.now c.args.heads.now)) (object_at c.args.edition c.args.words.now c.args.start) in
    let part = c.args.part.now in
    let begin = c.args.begin in
    let header = settled-header c.args.edition (live (told c.args.edition c.args.words.now c.args.heads.now)) c.args.words.now c.args.start in
    elim c.if-at-eq0.branch [
      | then-at-eq0 w ↦
          let zero_from : c.args.from ≡ 0 = w.if-at-eq0.true in
          let here : begin + (0 - 0) ≡ begin = omega arith in
          let made = filled-next expected begin 0 0 part (get_or c.args.words.now c.args.start 0) (omega arith) (omega (arith, c.requires.room, c.requires.some)) (λ j lt. absurd (omega (arith, lt))) (sym header) in
          rw (w.part-is, w.at-is, zero_from) (record {
            from = omega arith;
            some = omega arith;
            before = omega (arith, c.requires.some);
            long = search rules;
            kept = λ k lt. rw here at (before-kept begin (0 - 0) (get_or c.args.words.now c.args.start 0) part part (λ n less. refl)) k lt;
            made = rw here at made;
          })
      | else-at-eq0 w ↦
          let positive = w.if-at-eq0.false in
          rw (w.part-is, w.at-is) (record {
            from = omega arith;
            some = omega (arith, positive);
            before = omega (arith, c.requires.some);
            long = refl;
            kept = λ k lt. refl;
            made = λ j lt. absurd (omega (arith, lt));
          })
    ]

pub bounds-words-start-in-loop-at : goal.bounds-words-start-in-loop-at
bounds-words-start-in-loop-at c =
    let placed = live-placed c.args.edition c.args.words.now c.args.heads.now c.args.bits.now c.args.counts.now c.requires.tables c.args.start c.requires.head in
    omega (arith, placed.within, c.loop-at-test.true, c.min-stop.ensures, c.requires.inside)

pub settled_reference-requires-clause-known : goal.settled_reference-requires-clause-known
settled_reference-requires-clause-known c = λ plain.
    let e = c.args.edition in
    let words = c.args.words.now in
    let heads = c.args.heads.now in
    let bits = c.args.bits.now in
    let refs = c.requires.refs in
    let led = live-value e words heads bits c.args.counts.now c.requires.tables c.args.start c.requires.head c.loop-at.at c.loop-at.invariant.some (omega (arith, refs, c.loop-at-test.true, c.min-stop.ensures)) in
    let inside = bit-inside heads c.args.start c.requires.head in
    target-known e words heads bits c.args.counts.now c.requires.tables _ led plain (omega (arith, inside, c.requires.tables.same))

pub loop-at-preserved : goal.loop-at-preserved
loop-at-preserved c =
    let e = c.args.edition in
    let words = c.args.words.now in
    let heads = c.args.heads.now in
    let bits = c.args.bits.now in
    let counts = c.args.counts.now in
    let start = c.args.start in
    let at = c.loop-at.at in
    let invariant = c.loop-at.invariant in
    let objects = live (told e words heads) in
    let expected = settled objects (object_at e words start) in
    let placed = live-placed e words heads bits counts c.requires.tables start c.requires.head in
    let refs = c.requires.refs in
    let few : at ≤ refs_of (header_at e words start) = omega (arith, refs, c.loop-at-test.true, c.min-stop.ensures) in
    let led = live-value e words heads bits counts c.requires.tables start c.requires.head at invariant.some few in
    let value = c.settled_reference.ensures ∙ led-settled e words heads bits counts c.requires.tables _ led
    ∙ sym (settled-refers e objects words start at placed invariant.some (omega (arith, few))) in
    record {
      from = omega (arith, invariant.from);
      some = omega arith;
      before = omega (arith, c.loop-at-test.true, c.min-stop.ensures);
      long = search rules;
      kept = before-kept c.args.begin (at - c.args.from) c.settled_reference.result c.loop-at.part c.args.part.now invariant.kept;
      made = filled-next expected c.args.begin c.args.from at c.loop-at.part c.settled_reference.result invariant.from
          (omega (arith, invariant.long, c.requires.room, c.loop-at-test.true, c.min-stop.ensures, invariant.from)) invariant.made value;
    }

pub bounds-words-start-in-loop-at-2 : goal.bounds-words-start-in-loop-at-2
bounds-words-start-in-loop-at-2 c =
    let placed = live-placed c.args.edition c.args.words.now c.args.heads.now c.args.bits.now c.args.counts.now c.requires.tables c.args.start c.requires.head in
    omega (arith, placed.within, c.loop-at-2-test.true, c.min-last.ensures, c.requires.inside)

pub loop-at-2-preserved : goal.loop-at-2-preserved
loop-at-2-preserved c =
    let e = c.args.edition in
    let words = c.args.words.now in
    let heads = c.args.heads.now in
    let bits = c.args.bits.now in
    let counts = c.args.counts.now in
    let start = c.args.start in
    let at = c.loop-at-2.at in
    let invariant = c.loop-at-2.invariant in
    let objects = live (told e words heads) in
    let expected = settled objects (object_at e words start) in
    let placed = live-placed e words heads bits counts c.requires.tables start c.requires.head in
    let refs = c.requires.refs in
    let weak = c.requires.weak in
    let value = c.settled_weak.ensures ∙ kept-settled e words heads bits counts c.requires.tables _
    ∙ sym (settled-refers e objects words start at placed invariant.some (omega (arith, refs, weak, c.loop-at-2-test.true, c.min-last.ensures))) in
    record {
      from = omega (arith, invariant.from);
      some = omega arith;
      before = omega (arith, c.loop-at-2-test.true, c.min-last.ensures);
      references = λ more. omega (arith, invariant.references (omega (arith, more)));
      long = search rules;
      kept = before-kept c.args.begin (at - c.args.from) c.settled_weak.result c.loop-at-2.part c.args.part.now invariant.kept;
      made = filled-next expected c.args.begin c.args.from at c.loop-at-2.part c.settled_weak.result invariant.from
          (omega (arith, invariant.long, c.requires.room, c.loop-at-2-test.true, c.min-last.ensures, invariant.from)) invariant.made value;
    }

pub copy_in-requires-clause-known : goal.copy_in-requires-clause-known
copy_in-requires-clause-known c =
    let placed = live-placed c.args.edition c.args.words.now c.args.heads.now c.args.bits.now c.args.counts.now c.requires.tables c.args.start c.requires.head in
    omega (arith, placed.within, c.if-at-end.true, c.requires.inside)

pub returns-then-at-end-clause-written : goal.returns-then-at-end-clause-written
returns-then-at-end-clause-written c = λ j lt.
    let e = c.args.edition in
    let words = c.args.words.now in
    let heads = c.args.heads.now in
    let start = c.args.start in
    let from = c.args.from in
    let at = c.loop-at-2.at in
    let invariant = c.loop-at-2.invariant in
    let objects = live (told e words heads) in
    elim (cases_lt (from + j) at) [
      | inl low ↦ c.copy_in.ensures.before (c.args.begin + j) (omega (arith, low)) ∙ invariant.made j low
      | inr high ↦
          let placed = live-placed e words heads c.args.bits.now c.args.counts.now c.requires.tables start c.requires.head in
          let refs = c.requires.refs in
          let weak = c.requires.weak in
          let k = from + j - at in
          let place : c.args.begin + j ≡ c.args.begin + (at - from) + k = omega (arith, high, invariant.from) in
          let word : start + at + k ≡ start + (from + j) = omega (arith, high) in
          let data_from : 1 + refs_of (header_at e words start) + weak_of (header_at e words start) ≤ from + j =
          omega (arith, refs, weak, high, c.loop-at-2-test.false, c.min-last.ensures, c.if-at-end.true) in
          ap (λ (n : ℕ). get_or c.copy_in.new.part n 0) place ∙ c.copy_in.ensures.written k (omega (arith, lt, high))
          ∙ ap (λ (n : ℕ). get_or words n 0) word
          ∙ sym (settled-data e objects words start (from + j) placed data_from (omega (arith, lt, c.requires.inside)))
    ]
