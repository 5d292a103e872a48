use Rattle.std.proofs.Common.{◌≡◌, ℕ, Bool, ◌+◌, ◌-◌, ◌≤◌, get_or, inl, inr, sym, ap, subst, ◌∙◌, arith, rules, length}
use Rattle.std.proofs.lemmas.Bool.{cases_lt}
use Rattle.heap_layout.specs.Header.{refs_of, weak_of}
use Rattle.heap_layout.specs.Heap.{header_at, object_at, IsValue}
use Rattle.heap_layout.specs.Values.{or_immediate}
use Rattle.mark_tables.specs.MarkBitmap.{set_bits}
use Rattle.rest_marks.specs.Places.{found_in, led_by, led_words}
use Rattle.rest_marks.specs.Surveys.{marks_of}
use Rattle.rest_slide.proofs.Filling.{filled-next, before-kept}
use Rattle.rest_marks.proofs.Heads.{heads-lead}
use Rattle.rest_slide.proofs.Led.{led-refers, led-data}
use Rattle.rest_slide.proofs.Placing.{kept-led}
use Rattle.rest_slide.proofs.trying.try_slide_object.Goals as goal

pub returns-then-not-leads_to-clause-unmarked : goal.returns-then-not-leads_to-clause-unmarked
returns-then-not-leads_to-clause-unmarked c =
    let word = get_or c.args.words.now (c.args.start + c.loop-at.at) 0 in
    sym (ap (λ (test : ℕ → Bool). or_immediate c.args.edition test word) (heads-lead c.args.heads.now)) ∙ sym c.leads_to.ensures ∙ c.if-not-leads_to.true

pub loop-at-preserved : goal.loop-at-preserved
loop-at-preserved c =
    let e = c.args.edition in
    let words = c.args.words.now in
    let heads = c.args.heads.now in
    let indices = set_bits c.args.bits.now in
    let start = c.args.start in
    let at = c.loop-at.at in
    let invariant = c.loop-at.invariant in
    let led = led_by (found_in e (length words) heads c.args.bits.now 0) in
    let expected = led_words led (object_at e words start) in
    let word = get_or words (start + at) 0 in
    let few : at ≤ refs_of (header_at e words start) = omega (arith, c.requires.refs, c.loop-at-test.true, c.min-stop.ensures) in
    let value : IsValue e (marks_of heads) word =
    sym (ap (λ (test : ℕ → Bool). or_immediate e test word) (heads-lead heads)) ∙ sym c.leads_to.ensures ∙ c.if-not-leads_to.false in
    let there = c.settled_weak.ensures ∙ kept-led e heads indices (length words) 0 word
    ∙ sym (led-refers led e words start at c.requires.placed invariant.some (omega (arith, few))) in
    record {
      from = omega (arith, invariant.from);
      some = omega arith;
      before = omega (arith, c.loop-at-test.true, c.min-stop.ensures);
      long = search rules;
      kept = before-kept c.args.begin (at - c.args.from) c.settled_weak.result c.loop-at.part c.args.part.now invariant.kept;
      marked = λ f low high positive refs. elim (cases_lt f at) [
        | inl earlier ↦ invariant.marked f low earlier positive refs
        | inr here ↦ (let same : f ≡ at = omega (arith, high, here) in subst (λ (m : ℕ). IsValue e (marks_of heads) (get_or words (start + m) 0)) (sym same) value)
      ];
      made = filled-next expected c.args.begin c.args.from at c.loop-at.part c.settled_weak.result invariant.from
          (omega (arith, invariant.long, c.requires.room, c.loop-at-test.true, c.min-stop.ensures, invariant.from)) invariant.made there;
    }

pub loop-at-2-preserved : goal.loop-at-2-preserved
loop-at-2-preserved c =
    let e = c.args.edition in
    let words = c.args.words.now in
    let heads = c.args.heads.now in
    let indices = set_bits c.args.bits.now in
    let start = c.args.start in
    let at = c.loop-at-2.at in
    let invariant = c.loop-at-2.invariant in
    let led = led_by (found_in e (length words) heads c.args.bits.now 0) in
    let expected = led_words led (object_at e words start) in
    let there = c.settled_weak-in-loop-at-2.ensures ∙ kept-led e heads indices (length words) 0 (get_or words (start + at) 0)
    ∙ sym (led-refers led e words start at c.requires.placed invariant.some (omega (arith, c.requires.refs, c.requires.weak, c.loop-at-2-test.true, c.min-last.ensures))) in
    record {
      from = omega (arith, invariant.from);
      some = omega arith;
      before = omega (arith, c.loop-at-2-test.true, c.min-last.ensures);
      references = λ more. omega (arith, invariant.references (omega (arith, more)));
      long = search rules;
      kept = before-kept c.args.begin (at - c.args.from) c.settled_weak-in-loop-at-2.result c.loop-at-2.part c.args.part.now invariant.kept;
      marked = invariant.marked;
      made = filled-next expected c.args.begin c.args.from at c.loop-at-2.part c.settled_weak-in-loop-at-2.result invariant.from
          (omega (arith, invariant.long, c.requires.room, c.loop-at-2-test.true, c.min-last.ensures, invariant.from)) invariant.made there;
    }

pub returns-then-at-end-clause-written : goal.returns-then-at-end-clause-written
returns-then-at-end-clause-written c = λ j lt.
    let e = c.args.edition in
    let words = c.args.words.now in
    let start = c.args.start in
    let from = c.args.from in
    let at = c.loop-at-2.at in
    let invariant = c.loop-at-2.invariant in
    let led = led_by (found_in e (length words) c.args.heads.now c.args.bits.now 0) in
    elim (cases_lt (from + j) at) [
      | inl low ↦ c.copy_in.ensures.before (c.args.begin + j) (omega (arith, low)) ∙ invariant.made j low
      | inr high ↦
          let k = from + j - at in
          let place : c.args.begin + j ≡ c.args.begin + (at - from) + k = omega (arith, high, invariant.from) in
          let word : start + at + k ≡ start + (from + j) = omega (arith, high) in
          let data_from : 1 + refs_of (header_at e words start) + weak_of (header_at e words start) ≤ from + j =
          omega (arith, c.requires.refs, c.requires.weak, high, c.loop-at-2-test.false, c.min-last.ensures, c.if-at-end.true) in
          ap (λ (n : ℕ). get_or c.copy_in.new.part n 0) place ∙ c.copy_in.ensures.written k (omega (arith, lt, high))
          ∙ ap (λ (n : ℕ). get_or words n 0) word
          ∙ sym (led-data led e words start (from + j) c.requires.placed data_from (omega (arith, lt, c.requires.inside)))
    ]
