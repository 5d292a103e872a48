use Rattle.std.proofs.Common.{◌≡◌, ℕ, ◌+◌, ◌<◌, ◌≤◌, List, true, get_or, inl, inr, sym, ap, subst, ◌∙◌, arith}
use Rattle.std.proofs.lemmas.Bool.{cases_lt, cases_order}
use Rattle.heap_layout.specs.declared.edition.Edition.{Edition}
use Rattle.heap_layout.specs.Bits.{bit}
use Rattle.heap_layout.specs.Header.{refs_of, weak_of, size_of}
use Rattle.heap_layout.specs.Heap.{header_at}
use Rattle.young_heap.specs.Cards.{is_dirty}
use Rattle.young_heap.specs.Young.{is_below_led, AreOld}
use Rattle.young_heap.proofs.Gathering.{start-behind}
use Rattle.young_heap.proofs.checking.check_old.Goals as goal

-- a row that goes up to the watermark
whole : (edition : Edition) (words starts : List ℕ) (end old : ℕ) → AreOld edition words starts end → end ≤ old → old ≤ end
    → AreOld edition words starts old
whole edition words starts end old row le ge =
    let same : end ≡ old = omega (arith, le, ge) in
    subst (AreOld edition words starts) same row

-- of the objects that start before the end of this one, only this one does not start before it
only : (edition : Edition) (words starts : List ℕ) (old : ℕ) → AreOld edition words starts old → (i j : ℕ) → bit starts i ≡ true → bit starts j ≡ true
    → i ≤ j → j < i + size_of (header_at edition words i) → j < old → j ≡ i
only edition words starts old row i j one two le below low = elim (cases_order j i) [
  | inl same ↦ same
  | inr (inl less) ↦ absurd (omega (arith, less, le))
  | inr (inr more) ↦ absurd (let apart = row.apart i j one two more low in omega (arith, apart, below))
]

pub returns-in-Err-clause-fault : goal.returns-in-Err-clause-fault
returns-in-Err-clause-fault c =
    let e = c.args.edition in
    let words = c.args.words.now in
    let starts = c.args.starts.now in
    let found = c.in-Err.ensures in
    let lt = c.loop-i-test.true in
    let shape = c.shape_of-shape.ensures in (
      whole e words starts c.row_end-end.result c.args.old c.row_end-end.ensures.row c.row_end-end.ensures.within c.if-end-old.false,
      record {
        word = (c.loop-i.i, lt, c.loop-i.invariant.here lt, omega (arith, found.number.0), omega (arith, found.number.1, shape.refs, shape.weak));
        clean = found.clean;
        above = found.above;
      },
    )

pub loop-i-preserved : goal.loop-i-preserved
loop-i-preserved c =
    let e = c.args.edition in
    let words = c.args.words.now in
    let starts = c.args.starts.now in
    let cards = c.args.cards.now in
    let old = c.args.old in
    let i = c.loop-i.i in
    let is = c.loop-i.invariant in
    let lt = c.loop-i-test.true in
    let set = is.here lt in
    let shape = c.shape_of-shape.ensures in
    let row = whole e words starts c.row_end-end.result old c.row_end-end.ensures.row c.row_end-end.ensures.within c.if-end-old.false in
    let inside = row.inside i lt set in
    let end : i + c.shape_of-shape.result.size ≡ i + size_of (header_at e words i) = omega (arith, shape.size) in
    record {
      within = omega (arith, end, inside);
      here = λ more. ap (bit starts) end ∙ start-behind e words starts old row i lt set (omega (arith, more, end));
      clean = λ k f low there from to clean. elim (cases_lt k i) [
        | inl before ↦ is.clean k f before there from to clean
        | inr at ↦
            let same = only e words starts old row i k set there at (omega (arith, low, end)) (omega (arith, low, end, inside)) in
            let refs = ap (λ (n : ℕ). refs_of (header_at e words n)) same in
            subst (λ (n : ℕ). is_below_led e starts old (get_or words (n + f) 0) ≡ true) (sym same)
            (c.in_default.ensures.all f from (omega (arith, to, refs, shape.refs, shape.weak)) (ap (λ (n : ℕ). is_dirty cards (n + f)) (sym same) ∙ clean))
      ];
      weak = λ k f low there from to clean. elim (cases_lt k i) [
        | inl before ↦ is.weak k f before there from to clean
        | inr at ↦
            let same = only e words starts old row i k set there at (omega (arith, low, end)) (omega (arith, low, end, inside)) in
            let refs = ap (λ (n : ℕ). refs_of (header_at e words n)) same in
            let weak = ap (λ (n : ℕ). weak_of (header_at e words n)) same in
            subst (λ (n : ℕ). is_below_led e starts old (get_or words (n + f) 0) ≡ true) (sym same)
            (c.in_default.ensures.all f (omega (arith, from)) (omega (arith, to, refs, weak, shape.refs, shape.weak)) (ap (λ (n : ℕ). is_dirty cards (n + f)) (sym same) ∙ clean))
      ];
    }

pub returns-clause-clean : goal.returns-clause-clean
returns-clause-clean c =
    let is = c.loop-i.invariant in
    record {
      clean = λ i f low set from to clean. is.clean i f (omega (arith, low, c.loop-i-test.false)) set from to clean;
      weak = λ i f low set from to clean. is.weak i f (omega (arith, low, c.loop-i-test.false)) set from to clean;
    }
