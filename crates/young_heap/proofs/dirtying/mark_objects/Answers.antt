use Rattle.std.proofs.Common.{ℕ, ◌+◌, ◌<◌, ◌≤◌, inl, inr, ap, ◌∙◌, arith}
use Rattle.std.proofs.lemmas.Bool.{both_ways, cases_order}
use Rattle.heap_layout.specs.Bits.{bit}
use Rattle.heap_layout.specs.Header.{refs_of, weak_of}
use Rattle.heap_layout.specs.Heap.{header_at}
use Rattle.young_heap.specs.Dirty.{IsWordFrom, LeadsAbove}
use Rattle.young_heap.proofs.Made.{marked-as, marked-both, marked-none}
use Rattle.young_heap.proofs.dirtying.mark_objects.Goals as goal

pub loop-start-init : goal.loop-start-init
loop-start-init c =
    let first = c.first_start-start.ensures in
    record {
      marked = marked-none c.args.cards.now _ (λ n is. both_ways (bit c.args.starts.now is.0.0.0)
          (first.none is.0.0.0 is.0.0.1 is.0.0.2) is.0.0.3);
      from_is = first.from;
      to_is = first.to;
      here = first.here;
      long = omega arith;
    }

pub loop-start-preserved : goal.loop-start-preserved
loop-start-preserved c =
    let e = c.args.edition in
    let words = c.args.words.now in
    let starts = c.args.starts.now in
    let from = c.args.from in
    let old = c.args.old in
    let above = LeadsAbove e words starts old in
    let start = c.loop-start.start in
    let is = c.loop-start.invariant in
    let next = c.first_start-start-in-loop-start.result in
    let found = c.first_start-start-in-loop-start.ensures in
    let lt : start < old = omega (arith, c.loop-start-test.true) in
    let shape = c.shape_of-shape.ensures in
    let end = c.min-end.result in
    let end_is = c.min-end.ensures in
    record {
      marked = marked-both c.args.cards.now c.loop-start.cards c.mark_words.new.cards
          (λ n. (IsWordFrom e words starts from start n × (n < old)) × above n) (λ n. (start + 1 ≤ n) × (n < end) × above n)
          (λ n. (IsWordFrom e words starts from next n × (n < old)) × above n)
          is.marked c.mark_words.ensures.marked
          (λ n of. let i = of.0.0.0 in elim (cases_order i start) [
            | inr (inl before) ↦ inl (((i, of.0.0.1, before, of.0.0.3, of.0.0.4, of.0.0.5), of.0.1), of.1)
            | inl same ↦
                let refs = ap (λ (k : ℕ). refs_of (header_at e words k)) same in
                let weak = ap (λ (k : ℕ). weak_of (header_at e words k)) same in
                inr (omega (arith, same, of.0.0.4), omega (arith, same, of.0.0.5, of.0.1, refs, weak, shape.refs, shape.weak, end_is), of.1)
            | inr (inr behind) ↦ absurd (both_ways (bit starts i) (found.none i (omega (arith, behind)) of.0.0.2) of.0.0.3)
          ])
          (λ n of. (((of.0.0.0, of.0.0.1, omega (arith, of.0.0.2, found.from), of.0.0.3, of.0.0.4, of.0.0.5), of.0.1), of.1))
          (λ n of. (
            (
              (start, is.from_is, omega (arith, found.from), is.here lt, omega (arith, of.0), omega (arith, of.1, shape.refs, shape.weak, end_is)),
              omega (arith, of.1, end_is),
            ),
            of.2,
          ));
      from_is = omega (arith, is.from_is, found.from);
      to_is = found.to;
      here = found.here;
      long = c.mark_words.ensures.length ∙ is.long;
    }

pub loop-start-smaller : goal.loop-start-smaller
loop-start-smaller c = omega (arith, c.loop-start-test.true, c.first_start-start-in-loop-start.ensures.from)

pub returns-clause-marked : goal.returns-clause-marked
returns-clause-marked c =
    let e = c.args.edition in
    let words = c.args.words.now in
    let starts = c.args.starts.now in
    let from = c.args.from in
    let old = c.args.old in
    let above = LeadsAbove e words starts old in
    let start = c.loop-start.start in
    let is = c.loop-start.invariant in
    marked-as c.args.cards.now c.loop-start.cards (λ n. (IsWordFrom e words starts from start n × (n < old)) × above n)
    (λ n. (IsWordFrom e words starts from old n × (n < old)) × above n) is.marked
    (λ n of. (((of.0.0.0, of.0.0.1, omega (arith, of.0.0.2, c.loop-start-test.false), of.0.0.3, of.0.0.4, of.0.0.5), of.0.1), of.1))
    (λ n of. (((of.0.0.0, of.0.0.1, omega (arith, of.0.0.2, is.to_is), of.0.0.3, of.0.0.4, of.0.0.5), of.0.1), of.1))
