use Rattle.std.proofs.Common.{◌≡◌, ℕ, ◌+◌, ◌<◌, min, inl, inr, sym, ap, subst, ◌∙◌, arith}
use Rattle.std.proofs.lemmas.Bool.{both_ways, cases_eq}
use Rattle.heap_layout.specs.Bits.{bit}
use Rattle.heap_layout.specs.Header.{size_of}
use Rattle.heap_layout.specs.Heap.{header_at}
use Rattle.young_heap.specs.Rows.{IsInRow, here, behind}
use Rattle.young_heap.proofs.Walking.{row-some, row-cases, row-cut, row-back}
use Rattle.young_heap.proofs.promoting.mark_starts.Goals as goal

pub loop-i-init : goal.loop-i-init
loop-i-init c = record {
  below = c.clear_from.ensures.below;
  from = omega arith;
  starts = λ j le set. absurd (both_ways (bit c.clear_from.new.bits j) (c.clear_from.ensures.none j le) set);
  path = λ j row. row;
  all = λ j row. inr row;
  long = c.clear_from.ensures.length;
}

pub loop-i-preserved : goal.loop-i-preserved
loop-i-preserved c =
    let e = c.args.edition in
    let words = c.args.words.now in
    let live = c.args.live in
    let old = c.args.old in
    let i = c.loop-i.i in
    let before = c.loop-i.heads in
    let after = c.set.new.bits in
    let next = i + size_of (header_at e words i) in
    let lt : i < live = omega (arith, c.loop-i-test.true) in
    let is = c.loop-i.invariant in
    let end : c.end_of-i.result ≡ min next live = c.end_of-i.ensures.end in
    record {
      below = λ j low. c.set.ensures.elsewhere j (λ same. omega (arith, same, low, is.from)) ∙ is.below j low;
      from = omega (arith, is.from, c.end_of-i.ensures.up);
      starts = λ j le set. elim (cases_eq j i) [
        | inl same ↦ subst (IsInRow e words live old) (sym same) (is.path i (here i lt))
        | inr other ↦ is.starts j le (sym (c.set.ensures.elsewhere j other) ∙ set)
      ];
      path = λ j row. is.path j (behind i j lt (row-cut e words live next j (subst (λ (n : ℕ). IsInRow e words live n j) end row)));
      all = λ j row. elim (is.all j row) [
        | inl set ↦ inl (elim (cases_eq j i) [
          | inl same ↦ ap (bit after) same ∙ c.set.ensures.here
          | inr other ↦ c.set.ensures.elsewhere j other ∙ set
        ])
        | inr left ↦ elim (row-cases e words live i j left) [
          | inl same ↦ inl (ap (bit after) same ∙ c.set.ensures.here)
          | inr rest ↦ inr (subst (λ (n : ℕ). IsInRow e words live n j) (sym end) (row-back e words live next j rest))
        ]
      ];
      long = c.set.ensures.length ∙ is.long;
    }

pub loop-i-smaller : goal.loop-i-smaller
loop-i-smaller c = omega (arith, c.loop-i-test.true, c.end_of-i.ensures.up)

pub returns-clause-all : goal.returns-clause-all
returns-clause-all c = λ j row. elim (c.loop-i.invariant.all j row) [
  | inl set ↦ set
  | inr left ↦ absurd (let some = row-some c.args.edition c.args.words.now c.args.live c.loop-i.i j left in omega (arith, some, c.loop-i-test.false))
]
