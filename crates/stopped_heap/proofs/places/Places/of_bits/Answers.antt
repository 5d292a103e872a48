use Rattle.std.proofs.Common.{ℕ, ◌<◌, Bool, List, length, get_or, sym, ap, subst, ◌∙◌, arith}
use Rattle.std.proofs.lemmas.List.{get_or_default}
use Rattle.heap_layout.specs.declared.edition.Edition.{Edition}
use Rattle.heap_layout.specs.Heap.{IsValue}
use Rattle.heap_layout.specs.Values.{or_immediate}
use Rattle.rest_marks.specs.Marks.{AllKept}
use Rattle.rest_marks.specs.Surveys.{marks_of}
use Rattle.stopped_heap.proofs.GivenBits.{tables-there, tables-found}
use Rattle.rest_marks.proofs.Heads.{heads-lead}
use Rattle.stopped_heap.proofs.places.Places.of_bits.Goals as goal

-- a word that was kept is an immediate, null, or the address of a marked object
kept-value : (edition : Edition) (heads from : List ℕ) → AllKept edition heads from → (k d : ℕ) → k < length from → IsValue edition (marks_of heads) (get_or from k d)
kept-value edition heads from all k d lt =
    subst (IsValue edition (marks_of heads)) (get_or_default from k 0 d lt)
    (ap (λ (test : ℕ → Bool). or_immediate edition test (get_or from k 0)) (sym (heads-lead heads)) ∙ all k lt)

pub invariant_of-result : goal.invariant_of-result
invariant_of-result c =
    let heads = c.args.heads.now in
    let bits = c.args.bits.now in
    let asked = c.in_ok-check_bits.ensures in
    rw (c.in_ok-own_heads.ensures.items, c.in_ok-own_bits.ensures.items) (
      tables-there c.args.count heads bits asked.taken.runs c.args.edition asked.taken.sizes.0.1 asked.long c.in_ok-counts.counts.items
          (omega (arith, asked.heads, asked.bits)) (omega (arith, asked.bits)) c.in_ok-counts.ensures,
      record { for_heads = omega arith; for_bits = omega arith; for_counts = omega (arith, c.in_ok-counts.ensures.long); for_queue = omega arith },
      c.in_ok-starts.ensures,
      omega arith,
    )

pub returns-clause-found : goal.returns-clause-found
returns-clause-found c =
    let heads = c.args.heads.now in
    let bits = c.args.bits.now in
    let asked = c.in_ok-check_bits.ensures in
    let tables = tables-there c.args.count heads bits asked.taken.runs c.args.edition asked.taken.sizes.0.1 asked.long c.in_ok-counts.counts.items
    (omega (arith, asked.heads, asked.bits)) (omega (arith, asked.bits)) c.in_ok-counts.ensures in
    rw (c.in_ok-own_heads.ensures.items, c.in_ok-own_bits.ensures.items) (tables-found c.args.edition c.args.count heads bits c.in_ok-counts.counts.items 0 tables)

pub returns-clause-roots : goal.returns-clause-roots
returns-clause-roots c = rw c.in_ok-own_heads.ensures.items (kept-value c.args.edition c.args.heads.now c.args.roots.now c.in_ok-check_bits.ensures.taken.roots_lead)
