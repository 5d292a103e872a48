use Rattle.std.proofs.Common.{List, ℕ, subst, arith}
use Rattle.rest_marks.specs.Starts.{AreStarts}
use Rattle.stopped_heap.proofs.survey.Survey.of.Goals as goal

pub invariant_of-result : goal.invariant_of-result
invariant_of-result c = (
  c.in_ok-heads.ensures.tables,
  record {
    for_heads = omega arith;
    for_bits = omega arith;
    for_counts = omega (arith, c.in_ok-heads.ensures.tables.offsets.long);
    for_queue = omega arith;
  },
  subst (λ (hs : List ℕ). AreStarts hs c.in_ok-starts.starts.items) c.deref.ensures.value c.in_ok-starts.ensures,
  omega arith,
  c.in_ok-heads.ensures.long,
)
