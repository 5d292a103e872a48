use Rattle.std.proofs.Common.{◌≡◌, ◌+◌, ◌/◌, ℕ, length, ap, ◌∙◌, arith}
use Rattle.std.proofs.lemmas.List.{length-replicate}
use Rattle.rest_marks.proofs.Grown.{grown-none, marks-none}
use Rattle.stopped_heap.proofs.growing.Growing.begin_lent.Goals as goal

pub invariant_of-result : goal.invariant_of-result
invariant_of-result c =
    let n = c.div_ceil-blocks.result in
    let long : n ≡ (length c.args.words.now + 63) / 64 = omega (arith, c.div_ceil-blocks.ensures) in
    let heads_long : length c.clear.new.bits.items ≡ n = ap length c.clear.ensures.items ∙ length-replicate {A = ℕ} n 0 in
    let bits_long : length c.clear-2.new.bits.items ≡ n = ap length c.clear-2.ensures.items ∙ length-replicate {A = ℕ} n 0 in (
      rw c.clear-3.ensures.items (grown-none c.args.edition c.args.words.now c.clear.new.bits.items c.clear-2.new.bits.items n
          (omega (arith, c.if-words-max_words.false, c.max_words.ensures)) long c.clear.ensures.items c.clear-2.ensures.items),
      record {
        for_heads = omega (arith, c.tables.invariant.0.for_heads, c.clear.ensures.capacity);
        for_bits = omega (arith, c.tables.invariant.0.for_bits, c.clear-2.ensures.capacity);
        for_counts = c.tables.invariant.0.for_counts;
        for_queue = omega (arith, c.tables.invariant.0.for_queue, c.clear-3.ensures.capacity);
      },
      omega (arith, bits_long, long, c.tables.invariant.0.for_counts, c.if-words-tables.false),
      omega (arith, heads_long, long, c.tables.invariant.1, c.if-words-tables.false),
      c.tables.invariant.1,
    )

pub returns-clause-none : goal.returns-clause-none
returns-clause-none c = marks-none c.clear.new.bits.items c.div_ceil-blocks.result c.clear.ensures.items
