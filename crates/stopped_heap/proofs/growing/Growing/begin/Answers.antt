use Rattle.std.proofs.Common.{◌≡◌, ◌+◌, ◌/◌, length, replicate, ap, ◌∙◌, arith, ℕ}
use Rattle.std.proofs.lemmas.List.{length-replicate}
use Rattle.rest_marks.proofs.Grown.{grown-none, marks-none}
use Rattle.stopped_heap.proofs.growing.Growing.begin.Goals as goal

pub invariant_of-result : goal.invariant_of-result
invariant_of-result c =
    let n = c.div_ceil-blocks.result in
    let long : n ≡ (length c.args.words.now + 63) / 64 = omega (arith, c.div_ceil-blocks.ensures) in
    let heads_are : c.in_ok-heads.heads.items ≡ replicate n 0 = c.in_ok-heads.ensures.items_if_clones_equal (λ y same. same) in
    let bits_are : c.in_ok-bits.bits.items ≡ replicate n 0 = c.in_ok-bits.ensures.items_if_clones_equal (λ y same. same) in
    let heads_long : length c.in_ok-heads.heads.items ≡ n = ap length heads_are ∙ length-replicate {A = ℕ} n 0 in
    let bits_long : length c.in_ok-bits.bits.items ≡ n = ap length bits_are ∙ length-replicate {A = ℕ} n 0 in (
      rw c.new.ensures.items (grown-none c.args.edition c.args.words.now c.in_ok-heads.heads.items c.in_ok-bits.bits.items n
          (omega (arith, c.if-words-max_words.false, c.max_words.ensures)) long heads_are bits_are),
      record { for_heads = omega arith; for_bits = omega arith; for_counts = omega (arith, c.in_ok-counts.ensures.capacity); for_queue = omega arith },
      omega (arith, bits_long, c.in_ok-counts.ensures.capacity),
      omega (arith, heads_long, c.in_ok-starts.ensures.capacity),
      omega arith,
    )

pub returns-clause-none : goal.returns-clause-none
returns-clause-none c =
    marks-none c.in_ok-heads.heads.items c.div_ceil-blocks.result (c.in_ok-heads.ensures.items_if_clones_equal (λ y same. same))
