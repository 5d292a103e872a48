use Rattle.std.proofs.Common.{ℕ, ◌^◌, ◌≤◌, min, List, length, drop, ap, ◌∙◌, arith}
use Rattle.std.proofs.lemmas.List.{take_at}
use Rattle.heap_layout.specs.Bits.{bit}
use Rattle.heap_layout.proofs.Bounds.{words_most}
use Rattle.young_heap.proofs.Raised.{broken-no-row, raised-old}
use Rattle.young_heap.proofs.Watermarks.{other-tables}
use Rattle.young_heap.proofs.old_tables.OldTables.raise.Goals as goal

pub returns-in-Err-clause-only : goal.returns-in-Err-clause-only
returns-in-Err-clause-only c =
    rw (← c.self.view_is) (λ can.
    broken-no-row c.args.edition c.args.words.now c.self.inside.watermark c.args.end c.in-Err.i c.in-Err.ensures.broken can.row)

pub invariant_of-self : goal.invariant_of-self
invariant_of-self c =
    let before = c.self.inside in
    let now = c.promote_within.new in
    let is = c.promote_within.ensures in
    let long = is.heads_long ∙ c.deref_mut.ensures.len in
    let long_bits = is.bits_long ∙ c.deref_mut-2.ensures.len in
    let long_counts = is.counts_long ∙ c.deref_mut-3.ensures.len in
    let few = words_most c.args.edition in
    let end = c.args.end in
    let within : end ≤ min before.room (2 ^ 31) =
    omega (arith, few, c.max_words.ensures, c.if-words-max_words.false, c.if-words-self.false, c.if-words-end.false) in
    rw (
      take_at now.heads (drop (length now.heads) before.heads.items) before.heads.len long,
      take_at now.bits (drop (length now.bits) before.bits.items) before.bits.len long_bits,
      take_at now.counts (drop (length now.counts) before.counts.items) before.counts.len long_counts,
    )
    (other-tables before.room before.watermark before.survived before.heads.items before.spare.items before.bits.items before.counts.items _ _ _ c.self.invariant end end
    now.heads before.spare.items now.bits now.counts _ _ _ (is.heads_long ∙ ap length c.deref_mut.ensures.value) c.self.invariant.for_spare
    (is.bits_long ∙ ap length c.deref_mut-2.ensures.value) (is.counts_long ∙ ap length c.deref_mut-3.ensures.value)
    (omega arith) (omega arith) (omega arith) (omega arith) within is.ones is.offsets)

pub returns-clause-old : goal.returns-clause-old
returns-clause-old c =
    let before = c.self.inside in
    let heads = c.promote_within.new.heads in
    let is = c.promote_within.ensures in
    rw (← c.self.view_is, take_at heads (drop (length heads) before.heads.items) before.heads.len (is.heads_long ∙ c.deref_mut.ensures.len))
    (λ are.
    raised-old c.args.edition c.args.words.now before.heads.items heads before.watermark c.args.end
    (λ i low. is.below i low ∙ ap (λ (xs : List ℕ). bit xs i) c.deref_mut.ensures.value) c.in_default.ensures.row is.starts is.all are)
