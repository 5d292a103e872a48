use Rattle.std.proofs.Common.{◌≡◌, ◌≢◌, ◌^◌, ◌≤◌, ◌++◌, min, length, take, drop, inl, inr, refl, sym, ap, ◌∙◌, arith}
use Rattle.std.proofs.lemmas.List.{take_at}
use Rattle.heap_layout.proofs.Bounds.{words_most}
use Rattle.mark_tables.specs.MarkBitmap.{vec_items}
use Rattle.rest_marks.specs.declared.fault.SurveyFault.TheVariants as survey
use Rattle.young_heap.proofs.Beginning.{all-collected}
use Rattle.young_heap.proofs.Storing.{none-old, none-asked}
use Rattle.young_heap.proofs.Watermarks.{fault-all, fault-few, other-tables}
use Rattle.young_heap.proofs.old_tables.OldTables.collect_all.Goals as goal

pub returns-in-Ok-clause-collected : goal.returns-in-Ok-clause-collected
returns-in-Ok-clause-collected c =
    let e = c.args.edition in
    let words = c.args.words.now in
    let starts = c.deref_mut.result.now in
    let now = c.collect_by_cards-collected.new in
    let is = c.in-Ok.ensures.collected (none-old e words starts) (none-asked e words starts _) in
    all-collected e words c.args.roots.now starts is.0 c.in-Ok.total now.roots now.words is.1.below is.2

pub returns-in-Err-collected-clause-fault : goal.returns-in-Err-collected-clause-fault
returns-in-Err-collected-clause-fault c =
    let e = c.args.edition in
    let words = c.args.words.now in
    let roots = c.args.roots.now in
    let starts = c.deref_mut.result.now in
    let fault = c.in-Err-collected.fault in
    let is = c.in-Err-collected.ensures in
    let tables = c.self.invariant in
    let fitting = c.in_default.ensures.fitting in
    let few = words_most e in
    let enough : length words ≤ min c.self.inside.room (2 ^ 31) = omega (arith, few, fitting.few_words, fitting.room_for) in
    let never : fault ≢ survey.OutOfMemory = λ out. elim (is.short out) [
      | inl short ↦ absurd (omega (arith, short))
      | inr (inl short) ↦ absurd (omega (arith, short))
      | inr (inr short) ↦ absurd (omega (arith, short, tables.for_queue, enough))
    ] in
    let there = is.fault never in
    rw (← c.self.view_is) (
      fitting,
      fault-all e words roots starts there.0 there.1 there.2.below there.3.below fitting.few_words fitting.few_roots fault there.6,
      never,
      fault-few e words roots starts 0 there.0 there.1 fault there.6,
    )

pub invariant_of-self : goal.invariant_of-self
invariant_of-self c =
    let before = c.self.inside in
    let now = c.collect_by_cards-collected.new in
    let is = c.in-Ok.ensures in
    let total = c.in-Ok.total in
    let spare_was = ap length c.deref_mut.ensures.value in
    let heads_are : c.swap.new.x.items ≡ now.heads = ap vec_items c.swap.ensures.x_after
    ∙ take_at now.heads (drop (length now.heads) before.spare.items) before.spare.len (is.heads_long ∙ c.deref_mut.ensures.len) in
    let spare_is : c.swap.new.y.items ≡ before.heads.items = ap vec_items c.swap.ensures.y_after in
    let few = words_most c.args.edition in
    let within : total ≤ min before.room (2 ^ 31) =
    omega (arith, is.order.1, few, c.in_default.ensures.fitting.few_words, c.in_default.ensures.fitting.room_for) in
    rw (
      take_at now.bits (drop (length now.bits) before.bits.items) before.bits.len (is.bits_long ∙ c.deref_mut-2.ensures.len),
      take_at now.counts (drop (length now.counts) before.counts.items) before.counts.len (is.counts_same ∙ c.deref_mut-3.ensures.len),
    )
    (other-tables before.room before.watermark before.survived before.heads.items before.spare.items before.bits.items before.counts.items _ _ _ c.self.invariant total total
    c.swap.new.x.items c.swap.new.y.items now.bits now.counts _ _ _ (ap length heads_are ∙ is.heads_long ∙ spare_was ∙ c.self.invariant.for_spare)
    (ap length spare_is) (is.bits_long ∙ ap length c.deref_mut-2.ensures.value) (is.counts_same ∙ ap length c.deref_mut-3.ensures.value)
    is.queue_room is.fields_room is.weaks_room (omega arith) within is.ones is.offsets)

pub invariant_of-self-in-Err-collected : goal.invariant_of-self-in-Err-collected
invariant_of-self-in-Err-collected c =
    let before = c.self.inside in
    let now = c.collect_by_cards-collected.new in
    let is = c.in-Err-collected.ensures in
    let bits = c.set_below.new.bits in
    let counts = c.set_below.new.counts in
    let long_bits = c.set_below.ensures.bits_long ∙ c.deref_mut-in-Err-collected.ensures.len in
    let long_counts = c.set_below.ensures.counts_long ∙ c.deref_mut-in-Err-collected-2.ensures.len in
    let bits_were : length before.bits.items ≡ before.bits.len = sym (ap length c.deref_mut-2.ensures.value) ∙ c.deref_mut-2.ensures.len in
    let counts_were : length before.counts.items ≡ before.counts.len = sym (ap length c.deref_mut-3.ensures.value) ∙ c.deref_mut-3.ensures.len in
    rw (
      take_at bits (drop (length bits) (take before.bits.len (now.bits ++ drop (length now.bits) before.bits.items))) before.bits.len long_bits,
      take_at counts (drop (length counts) (take before.counts.len (now.counts ++ drop (length now.counts) before.counts.items))) before.counts.len long_counts,
      take_at now.heads (drop (length now.heads) before.spare.items) before.spare.len (is.heads_long ∙ c.deref_mut.ensures.len),
    )
    (other-tables before.room before.watermark before.survived before.heads.items before.spare.items before.bits.items before.counts.items _ _ _ c.self.invariant
    before.watermark before.survived before.heads.items now.heads bits counts _ _ _ refl (is.heads_long ∙ ap length c.deref_mut.ensures.value ∙ c.self.invariant.for_spare)
    (long_bits ∙ sym bits_were) (long_counts ∙ sym counts_were)
    is.queue_room is.fields_room is.weaks_room c.self.invariant.before c.self.invariant.survivors c.set_below.ensures.ones c.set_below.ensures.offsets)
