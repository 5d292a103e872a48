use Rattle.std.proofs.Common.{◌≡◌, ◌≢◌, ℕ, ◌^◌, ◌≤◌, min, true, List, length, get_or, drop, inl, inr, sym, ap, subst, ◌∙◌, arith}
use Rattle.std.proofs.lemmas.List.{take_at}
use Rattle.heap_layout.specs.Bits.{bit}
use Rattle.heap_layout.proofs.Bounds.{words_most}
use Rattle.rest_marks.specs.declared.fault.SurveyFault.TheVariants as survey
use Rattle.young_heap.specs.Cards.{is_dirty}
use Rattle.young_heap.specs.Tables.{IsFaultBy}
use Rattle.young_heap.specs.Young.{is_below_led}
use Rattle.young_heap.proofs.Watermarks.{other-tables, room-young}
use Rattle.young_heap.proofs.old_tables.OldTables.collect_young.Goals as goal

pub returns-in-Err-clause-fault : goal.returns-in-Err-clause-fault
returns-in-Err-clause-fault c =
    rw (← c.self.view_is) (room-young c.args.edition c.args.words.now c.args.roots.now
    (record { room = c.self.inside.room; watermark = c.self.inside.watermark; survived = c.self.inside.survived; starts = c.self.inside.heads.items }) c.args.cards.now c.in-Err.fault c.in-Err.ensures.refused)

pub invariant_of-self : goal.invariant_of-self
invariant_of-self c =
    let before = c.self.inside in
    let now = c.collect_by_cards-collected.new in
    let is = c.in-Ok.ensures in
    let long = is.heads_long ∙ c.deref_mut.ensures.len in
    let long_bits = is.bits_long ∙ c.deref_mut-2.ensures.len in
    let long_counts = is.counts_same ∙ c.deref_mut-3.ensures.len in
    let few = words_most c.args.edition in
    let within : c.in-Ok.live ≤ min before.room (2 ^ 31) =
    omega (arith, is.order.1, few, c.in_default.ensures.fitting.few_words, c.in_default.ensures.fitting.room_for) in
    rw (
      take_at now.heads (drop (length now.heads) before.heads.items) before.heads.len long,
      take_at now.bits (drop (length now.bits) before.bits.items) before.bits.len long_bits,
      take_at now.counts (drop (length now.counts) before.counts.items) before.counts.len long_counts,
    )
    (other-tables before.room before.watermark before.survived before.heads.items before.spare.items before.bits.items before.counts.items _ _ _ c.self.invariant c.in-Ok.live c.in-Ok.live
    now.heads before.spare.items now.bits now.counts _ _ _ (is.heads_long ∙ ap length c.deref_mut.ensures.value) c.self.invariant.for_spare
    (is.bits_long ∙ ap length c.deref_mut-2.ensures.value) (is.counts_same ∙ ap length c.deref_mut-3.ensures.value)
    is.queue_room is.fields_room is.weaks_room (omega arith) within is.ones is.offsets)

pub returns-in-Ok-clause-clean_stay : goal.returns-in-Ok-clause-clean_stay
returns-in-Ok-clause-clean_stay c = rw (← c.self.view_is) (λ j low clean. c.in-Ok.ensures.clean_stay j low clean)

pub returns-in-Ok-clause-below_stay : goal.returns-in-Ok-clause-below_stay
returns-in-Ok-clause-below_stay c =
    let old = c.self.inside.watermark in
    let words = c.args.words.now in
    rw (← c.self.view_is) (λ j low led.
    c.in-Ok.ensures.below_stay j low
    (subst (λ (starts : List ℕ). is_below_led c.args.edition starts old (get_or words j 0) ≡ true) (sym c.deref_mut.ensures.value) led))

pub returns-in-Ok-clause-starts_stay : goal.returns-in-Ok-clause-starts_stay
returns-in-Ok-clause-starts_stay c =
    let before = c.self.inside.heads in
    let heads = c.collect_by_cards-collected.new.heads in
    let is = c.in-Ok.ensures in
    rw (← c.self.view_is, take_at heads (drop (length heads) before.items) before.len (is.heads_long ∙ c.deref_mut.ensures.len))
    (λ i low. is.heads_stay i low ∙ ap (λ (xs : List ℕ). bit xs i) c.deref_mut.ensures.value)

pub returns-in-Err-collected-clause-starts_stay : goal.returns-in-Err-collected-clause-starts_stay
returns-in-Err-collected-clause-starts_stay c =
    let before = c.self.inside.heads in
    let heads = c.collect_by_cards-collected.new.heads in
    let is = c.in-Err-collected.ensures in
    rw (← c.self.view_is, take_at heads (drop (length heads) before.items) before.len (is.heads_long ∙ c.deref_mut.ensures.len))
    (λ i low. is.heads_stay i low ∙ ap (λ (xs : List ℕ). bit xs i) c.deref_mut.ensures.value)

pub returns-in-Err-collected-clause-fault : goal.returns-in-Err-collected-clause-fault
returns-in-Err-collected-clause-fault c =
    let e = c.args.edition in
    let words = c.args.words.now in
    let roots = c.args.roots.now in
    let cards = c.args.cards.now in
    let old = c.self.inside.watermark in
    let fault = c.in-Err-collected.fault in
    let is = c.in-Err-collected.ensures in
    let tables = c.self.invariant in
    let fitting = c.in_default.ensures.fitting in
    let few = words_most e in
    let enough : length words ≤ min c.self.inside.room (2 ^ 31) = omega (arith, few, fitting.few_words, fitting.room_for) in
    let never : fault ≢ survey.OutOfMemory = λ out. elim (is.short out) [
      | inl short ↦ absurd (omega (arith, short, tables.for_fields, tables.within))
      | inr (inl short) ↦ absurd (omega (arith, short, tables.for_weaks, tables.within))
      | inr (inr short) ↦ absurd (omega (arith, short, tables.for_queue, enough))
    ] in
    let there = subst (λ (starts : List ℕ). IsFaultBy e words roots starts old (is_dirty cards) fault) c.deref_mut.ensures.value (is.fault never) in
    rw (← c.self.view_is) (fitting, c.if-words-self.false, omega (arith, c.if-cards-wanted.false, c.div_ceil-wanted.ensures), there, never)
