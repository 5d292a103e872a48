use Rattle.std.proofs.Common.{◌≡◌, ℕ, List, length, drop, sym, ap, subst, ◌∙◌, arith}
use Rattle.std.proofs.lemmas.Grind.{common_steps}
use Rattle.std.proofs.lemmas.List.{take_at}
use Rattle.heap_layout.specs.declared.edition.Edition.{Edition}
use Rattle.stopped_heap.specs.Ephemerons.{AreHeld, IsHeldFaultOf}
use Rattle.rest_marks.specs.Growing.{IsGrown, IsGrownIn}
use Rattle.rest_marks.specs.Surveys.{marks_of, Surveyed}
use Rattle.rest_marks.proofs.Grown.{set-of}
use Rattle.stopped_heap.proofs.Held.{are-held}
use Rattle.rest_marks.proofs.Seen.{grown-same}
use Rattle.stopped_heap.proofs.SeenHeld.{held-fault-seen}
use Rattle.stopped_heap.proofs.growing.Growing.also_values.Goals as goal

-- what a survey has grown in its words, whose tables were lent
lent-grown : (edition : Edition) (words queue heads bits lent_heads lent_bits : List ℕ) → lent_heads ≡ heads → lent_bits ≡ bits → IsGrown edition words queue heads bits
    → IsGrownIn edition words words queue lent_heads lent_bits
lent-grown edition words queue heads bits lent_heads lent_bits same same_bits grown =
    subst (λ (hs : List ℕ). IsGrownIn edition words words queue hs lent_bits) (sym same)
    (subst (λ (bs : List ℕ). IsGrownIn edition words words queue heads bs) (sym same_bits) (grown-same edition words queue heads bits grown))

pub keep_values-kept-requires : goal.keep_values-kept-requires
keep_values-kept-requires c =
    let inside = c.self.inside in
    let words = inside.words.now in
    let is : IsGrownIn inside.edition words words inside.queue.items c.deref_mut.result.now c.deref_mut-2.result.now =
    lent-grown inside.edition words inside.queue.items inside.heads.items inside.bits.items c.deref_mut.result.now c.deref_mut-2.result.now c.deref_mut.ensures.value
    c.deref_mut-2.ensures.value c.self.invariant.0 in
    record { some = (words, is) }

pub returns-clause-held : goal.returns-clause-held
returns-clause-held c =
    let inside = c.self.inside in
    let words = inside.words.now in
    let is : IsGrownIn inside.edition words words inside.queue.items c.deref_mut.result.now c.deref_mut-2.result.now =
    lent-grown inside.edition words inside.queue.items inside.heads.items inside.bits.items c.deref_mut.result.now c.deref_mut-2.result.now c.deref_mut.ensures.value
    c.deref_mut-2.ensures.value c.self.invariant.0 in
    let ephemerons = c.args.ephemerons.now in
    let old = c.deref_mut.result.now in
    let heads = c.keep_values-kept.new.heads in
    let bits = c.keep_values-kept.new.bits in
    let e = c.in_default.ensures in
    let begun = (e.grown words is).grown.begun in
    let long : length heads ≡ inside.heads.len = grind (arith, common_steps, c.keep_values-kept.ensures.same, c.deref_mut.ensures.len) in
    let all : AreHeld inside.edition words (marks_of old) ephemerons (marks_of heads) =
    are-held inside.edition words (marks_of old) ephemerons heads bits begun.few begun.marked (λ i there. e.more i (set-of old i there)) e.settled (e.held words is) in
    rw (take_at heads (drop (length heads) inside.heads.items) inside.heads.len long)
    (subst (λ (s : Surveyed). AreHeld s.edition s.words s.marks ephemerons (marks_of heads)) c.self.view_is
    (subst (λ (xs : List ℕ). AreHeld inside.edition words (marks_of xs) ephemerons (marks_of heads)) c.deref_mut.ensures.value all))

pub returns-in-Err-clause-fault : goal.returns-in-Err-clause-fault
returns-in-Err-clause-fault c =
    let inside = c.self.inside in
    let words = inside.words.now in
    let is : IsGrownIn inside.edition words words inside.queue.items c.deref_mut.result.now c.deref_mut-2.result.now =
    lent-grown inside.edition words inside.queue.items inside.heads.items inside.bits.items c.deref_mut.result.now c.deref_mut-2.result.now c.deref_mut.ensures.value
    c.deref_mut-2.ensures.value c.self.invariant.0 in
    let ephemerons = c.args.ephemerons.now in
    let old = c.deref_mut.result.now in
    subst (λ (s : Surveyed). IsHeldFaultOf s.edition s.words s.marks ephemerons c.in-Err.fault) c.self.view_is
    (subst (λ (xs : List ℕ). IsHeldFaultOf inside.edition words (marks_of xs) ephemerons c.in-Err.fault) c.deref_mut.ensures.value
    (held-fault-seen inside.edition words (marks_of old) ephemerons c.in-Err.fault (c.in-Err.ensures.fault words is)))

pub invariant_of-result : goal.invariant_of-result
invariant_of-result c =
    let inside = c.self.inside in
    let words = inside.words.now in
    let is : IsGrownIn inside.edition words words inside.queue.items c.deref_mut.result.now c.deref_mut-2.result.now =
    lent-grown inside.edition words inside.queue.items inside.heads.items inside.bits.items c.deref_mut.result.now c.deref_mut-2.result.now c.deref_mut.ensures.value
    c.deref_mut-2.ensures.value c.self.invariant.0 in
    let room = c.self.invariant.1 in
    let heads = c.keep_values-kept.new.heads in
    let bits = c.keep_values-kept.new.bits in
    let same : length heads ≡ length inside.heads.items = c.keep_values-kept.ensures.same ∙ ap length c.deref_mut.ensures.value in
    let same_bits : length bits ≡ length inside.bits.items = c.keep_values-kept.ensures.long ∙ ap length c.deref_mut-2.ensures.value in
    let long : length heads ≡ inside.heads.len = grind (arith, common_steps, c.keep_values-kept.ensures.same, c.deref_mut.ensures.len) in
    let long_bits : length bits ≡ inside.bits.len = grind (arith, common_steps, c.keep_values-kept.ensures.long, c.deref_mut-2.ensures.len) in
    rw (take_at heads (drop (length heads) inside.heads.items) inside.heads.len long, take_at bits (drop (length bits) inside.bits.items) inside.bits.len long_bits) (
      (c.in_default.ensures.grown words is).grown,
      record {
        for_heads = room.for_heads;
        for_bits = room.for_bits;
        for_counts = omega (arith, room.for_counts, c.keep_values-kept.ensures.counts);
        for_queue = omega (arith, room.for_queue, c.keep_values-kept.ensures.capacity);
      },
      omega (arith, same_bits, c.self.invariant.2, c.keep_values-kept.ensures.counts),
      omega (arith, same, c.self.invariant.3, c.keep_values-kept.ensures.starts),
      omega (arith, c.self.invariant.4, c.keep_values-kept.ensures.starts),
    )
