use Rattle.std.proofs.Common.{◌≡◌, ℕ, ◌<◌, List, length, drop, sym, ap, subst, ◌∙◌, arith}
use Rattle.std.proofs.lemmas.Grind.{common_steps}
use Rattle.std.proofs.lemmas.List.{take_at}
use Rattle.stopped_heap.specs.Ephemerons.{AreHeld}
use Rattle.rest_marks.specs.Growing.{IsGrownIn}
use Rattle.stopped_heap.specs.Growth.{HasHeld, IsGrowthHeldFaultOf, IsSeenHeldFaultOf}
use Rattle.rest_marks.specs.Places.{found_in, Found}
use Rattle.rest_marks.specs.Surveys.{marks_of}
use Rattle.stopped_heap.proofs.FoundIn.{grown-found, grown-of, has-held, has-held-fault, some-in}
use Rattle.rest_marks.proofs.Grown.{set-of}
use Rattle.stopped_heap.proofs.Held.{are-held}
use Rattle.stopped_heap.proofs.growth.Growth.also_values.Goals as goal

pub keep_values-kept-requires : goal.keep_values-kept-requires
keep_values-kept-requires c =
    let inside = c.self.inside in
    let words = c.args.words.now in
    let long : length words ≡ inside.count = omega (arith, c.if-self-words.false) in
    let some = some-in inside.edition inside.count words inside.queue.items inside.heads.items inside.bits.items long c.self.invariant.0 in
    record {
      some = (
        some.0,
        subst (λ (hs : List ℕ). IsGrownIn inside.edition words some.0 inside.queue.items hs c.deref_mut-2.result.now) (sym c.deref_mut.ensures.value)
            (subst (λ (bs : List ℕ). IsGrownIn inside.edition words some.0 inside.queue.items inside.heads.items bs) (sym c.deref_mut-2.ensures.value) some.1),
      );
    }

pub returns-in-Err-clause-fault : goal.returns-in-Err-clause-fault
returns-in-Err-clause-fault c =
    let inside = c.self.inside in
    let words = c.args.words.now in
    let more = c.args.ephemerons.now in
    let fault = c.in-Err.fault in
    let long : length words ≡ inside.count = omega (arith, c.if-self-words.false) in
    let faults : (seen : List ℕ) → IsGrownIn inside.edition words seen inside.queue.items inside.heads.items inside.bits.items
    → IsSeenHeldFaultOf inside.edition words seen (marks_of inside.heads.items) more fault =
    subst (λ (hs : List ℕ). (seen : List ℕ) → IsGrownIn inside.edition words seen inside.queue.items hs inside.bits.items
    → IsSeenHeldFaultOf inside.edition words seen (marks_of hs) more fault) c.deref_mut.ensures.value
    (subst (λ (bs : List ℕ). (seen : List ℕ) → IsGrownIn inside.edition words seen inside.queue.items c.deref_mut.result.now bs
    → IsSeenHeldFaultOf inside.edition words seen (marks_of c.deref_mut.result.now) more fault) c.deref_mut-2.ensures.value c.in-Err.ensures.fault) in (
      record {
        long = long ∙ ap (λ (f : Found). f.count) c.self.view_is;
        back = ap (λ (f : Found). f.room) c.self.view_is;
        lent = λ same. subst (λ (f : Found). f.room < f.count) c.self.view_is (omega (arith, c.in-Err.ensures.short same, long, c.self.invariant.1.for_queue));
      },
      subst (λ (f : Found). IsGrowthHeldFaultOf f words more fault) c.self.view_is
          (has-held-fault inside.edition inside.count inside.room inside.queue.items inside.heads.items inside.bits.items c.self.invariant.0 words more long fault faults),
    )

pub invariant_of-result : goal.invariant_of-result
invariant_of-result c =
    let inside = c.self.inside in
    let words = c.args.words.now in
    let heads = c.keep_values-kept.new.heads in
    let bits = c.keep_values-kept.new.bits in
    let queue = c.keep_values-kept.new.queue.items in
    let long : length words ≡ inside.count = omega (arith, c.if-self-words.false) in
    let heads_len : length heads ≡ inside.heads.len = grind (arith, common_steps, c.keep_values-kept.ensures.same, c.deref_mut.ensures.len) in
    let bits_len : length bits ≡ inside.bits.len = grind (arith, common_steps, c.keep_values-kept.ensures.long, c.deref_mut-2.ensures.len) in
    let heads_long : length heads ≡ length inside.heads.items = c.keep_values-kept.ensures.same ∙ ap length c.deref_mut.ensures.value in
    let bits_long : length bits ≡ length inside.bits.items = c.keep_values-kept.ensures.long ∙ ap length c.deref_mut-2.ensures.value in
    let grown : (seen : List ℕ) → IsGrownIn inside.edition words seen inside.queue.items inside.heads.items inside.bits.items
    → IsGrownIn inside.edition words seen queue heads bits =
    subst (λ (hs : List ℕ). (seen : List ℕ) → IsGrownIn inside.edition words seen inside.queue.items hs inside.bits.items
    → IsGrownIn inside.edition words seen queue heads bits) c.deref_mut.ensures.value
    (subst (λ (bs : List ℕ). (seen : List ℕ) → IsGrownIn inside.edition words seen inside.queue.items c.deref_mut.result.now bs
    → IsGrownIn inside.edition words seen queue heads bits) c.deref_mut-2.ensures.value c.in_default.ensures.grown) in
    rw (take_at heads (drop (length heads) inside.heads.items) inside.heads.len heads_len, take_at bits (drop (length bits) inside.bits.items) inside.bits.len bits_len) (
      grown-of inside.edition inside.count words inside.queue.items inside.heads.items inside.bits.items queue heads bits long c.self.invariant.0 grown,
      record {
        for_heads = c.self.invariant.1.for_heads;
        for_bits = c.self.invariant.1.for_bits;
        for_counts = omega (arith, c.self.invariant.1.for_counts, c.keep_values-kept.ensures.counts);
        for_queue = omega (arith, c.self.invariant.1.for_queue, c.keep_values-kept.ensures.capacity);
      },
      omega (arith, bits_long, c.self.invariant.2, c.keep_values-kept.ensures.counts),
      omega (arith, heads_long, c.self.invariant.3, c.keep_values-kept.ensures.starts),
      omega (arith, c.self.invariant.4, c.keep_values-kept.ensures.starts),
    )

pub returns-clause-held : goal.returns-clause-held
returns-clause-held c =
    let inside = c.self.inside in
    let words = c.args.words.now in
    let more = c.args.ephemerons.now in
    let heads = c.keep_values-kept.new.heads in
    let bits = c.keep_values-kept.new.bits in
    let queue = c.keep_values-kept.new.queue.items in
    let long : length words ≡ inside.count = omega (arith, c.if-self-words.false) in
    let heads_len : length heads ≡ inside.heads.len = grind (arith, common_steps, c.keep_values-kept.ensures.same, c.deref_mut.ensures.len) in
    let bits_len : length bits ≡ inside.bits.len = grind (arith, common_steps, c.keep_values-kept.ensures.long, c.deref_mut-2.ensures.len) in
    let grown : (seen : List ℕ) → IsGrownIn inside.edition words seen inside.queue.items inside.heads.items inside.bits.items
    → IsGrownIn inside.edition words seen queue heads bits =
    subst (λ (hs : List ℕ). (seen : List ℕ) → IsGrownIn inside.edition words seen inside.queue.items hs inside.bits.items
    → IsGrownIn inside.edition words seen queue heads bits) c.deref_mut.ensures.value
    (subst (λ (bs : List ℕ). (seen : List ℕ) → IsGrownIn inside.edition words seen inside.queue.items c.deref_mut.result.now bs
    → IsGrownIn inside.edition words seen queue heads bits) c.deref_mut-2.ensures.value c.in_default.ensures.grown) in
    let all : (seen : List ℕ) → IsGrownIn inside.edition words seen inside.queue.items inside.heads.items inside.bits.items
    → AreHeld inside.edition seen (marks_of inside.heads.items) more (marks_of heads) =
    subst (λ (hs : List ℕ). (seen : List ℕ) → IsGrownIn inside.edition words seen inside.queue.items hs inside.bits.items
    → AreHeld inside.edition seen (marks_of hs) more (marks_of heads)) c.deref_mut.ensures.value
    (subst (λ (bs : List ℕ). (seen : List ℕ) → IsGrownIn inside.edition words seen inside.queue.items c.deref_mut.result.now bs
    → AreHeld inside.edition seen (marks_of c.deref_mut.result.now) more (marks_of heads)) c.deref_mut-2.ensures.value
    (λ seen is.
    let next = c.in_default.ensures.grown seen is in
    are-held inside.edition seen (marks_of c.deref_mut.result.now) more heads bits next.grown.begun.few next.grown.begun.marked
    (λ i there. c.in_default.ensures.more i (set-of c.deref_mut.result.now i there)) c.in_default.ensures.settled (c.in_default.ensures.held seen is))) in
    rw (take_at heads (drop (length heads) inside.heads.items) inside.heads.len heads_len, take_at bits (drop (length bits) inside.bits.items) inside.bits.len bits_len)
    (subst (λ (f : Found). HasHeld f words more (found_in inside.edition inside.count heads bits inside.room)) c.self.view_is
    (has-held inside.edition inside.count inside.room inside.queue.items inside.heads.items inside.bits.items c.self.invariant.0 words more long queue heads bits all
    (λ seen is. (let next = grown seen is in grown-found inside.edition inside.count inside.room queue heads bits seen (next.alike.long ∙ long) next.grown))))
