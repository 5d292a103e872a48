use Rattle.std.proofs.Common.{◌≡◌, ℕ, ◌<◌, List, Bool, length, get_or, drop, sym, ap, subst, ◌∙◌, arith}
use Rattle.std.proofs.lemmas.Grind.{common_steps}
use Rattle.std.proofs.lemmas.List.{get_or_default, take_at}
use Rattle.heap_layout.specs.declared.edition.Edition.{Edition}
use Rattle.heap_layout.specs.Heap.{IsValue}
use Rattle.heap_layout.specs.Values.{or_immediate}
use Rattle.rest_marks.specs.Growing.{roots_on, IsGrownIn, IsSeenFaultOf}
use Rattle.stopped_heap.specs.Growth.{HasGrown, IsGrowthFaultOf}
use Rattle.rest_marks.specs.Marks.{AllKept}
use Rattle.rest_marks.specs.Places.{found_in, Found}
use Rattle.rest_marks.specs.Reached.{AreReached}
use Rattle.rest_marks.specs.Surveys.{marks_of}
use Rattle.stopped_heap.proofs.FoundIn.{grown-found, grown-of, has-fault, has-grown, some-in}
use Rattle.rest_marks.proofs.Heads.{heads-lead}
use Rattle.stopped_heap.proofs.growth.Growth.also.Goals as goal

pub returns-in-Err-clause-fault : goal.returns-in-Err-clause-fault
returns-in-Err-clause-fault c =
    let inside = c.self.inside in
    let words = c.args.words.now in
    let more = c.args.more.now in
    let fault = c.in-Err.fault in
    let long : length words ≡ inside.count = omega (arith, c.if-words-self.false) in
    let faults : (seen : List ℕ) → IsGrownIn inside.edition words seen inside.queue.items inside.heads.items inside.bits.items
    → IsSeenFaultOf inside.edition words seen (marks_of inside.heads.items) more fault =
    subst (λ (hs : List ℕ). (seen : List ℕ) → IsGrownIn inside.edition words seen inside.queue.items hs inside.bits.items
    → IsSeenFaultOf inside.edition words seen (marks_of hs) more fault) c.deref_mut.ensures.value
    (subst (λ (bs : List ℕ). (seen : List ℕ) → IsGrownIn inside.edition words seen inside.queue.items c.deref_mut.result.now bs
    → IsSeenFaultOf inside.edition words seen (marks_of c.deref_mut.result.now) more fault) c.deref_mut-2.ensures.value c.in-Err.ensures.fault) in (
      record {
        long = long ∙ ap (λ (f : Found). f.count) c.self.view_is;
        back = ap (λ (f : Found). f.room) c.self.view_is;
        lent = λ same. subst (λ (f : Found). f.room < f.count) c.self.view_is (omega (arith, c.in-Err.ensures.short same, long, c.self.invariant.1.for_queue));
      },
      subst (λ (f : Found). IsGrowthFaultOf f words more fault) c.self.view_is
          (has-fault inside.edition inside.count inside.room inside.queue.items inside.heads.items inside.bits.items c.self.invariant.0 words more long fault faults),
    )

pub invariant_of-result : goal.invariant_of-result
invariant_of-result c =
    let inside = c.self.inside in
    let words = c.args.words.now in
    let heads = c.grow_in-grown.new.heads in
    let bits = c.grow_in-grown.new.bits in
    let queue = c.grow_in-grown.new.queue.items in
    let long : length words ≡ inside.count = omega (arith, c.if-words-self.false) in
    let heads_len : length heads ≡ inside.heads.len = grind (arith, common_steps, c.grow_in-grown.ensures.same, c.deref_mut.ensures.len) in
    let bits_len : length bits ≡ inside.bits.len = grind (arith, common_steps, c.grow_in-grown.ensures.long, c.deref_mut-2.ensures.len) in
    let heads_long : length heads ≡ length inside.heads.items = c.grow_in-grown.ensures.same ∙ ap length c.deref_mut.ensures.value in
    let bits_long : length bits ≡ length inside.bits.items = c.grow_in-grown.ensures.long ∙ ap length c.deref_mut-2.ensures.value in
    let grown : (seen : List ℕ) → IsGrownIn inside.edition words seen inside.queue.items inside.heads.items inside.bits.items
    → IsGrownIn inside.edition words seen queue heads bits =
    subst (λ (hs : List ℕ). (seen : List ℕ) → IsGrownIn inside.edition words seen inside.queue.items hs inside.bits.items
    → IsGrownIn inside.edition words seen queue heads bits) c.deref_mut.ensures.value
    (subst (λ (bs : List ℕ). (seen : List ℕ) → IsGrownIn inside.edition words seen inside.queue.items c.deref_mut.result.now bs
    → IsGrownIn inside.edition words seen queue heads bits) c.deref_mut-2.ensures.value c.in_default.ensures.grown) in
    rw (take_at heads (drop (length heads) inside.heads.items) inside.heads.len heads_len, take_at bits (drop (length bits) inside.bits.items) inside.bits.len bits_len) (
      grown-of inside.edition inside.count words inside.queue.items inside.heads.items inside.bits.items queue heads bits long c.self.invariant.0 grown,
      record {
        for_heads = c.self.invariant.1.for_heads;
        for_bits = c.self.invariant.1.for_bits;
        for_counts = c.self.invariant.1.for_counts;
        for_queue = omega (arith, c.self.invariant.1.for_queue, c.grow_in-grown.ensures.capacity);
      },
      omega (arith, bits_long, c.self.invariant.2),
      omega (arith, heads_long, c.self.invariant.3),
      c.self.invariant.4,
    )

pub returns-clause-grown : goal.returns-clause-grown
returns-clause-grown c =
    let inside = c.self.inside in
    let words = c.args.words.now in
    let more = c.args.more.now in
    let heads = c.grow_in-grown.new.heads in
    let bits = c.grow_in-grown.new.bits in
    let queue = c.grow_in-grown.new.queue.items in
    let long : length words ≡ inside.count = omega (arith, c.if-words-self.false) in
    let heads_len : length heads ≡ inside.heads.len = grind (arith, common_steps, c.grow_in-grown.ensures.same, c.deref_mut.ensures.len) in
    let bits_len : length bits ≡ inside.bits.len = grind (arith, common_steps, c.grow_in-grown.ensures.long, c.deref_mut-2.ensures.len) in
    let grown : (seen : List ℕ) → IsGrownIn inside.edition words seen inside.queue.items inside.heads.items inside.bits.items
    → IsGrownIn inside.edition words seen queue heads bits =
    subst (λ (hs : List ℕ). (seen : List ℕ) → IsGrownIn inside.edition words seen inside.queue.items hs inside.bits.items
    → IsGrownIn inside.edition words seen queue heads bits) c.deref_mut.ensures.value
    (subst (λ (bs : List ℕ). (seen : List ℕ) → IsGrownIn inside.edition words seen inside.queue.items c.deref_mut.result.now bs
    → IsGrownIn inside.edition words seen queue heads bits) c.deref_mut-2.ensures.value c.in_default.ensures.grown) in
    let reached : (seen : List ℕ) → IsGrownIn inside.edition words seen inside.queue.items inside.heads.items inside.bits.items
    → AreReached inside.edition seen (roots_on (marks_of inside.heads.items) more) (marks_of heads) =
    subst (λ (hs : List ℕ). (seen : List ℕ) → IsGrownIn inside.edition words seen inside.queue.items hs inside.bits.items
    → AreReached inside.edition seen (roots_on (marks_of hs) more) (marks_of heads)) c.deref_mut.ensures.value
    (subst (λ (bs : List ℕ). (seen : List ℕ) → IsGrownIn inside.edition words seen inside.queue.items c.deref_mut.result.now bs
    → AreReached inside.edition seen (roots_on (marks_of c.deref_mut.result.now) more) (marks_of heads)) c.deref_mut-2.ensures.value c.in_default.ensures.reached) in
    rw (take_at heads (drop (length heads) inside.heads.items) inside.heads.len heads_len, take_at bits (drop (length bits) inside.bits.items) inside.bits.len bits_len)
    (subst (λ (f : Found). HasGrown f words more (found_in inside.edition inside.count heads bits inside.room)) c.self.view_is
    (has-grown inside.edition inside.count inside.room inside.queue.items inside.heads.items inside.bits.items c.self.invariant.0 words more long queue heads bits reached
    (λ seen is. (let next = grown seen is in grown-found inside.edition inside.count inside.room queue heads bits seen (next.alike.long ∙ long) next.grown))))

pub returns-clause-leads : goal.returns-clause-leads
returns-clause-leads c =
    let inside = c.self.inside in
    let words = c.args.words.now in
    let more = c.args.more.now in
    let heads = c.grow_in-grown.new.heads in
    let long : length words ≡ inside.count = omega (arith, c.if-words-self.false) in
    let heads_len : length heads ≡ inside.heads.len = grind (arith, common_steps, c.grow_in-grown.ensures.same, c.deref_mut.ensures.len) in
    let some = some-in inside.edition inside.count words inside.queue.items inside.heads.items inside.bits.items long c.self.invariant.0 in
    let kept : AllKept inside.edition heads more =
    c.in_default.ensures.leads some.0
    (subst (λ (hs : List ℕ). IsGrownIn inside.edition words some.0 inside.queue.items hs c.deref_mut-2.result.now) (sym c.deref_mut.ensures.value)
    (subst (λ (bs : List ℕ). IsGrownIn inside.edition words some.0 inside.queue.items inside.heads.items bs) (sym c.deref_mut-2.ensures.value) some.1)) in
    rw (take_at heads (drop (length heads) inside.heads.items) inside.heads.len heads_len)
    (λ k d lt.
    subst (λ (edition : Edition). IsValue edition (marks_of heads) (get_or more k d)) (ap (λ (f : Found). f.edition) c.self.view_is)
    (subst (IsValue inside.edition (marks_of heads)) (get_or_default more k 0 d lt)
    (sym (ap (λ (test : ℕ → Bool). or_immediate inside.edition test (get_or more k 0)) (heads-lead heads)) ∙ kept k lt)))
