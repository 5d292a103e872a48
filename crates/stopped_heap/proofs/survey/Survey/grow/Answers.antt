use Rattle.std.proofs.Common.{◌≡◌, ℕ, ◌+◌, ◌*◌, ◌≤◌, true, List, length, sym, ap, subst, ◌∙◌, arith}
use Rattle.heap_layout.specs.Bits.{bit}
use Rattle.heap_layout.proofs.Bounds.{words_most}
use Rattle.rest_marks.specs.Meeting.{AreMet}
use Rattle.stopped_heap.proofs.Listing.{tables-grown, tables-inside}
use Rattle.stopped_heap.proofs.survey.Survey.grow.Goals as goal

pub put_queue-requires-clause-few : goal.put_queue-requires-clause-few
put_queue-requires-clause-few c = omega (arith, c.self.invariant.0.sound.few_words, words_most c.self.inside.edition)

pub put_queue-requires-clause-known : goal.put_queue-requires-clause-known
put_queue-requires-clause-known c = omega (arith, ap length c.deref.ensures.value, c.self.invariant.4)

pub put_queue-requires-clause-inside : goal.put_queue-requires-clause-inside
put_queue-requires-clause-inside c =
    let inside = c.self.inside in
    λ i set.
    tables-inside inside.edition inside.words.now inside.heads.items inside.bits.items inside.counts.items c.self.invariant.0 i
    (sym (ap (λ (hs : List ℕ). bit hs i) c.deref.ensures.value) ∙ set)

pub invariant_of-result : goal.invariant_of-result
invariant_of-result c =
    let room = c.self.invariant.1 in (
      c.self.invariant.0,
      record {
        for_heads = room.for_heads;
        for_bits = room.for_bits;
        for_counts = room.for_counts;
        for_queue = omega (arith, room.for_queue, c.put_queue.ensures.capacity);
      },
      c.self.invariant.2,
      c.self.invariant.3,
      c.self.invariant.4,
    )

pub invariant_of-result-2 : goal.invariant_of-result-2
invariant_of-result-2 c =
    let inside = c.self.inside in
    let tables = c.self.invariant.0 in
    let room = c.self.invariant.1 in (
      tables-grown inside.edition inside.words.now c.put_queue.new.queue.items inside.heads.items inside.bits.items inside.counts.items tables c.self.invariant.4
          (subst (AreMet c.put_queue.new.queue.items) c.deref.ensures.value c.in_default.ensures.met) c.in_default.ensures.once,
      record {
        for_heads = room.for_heads;
        for_bits = room.for_bits;
        for_counts = room.for_counts;
        for_queue = omega (arith, room.for_queue, c.put_queue.ensures.capacity);
      },
      omega (arith, tables.offsets.long),
      omega (arith, c.self.invariant.2.long),
      c.self.invariant.3,
    )
