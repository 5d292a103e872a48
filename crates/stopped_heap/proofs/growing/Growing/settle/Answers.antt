use Rattle.std.proofs.Common.{◌*◌, ◌≤◌, length, sym, subst, List, ℕ, arith}
use Rattle.mark_tables.specs.MarkBitmap.{AreOffsets}
use Rattle.rest_marks.specs.Starts.{AreStarts}
use Rattle.rest_marks.proofs.Grown.{marked-told, marked-indices}
use Rattle.stopped_heap.proofs.growing.Growing.settle.Goals as goal

pub invariant_of-result : goal.invariant_of-result
invariant_of-result c =
    let inside = c.self.inside in
    let grown = c.self.invariant.0 in
    let room = c.self.invariant.1 in
    let heads = inside.heads.items in
    let bits = inside.bits.items in
    let fits : length inside.words.now ≤ 64 * length bits = omega (arith, grown.sized, grown.same) in (
      record {
        sound = marked-told inside.edition inside.words.now heads bits grown.begun.few grown.begun.marked;
        indices = marked-indices inside.edition inside.words.now heads bits grown.begun.few grown.begun.marked fits;
        offsets = subst (λ (bs : List ℕ). AreOffsets bs c.put_offsets.new.offsets.items) c.deref.ensures.value c.put_offsets.ensures.offsets;
        same = sym grown.same;
      },
      record {
        for_heads = room.for_heads;
        for_bits = room.for_bits;
        for_counts = omega (arith, room.for_counts, c.put_offsets.ensures.capacity);
        for_queue = room.for_queue;
      },
      subst (λ (hs : List ℕ). AreStarts hs c.put_starts.new.starts.items) c.deref-2.ensures.value c.put_starts.ensures.starts,
      omega (arith, c.self.invariant.4, c.put_starts.ensures.capacity),
      grown.sized,
    )
