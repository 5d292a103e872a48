use Rattle.std.proofs.Common.{◌≡◌, ◌<◌, ℕ, List, length, get_or, drop, sym, ap, ◌∙◌, arith}
use Rattle.std.proofs.lemmas.List.{take_at}
use Rattle.heap_layout.specs.Bits.{bit}
use Rattle.heap_layout.specs.Header.{size_of}
use Rattle.heap_layout.specs.Heap.{header_at}
use Rattle.heap_layout.proofs.Bounds.{words_most}
use Rattle.mark_tables.proofs.Runs.{marked-next, marked-all, IsRunSet}
use Rattle.mark_tables.proofs.Starts.{start-room, starts-next, starts-all}
use Rattle.mark_tables.proofs.bits.bits_of.Goals as goal

pub set-requires : goal.set-requires
set-requires c =
    let heap = c.args.heap.now in
    let starts = c.loop-mark.invariant.1 in
    let lt : c.loop-mark.mark-index < length heap.marks = omega (arith, ap length c.marks-mark-items.ensures.marks) in
    let room = start-room heap c.marks-mark-items.ensures.closed c.loop-mark.mark-index c.loop-mark.new_index lt starts.next in
    omega (arith, room, starts.long, c.deref_mut-in-loop-mark.ensures.len)

pub loop-mark-preserved : goal.loop-mark-preserved
loop-mark-preserved c =
    let heap = c.args.heap.now in
    let k = c.loop-mark.mark-index in
    let closed = c.marks-mark-items.ensures.closed in
    let old = c.loop-mark.marked.items in
    let new = c.set_run.new.bits in
    let marks : c.marks-mark-items.result.now ≡ heap.marks = c.marks-mark-items.ensures.marks in
    let start = get_or c.marks-mark-items.result.now k 0 in
    let size = c.size-size.result in
    let value = c.deref_mut.ensures.value in
    let run : IsRunSet start size old new = record {
      long = c.set_run.ensures.length ∙ ap length value;
      below = λ j lt. c.set_run.ensures.below j lt ∙ ap (λ (xs : List ℕ). bit xs j) value;
      inside = c.set_run.ensures.inside;
      above = λ j le. c.set_run.ensures.above j le ∙ ap (λ (xs : List ℕ). bit xs j) value;
    } in
    let is_start : get_or heap.marks k 0 ≡ start = ap (λ (xs : List ℕ). get_or xs k 0) (sym marks) in
    let sized : size_of (header_at heap.edition heap.words (get_or heap.marks k 0)) ≡ size =
    ap (λ (i : ℕ). size_of (header_at heap.edition heap.words i)) is_start ∙ sym (c.size-size.ensures ∙ ap size_of c.header_at.ensures) in
    let kept : length new ≡ c.loop-mark.marked.len = c.set_run.ensures.length ∙ c.deref_mut.ensures.len in
    let lt : k < length heap.marks = omega (arith, ap length marks) in
    let old_starts = c.loop-mark.starts.items in
    let new_starts = c.set.new.bits in
    let starts_value = c.deref_mut-in-loop-mark.ensures.value in
    let starts_kept : length new_starts ≡ c.loop-mark.starts.len = c.set.ensures.length ∙ c.deref_mut-in-loop-mark.ensures.len in (
      rw (take_at new (drop (length new) old) c.loop-mark.marked.len kept) (marked-next heap closed k lt old new c.loop-mark.invariant.0 start size is_start sized run),
      rw (take_at new_starts (drop (length new_starts) old_starts) c.loop-mark.starts.len starts_kept)
          (starts-next heap k size c.loop-mark.new_index old_starts new_starts lt sized c.loop-mark.invariant.1 (c.set.ensures.length ∙ ap length starts_value) c.set.ensures.here
          (λ i other. c.set.ensures.elsewhere i other ∙ ap (λ (xs : List ℕ). bit xs i) starts_value)),
    )

pub returns-clause-live : goal.returns-clause-live
returns-clause-live c =
    let heap = c.args.heap.now in
    let k = c.loop-mark.mark-index in
    let last : k ≡ length heap.marks = omega (arith, ap length c.marks-mark-items.ensures.marks) in
    marked-all heap c.marks-mark-items.ensures.closed k last c.loop-mark.marked.items c.loop-mark.invariant.0

pub returns-clause-starts : goal.returns-clause-starts
returns-clause-starts c =
    let heap = c.args.heap.now in
    let k = c.loop-mark.mark-index in
    let new_index = c.loop-mark.new_index in
    let last : k ≡ length heap.marks = omega (arith, ap length c.marks-mark-items.ensures.marks) in
    let cut = starts-all heap c.marks-mark-items.ensures.closed k new_index c.div_ceil.result last (omega (arith, c.div_ceil.ensures)) c.loop-mark.starts.items c.loop-mark.invariant.1 in
    rw c.truncate.ensures.items cut

pub returns-clause-few : goal.returns-clause-few
returns-clause-few c = omega (arith, words_most c.args.heap.now.edition)
