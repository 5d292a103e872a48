use Rattle.std.proofs.Common.{◌≡◌, ℕ, ◌*◌, ◌≤◌, List, length, drop, subst, ◌∙◌, arith}
use Rattle.std.proofs.lemmas.Grind.{common_steps}
use Rattle.std.proofs.lemmas.List.{take_at}
use Rattle.heap_layout.specs.Limits.{most_words, most_roots}
use Rattle.mark_tables.specs.MarkBitmap.{AreOffsets}
use Rattle.rest_marks.specs.Starts.{AreStarts}
use Rattle.stopped_heap.proofs.Lasting.{all-reached, all-sound, all-told, all-indices}
use Rattle.stopped_heap.proofs.survey.Survey.of_rounds.Goals as goal

pub returns-clause-reached : goal.returns-clause-reached
returns-clause-reached g c =
    let edition = c.args.edition in
    let words = c.args.words.now in
    let roots = c.args.roots.now in
    let heads = c.mark_by_threads.new.heads in
    let bits = c.mark_by_threads.new.bits in
    let heads_long : length heads ≡ c.in_ok-heads.heads.len = grind (arith, common_steps, c.mark_by_threads.ensures.same) in
    let few : length words ≤ most_words edition = omega (arith, c.if-words-max_words.false, c.max_words.ensures) in
    let few_roots : length roots ≤ most_roots edition = omega (arith, c.if-roots-max_roots.false, c.max_roots.ensures) in
    let are = c.in_ok-mark_by_threads.ensures.marked in
    rw (take_at heads (drop (length heads) c.in_ok-heads.heads.items) c.in_ok-heads.heads.len heads_long)
    (all-reached edition words roots heads bits few few_roots are)

pub returns-clause-sound : goal.returns-clause-sound
returns-clause-sound g c =
    let edition = c.args.edition in
    let words = c.args.words.now in
    let roots = c.args.roots.now in
    let heads = c.mark_by_threads.new.heads in
    let bits = c.mark_by_threads.new.bits in
    let heads_long : length heads ≡ c.in_ok-heads.heads.len = grind (arith, common_steps, c.mark_by_threads.ensures.same) in
    let few : length words ≤ most_words edition = omega (arith, c.if-words-max_words.false, c.max_words.ensures) in
    let few_roots : length roots ≤ most_roots edition = omega (arith, c.if-roots-max_roots.false, c.max_roots.ensures) in
    let are = c.in_ok-mark_by_threads.ensures.marked in
    rw (take_at heads (drop (length heads) c.in_ok-heads.heads.items) c.in_ok-heads.heads.len heads_long)
    (all-sound edition words roots heads bits few few_roots are)

pub invariant_of-result : goal.invariant_of-result
invariant_of-result g c =
    let edition = c.args.edition in
    let words = c.args.words.now in
    let roots = c.args.roots.now in
    let heads = c.mark_by_threads.new.heads in
    let bits = c.mark_by_threads.new.bits in
    let heads_long : length heads ≡ c.in_ok-heads.heads.len = grind (arith, common_steps, c.mark_by_threads.ensures.same) in
    let bits_long : length bits ≡ c.in_ok-bits.bits.len = grind (arith, common_steps, c.mark_by_threads.ensures.long) in
    let few : length words ≤ most_words edition = omega (arith, c.if-words-max_words.false, c.max_words.ensures) in
    let few_roots : length roots ≤ most_roots edition = omega (arith, c.if-roots-max_roots.false, c.max_roots.ensures) in
    let are = c.in_ok-mark_by_threads.ensures.marked in
    let room : length words ≤ 64 * length bits = omega (arith, bits_long, c.in_ok-bits.ensures.len, c.div_ceil-blocks.ensures) in
    let counts = c.in_ok-counts.counts.items in
    let whole = take_at bits (drop (length bits) c.in_ok-bits.bits.items) c.in_ok-bits.bits.len bits_long in
    let offsets : AreOffsets bits counts = subst (λ (bs : List ℕ). AreOffsets bs counts) (c.deref.ensures.value ∙ whole) c.in_ok-counts.ensures in
    let whole_heads = take_at heads (drop (length heads) c.in_ok-heads.heads.items) c.in_ok-heads.heads.len heads_long in
    let starts : AreStarts heads c.in_ok-starts.starts.items = subst (λ (hs : List ℕ). AreStarts hs c.in_ok-starts.starts.items) (c.deref-2.ensures.value ∙ whole_heads) c.in_ok-starts.ensures in
    rw (whole_heads, whole) (
      record {
        sound = all-told edition words roots heads bits few few_roots are;
        indices = all-indices edition words roots heads bits few few_roots are room;
        offsets = offsets;
        same = omega (arith, heads_long, bits_long, c.in_ok-heads.ensures.len, c.in_ok-bits.ensures.len);
      },
      record { for_heads = omega arith; for_bits = omega arith; for_counts = omega (arith, c.in_ok-counts.ensures.long); for_queue = omega arith },
      starts,
      omega arith,
      omega (arith, heads_long, c.in_ok-heads.ensures.len, c.div_ceil-blocks.ensures),
    )
