use Rattle.std.proofs.Common.{◌≡◌, ℕ, ◌+◌, ◌/◌, ◌≤◌, List, length, drop, subst, ◌∙◌, arith}
use Rattle.std.proofs.lemmas.Grind.{common_steps}
use Rattle.std.proofs.lemmas.List.{take_at}
use Rattle.heap_layout.specs.Limits.{most_words, most_roots}
use Rattle.mark_tables.specs.MarkBitmap.{AreOffsets}
use Rattle.rest_marks.proofs.Lent.{lent-sound, told-sound, told-indices}
use Rattle.rest_marks.proofs.Refusing.{marks-refused}
use Rattle.stopped_heap.proofs.survey.Survey.of_marks.Goals as goal

pub returns-in-Err-take_marks-clause-fault : goal.returns-in-Err-take_marks-clause-fault
returns-in-Err-take_marks-clause-fault c =
    let words = c.args.words.now in
    let roots = c.args.roots.now in
    let few : length words ≤ most_words c.args.edition = omega (arith, c.if-words-max_words.false, c.max_words.ensures) in
    let few_roots : length roots ≤ most_roots c.args.edition = omega (arith, c.if-roots-max_roots.false, c.max_roots.ensures) in
    let long : length c.args.marks.now ≡ (length words + 63) / 64 = omega (arith, c.if-marks-blocks.false, c.div_ceil-blocks.ensures) in
    marks-refused c.args.edition words roots c.args.marks.now c.in-Err-take_marks.fault ((few, few_roots), long) (c.in-Err-take_marks.ensures.fault roots)

pub invariant_of-result : goal.invariant_of-result
invariant_of-result c =
    let edition = c.args.edition in
    let words = c.args.words.now in
    let roots = c.args.roots.now in
    let heads = c.args.marks.now in
    let bits = c.take_marks.new.bits in
    let counts = c.in_ok-counts.counts.items in
    let few : length words ≤ most_words edition = omega (arith, c.if-words-max_words.false, c.max_words.ensures) in
    let few_roots : length roots ≤ most_roots edition = omega (arith, c.if-roots-max_roots.false, c.max_roots.ensures) in
    let taken = c.in_default-take_marks.ensures in
    let bits_long : length bits ≡ c.in_ok-bits.bits.len = grind (arith, common_steps, c.take_marks.ensures.long) in
    let whole = take_at bits (drop (length bits) c.in_ok-bits.bits.items) c.in_ok-bits.bits.len bits_long in
    let offsets : AreOffsets bits counts = subst (λ (bs : List ℕ). AreOffsets bs counts) (c.deref.ensures.value ∙ whole) c.in_ok-counts.ensures in
    rw (c.in_ok-heads.ensures.items, whole) (
      record {
        sound = told-sound edition words roots heads bits few few_roots c.in_default.ensures.all taken.kept taken.apart;
        indices = told-indices edition words roots heads bits few few_roots c.in_default.ensures.all taken.kept taken.apart taken.run taken.only
            (omega (arith, bits_long, c.in_ok-bits.ensures.len, c.div_ceil-blocks.ensures));
        offsets = offsets;
        same = omega (arith, bits_long, c.in_ok-bits.ensures.len, c.if-marks-blocks.false);
      },
      record { for_heads = omega arith; for_bits = omega arith; for_counts = omega (arith, c.in_ok-counts.ensures.long); for_queue = omega arith },
      c.in_ok-starts.ensures,
      omega arith,
      omega (arith, c.if-marks-blocks.false, c.div_ceil-blocks.ensures),
    )

pub returns-clause-sound : goal.returns-clause-sound
returns-clause-sound c =
    let edition = c.args.edition in
    let words = c.args.words.now in
    let roots = c.args.roots.now in
    let heads = c.args.marks.now in
    let bits = c.take_marks.new.bits in
    let few : length words ≤ most_words edition = omega (arith, c.if-words-max_words.false, c.max_words.ensures) in
    let few_roots : length roots ≤ most_roots edition = omega (arith, c.if-roots-max_roots.false, c.max_roots.ensures) in
    let taken = c.in_default-take_marks.ensures in
    rw c.in_ok-heads.ensures.items (lent-sound edition words roots heads bits few few_roots c.in_default.ensures.all taken.kept taken.apart)
