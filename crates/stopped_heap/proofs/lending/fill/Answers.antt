use Rattle.std.proofs.Common.{◌≡◌, List, length, drop, subst, ◌∙◌, ℕ, arith}
use Rattle.std.proofs.lemmas.Grind.{common_steps}
use Rattle.std.proofs.lemmas.List.{take_at}
use Rattle.mark_tables.specs.MarkBitmap.{AreOffsets}
use Rattle.rest_marks.proofs.Surveying.{IsMarkedBy, are-reached, sound-of, told-sound, told-indices}
use Rattle.stopped_heap.proofs.lending.fill.Goals as goal

pub returns-clause-reached : goal.returns-clause-reached
returns-clause-reached c =
    let edition = c.args.edition in
    let words = c.args.words.now in
    let roots = c.args.roots.now in
    let heads = c.mark_with.new.heads in
    let bits = c.mark_with.new.bits in
    let heads_long : length heads ≡ c.clear.new.bits.len = grind (arith, common_steps, c.mark_with.ensures.same) in
    let bits_long : length bits ≡ c.clear-2.new.bits.len = grind (arith, common_steps, c.mark_with.ensures.long) in
    let marked : IsMarkedBy edition words roots heads bits = record {
      few_words = c.requires.sizes.0;
      few_roots = c.requires.sizes.1;
      reached = c.in_ok-mark_with.ensures.reached;
      all = c.in_ok-mark_with.ensures.all;
      done = c.in_ok-mark_with.ensures.done;
      only = c.in_ok-mark_with.ensures.only;
      apart = c.in_ok-mark_with.ensures.apart;
      roots_lead = c.in_ok-mark_with.ensures.roots;
      room = omega (arith, bits_long, c.clear-2.ensures.len, c.div_ceil-blocks.ensures);
    } in
    rw (take_at heads (drop (length heads) c.clear.new.bits.items) c.clear.new.bits.len heads_long)
    (are-reached edition words roots heads bits marked)

pub returns-clause-sound : goal.returns-clause-sound
returns-clause-sound c =
    let edition = c.args.edition in
    let words = c.args.words.now in
    let roots = c.args.roots.now in
    let heads = c.mark_with.new.heads in
    let bits = c.mark_with.new.bits in
    let heads_long : length heads ≡ c.clear.new.bits.len = grind (arith, common_steps, c.mark_with.ensures.same) in
    let bits_long : length bits ≡ c.clear-2.new.bits.len = grind (arith, common_steps, c.mark_with.ensures.long) in
    let marked : IsMarkedBy edition words roots heads bits = record {
      few_words = c.requires.sizes.0;
      few_roots = c.requires.sizes.1;
      reached = c.in_ok-mark_with.ensures.reached;
      all = c.in_ok-mark_with.ensures.all;
      done = c.in_ok-mark_with.ensures.done;
      only = c.in_ok-mark_with.ensures.only;
      apart = c.in_ok-mark_with.ensures.apart;
      roots_lead = c.in_ok-mark_with.ensures.roots;
      room = omega (arith, bits_long, c.clear-2.ensures.len, c.div_ceil-blocks.ensures);
    } in
    rw (take_at heads (drop (length heads) c.clear.new.bits.items) c.clear.new.bits.len heads_long)
    (sound-of edition words roots heads bits marked)

pub returns-clause-tables : goal.returns-clause-tables
returns-clause-tables c =
    let edition = c.args.edition in
    let words = c.args.words.now in
    let roots = c.args.roots.now in
    let heads = c.mark_with.new.heads in
    let bits = c.mark_with.new.bits in
    let heads_long : length heads ≡ c.clear.new.bits.len = grind (arith, common_steps, c.mark_with.ensures.same) in
    let bits_long : length bits ≡ c.clear-2.new.bits.len = grind (arith, common_steps, c.mark_with.ensures.long) in
    let marked : IsMarkedBy edition words roots heads bits = record {
      few_words = c.requires.sizes.0;
      few_roots = c.requires.sizes.1;
      reached = c.in_ok-mark_with.ensures.reached;
      all = c.in_ok-mark_with.ensures.all;
      done = c.in_ok-mark_with.ensures.done;
      only = c.in_ok-mark_with.ensures.only;
      apart = c.in_ok-mark_with.ensures.apart;
      roots_lead = c.in_ok-mark_with.ensures.roots;
      room = omega (arith, bits_long, c.clear-2.ensures.len, c.div_ceil-blocks.ensures);
    } in
    let counts = c.put_offsets.new.offsets.items in
    let whole = take_at bits (drop (length bits) c.clear-2.new.bits.items) c.clear-2.new.bits.len bits_long in
    let offsets : AreOffsets bits counts = subst (λ (bs : List ℕ). AreOffsets bs counts) (c.deref.ensures.value ∙ whole) c.put_offsets.ensures.offsets in
    rw (take_at heads (drop (length heads) c.clear.new.bits.items) c.clear.new.bits.len heads_long, whole) (record {
      sound = told-sound edition words roots heads bits marked;
      indices = told-indices edition words roots heads bits marked;
      offsets = offsets;
      same = omega (arith, heads_long, bits_long, c.clear.ensures.len, c.clear-2.ensures.len);
    })

pub returns-clause-long : goal.returns-clause-long
returns-clause-long c =
    let heads = c.mark_with.new.heads in
    let heads_long : length heads ≡ c.clear.new.bits.len = grind (arith, common_steps, c.mark_with.ensures.same) in
    rw (take_at heads (drop (length heads) c.clear.new.bits.items) c.clear.new.bits.len heads_long)
    (omega (arith, heads_long, c.clear.ensures.len, c.div_ceil-blocks.ensures))
