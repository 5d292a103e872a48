use Rattle.std.proofs.Common.{◌≡◌, ℕ, List, length, drop, subst, ◌∙◌, arith}
use Rattle.std.proofs.lemmas.Grind.{common_steps}
use Rattle.std.proofs.lemmas.List.{take_at}
use Rattle.mark_tables.specs.MarkBitmap.{AreOffsets}
use Rattle.rest_marks.proofs.Surveying.{IsMarkedBy, are-reached, sound-of, told-sound, told-indices}
use Rattle.stopped_heap.proofs.making.tables_of.Goals as goal

pub returns : goal.returns
returns c =
    let edition = c.args.edition in
    let words = c.args.words.now in
    let roots = c.args.roots.now in
    let heads = c.mark.new.heads in
    let bits = c.mark.new.bits in
    let heads_long : length heads ≡ c.in_ok-heads.heads.len = grind (arith, common_steps, c.mark.ensures.same) in
    let bits_long : length bits ≡ c.in_ok-bits.bits.len = grind (arith, common_steps, c.mark.ensures.long) in
    let marked : IsMarkedBy edition words roots heads bits = record {
      few_words = omega (arith, c.if-words-max_words.false, c.max_words.ensures);
      few_roots = omega (arith, c.if-roots-max_roots.false, c.max_roots.ensures);
      reached = c.in_ok-mark.ensures.reached;
      all = c.in_ok-mark.ensures.all;
      done = c.in_ok-mark.ensures.done;
      only = c.in_ok-mark.ensures.only;
      apart = c.in_ok-mark.ensures.apart;
      roots_lead = c.in_ok-mark.ensures.roots;
      room = omega (arith, bits_long, c.in_ok-bits.ensures.len, c.div_ceil-blocks.ensures);
    } in
    let counts = c.in_ok-counts.counts.items in
    let whole = take_at bits (drop (length bits) c.in_ok-bits.bits.items) c.in_ok-bits.bits.len bits_long in
    let offsets : AreOffsets bits counts = subst (λ (bs : List ℕ). AreOffsets bs counts) (c.deref.ensures.value ∙ whole) c.in_ok-counts.ensures in
    rw (take_at heads (drop (length heads) c.in_ok-heads.heads.items) c.in_ok-heads.heads.len heads_long, whole) (record {
      reached = are-reached edition words roots heads bits marked;
      sound = sound-of edition words roots heads bits marked;
      tables = record {
        sound = told-sound edition words roots heads bits marked;
        indices = told-indices edition words roots heads bits marked;
        offsets = offsets;
        same = omega (arith, heads_long, bits_long, c.in_ok-heads.ensures.len, c.in_ok-bits.ensures.len);
      };
      long = omega (arith, heads_long, c.in_ok-heads.ensures.len, c.div_ceil-blocks.ensures);
      fault = tt;
    })
