use Rattle.std.proofs.Common.{◌≡◌, ℕ, List, length, drop, subst, ◌∙◌, arith}
use Rattle.std.proofs.lemmas.Grind.{common_steps}
use Rattle.std.proofs.lemmas.List.{take_at}
use Rattle.mark_tables.specs.MarkBitmap.{AreOffsets}
use Rattle.rest_marks.proofs.Lent.{lent-sound, told-sound, told-indices}
use Rattle.rest_marks.proofs.Refusing.{marks-refused}
use Rattle.stopped_heap.proofs.lending.fill_by_marks.Goals as goal

pub returns-in-Err-take_marks-clause-fault : goal.returns-in-Err-take_marks-clause-fault
returns-in-Err-take_marks-clause-fault c =
    let roots = c.args.roots.now in
    marks-refused c.args.edition c.args.words.now roots c.args.marks.now c.in-Err-take_marks.fault (c.requires.sizes, c.requires.blocks) (c.in-Err-take_marks.ensures.fault roots)

pub returns-clause-sound : goal.returns-clause-sound
returns-clause-sound c =
    let edition = c.args.edition in
    let words = c.args.words.now in
    let roots = c.args.roots.now in
    let heads = c.args.marks.now in
    let bits = c.take_marks.new.bits in
    let few = c.requires.sizes.0 in
    let few_roots = c.requires.sizes.1 in
    let taken = c.in_default-take_marks.ensures in
    lent-sound edition words roots heads bits few few_roots c.in_default.ensures.all taken.kept taken.apart

pub returns-clause-tables : goal.returns-clause-tables
returns-clause-tables c =
    let edition = c.args.edition in
    let words = c.args.words.now in
    let roots = c.args.roots.now in
    let heads = c.args.marks.now in
    let bits = c.take_marks.new.bits in
    let few = c.requires.sizes.0 in
    let few_roots = c.requires.sizes.1 in
    let taken = c.in_default-take_marks.ensures in
    let counts = c.put_offsets.new.offsets.items in
    let bits_long : length bits ≡ c.clear.new.bits.len = grind (arith, common_steps, c.take_marks.ensures.long) in
    let whole = take_at bits (drop (length bits) c.clear.new.bits.items) c.clear.new.bits.len bits_long in
    let offsets : AreOffsets bits counts = subst (λ (bs : List ℕ). AreOffsets bs counts) (c.deref.ensures.value ∙ whole) c.put_offsets.ensures.offsets in
    rw whole (record {
      sound = told-sound edition words roots heads bits few few_roots c.in_default.ensures.all taken.kept taken.apart;
      indices = told-indices edition words roots heads bits few few_roots c.in_default.ensures.all taken.kept taken.apart taken.run taken.only
          (omega (arith, bits_long, c.clear.ensures.len, c.requires.blocks));
      offsets = offsets;
      same = omega (arith, bits_long, c.clear.ensures.len);
    })
