use Rattle.pinned_heap.proofs.Whole.{slid-whole, tables-whole}
use Rattle.pinned_heap.proofs.sliding.slide_around.Goals as goal

pub slide_part-requires-clause-tables : goal.slide_part-requires-clause-tables
slide_part-requires-clause-tables c = tables-whole c.args.edition c.args.words.now c.args.heads.now c.args.bits.now c.args.counts.now c.args.stays.now c.requires.tables c.requires.objects

pub returns : goal.returns
returns c =
    slid-whole c.args.edition c.args.words.now c.args.heads.now c.args.bits.now c.args.counts.now c.args.stays.now c.requires.tables c.requires.objects c.slide_part.new.part c.slide_part.ensures
