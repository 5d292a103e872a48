use Rattle.pinned_heap.proofs.Whole.{slid-whole, tables-whole}
use Rattle.pinned_heap.proofs.parts.slide_around_by_threads.Goals as goal

pub slide_parts-requires-clause-tables : goal.slide_parts-requires-clause-tables
slide_parts-requires-clause-tables g c = λ _ _. tables-whole c.args.edition c.args.words.now c.args.heads.now c.args.bits.now c.args.counts.now c.args.stays.now c.requires.tables c.requires.objects

pub returns : goal.returns
returns g c =
    slid-whole c.args.edition c.args.words.now c.args.heads.now c.args.bits.now c.args.counts.now c.args.stays.now c.requires.tables c.requires.objects c.slide_parts.new.part c.slide_parts.ensures
