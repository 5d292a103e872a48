use Rattle.std.proofs.Common.{◌∙◌, ◌++◌, List, length, get_or, ap, sym, arith}
use Rattle.heap_layout.specs.declared.kind.Kind.{Kind}
use Rattle.heap_layout.specs.declared.kind.Kind.TheVariants.{Header}
use Rattle.comp_journal.specs.declared.entry.Entry.{Entry}
use Rattle.cell_steps.specs.Lawful.{kinds_by}
use Rattle.comp_history.proofs.JournalKinds.{filled_front, kinds_more}
use Rattle.comp_history.proofs.kinds.kinds_made.Goals as goal

-- a default entry
abbrev no_entry : Entry
no_entry = record { stamp = 0; writer = 0; kind = Header; offset = 0; value = 0 }

pub add_kinds-requires : goal.add_kinds-requires
add_kinds-requires c =
    let few = filled_front c.args.edition c.args.journal.now c.loop-entry.entry-index no_entry c.loop-entry-test.true in
    omega (arith, few, ap length c.loop-entry.invariant.made, c.loop-entry.invariant.room, c.requires)

pub loop-entry-preserved : goal.loop-entry-preserved
loop-entry-preserved c =
    let i = c.loop-entry.invariant in
    let j = c.args.journal.now in
    let k = c.loop-entry.entry-index in
    let e = get_or j k no_entry in
    record {
      made = c.add_kinds.ensures.items ∙ ap (λ (front : List Kind). front ++ kinds_by c.args.edition e.kind e.value) i.made ∙ sym (kinds_more c.args.edition j k no_entry c.loop-entry-test.true);
      room = omega (arith, c.add_kinds.ensures.capacity, i.room);
    }
