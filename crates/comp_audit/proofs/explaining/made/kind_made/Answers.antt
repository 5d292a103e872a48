use Rattle.std.proofs.Common.{◌∙◌, get_or, refl, sym, ap, arith}
use Rattle.std.specs.Prelude.{slice_get}
use Rattle.heap_layout.specs.declared.kind.Kind.TheVariants.{Header}
use Rattle.heap_layout.specs.Header.{Head}
use Rattle.comp_dump.specs.Entry.{Entry}
use Rattle.comp_dump.specs.Lawful.{kinds_of_header}
use Rattle.comp_audit.proofs.Causes.{kind_here, kind_later}
use Rattle.comp_audit.proofs.explaining.made.kind_made.Goals as goal

-- a default entry
abbrev no_entry : Entry
no_entry = record { stamp = 0; writer = 0; kind = Header; offset = 0; value = 0 }

pub returns-then-left-words : goal.returns-then-left-words
returns-then-left-words c =
    let j = c.args.journal.now in
    let i = c.loop-entry.entry-index in
    let e = get_or j i no_entry in
    sym (kind_here c.args.edition j i no_entry e c.loop-entry.left c.kind_within.result c.loop-entry-test.true refl (omega (arith, c.if-left-words.true, c.words_made-words.ensures.words))
    (ap (λ (h : Head). slice_get (kinds_of_header h) c.loop-entry.left) (sym c.from_word_of.ensures) ∙ c.kind_within.ensures))
    ∙ c.loop-entry.invariant

pub loop-entry-preserved : goal.loop-entry-preserved
loop-entry-preserved c =
    let j = c.args.journal.now in
    let i = c.loop-entry.entry-index in
    let e = get_or j i no_entry in
    kind_later c.args.edition j i no_entry e c.loop-entry.left c.words_made-words.result c.loop-entry-test.true refl c.words_made-words.ensures.words c.if-left-words.false
    ∙ c.loop-entry.invariant
