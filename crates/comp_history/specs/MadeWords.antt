-- How many words are in the objects that entries make.
use Rattle.std.specs.Prelude.{ℕ, List}
use Rattle.heap_layout.specs.Header.{size_of, header_of}
use Rattle.heap_layout.specs.declared.kind.Kind.{Kind}
use Rattle.heap_layout.specs.declared.kind.Kind.TheVariants.{Header, Reference, Weak, Data}
use Rattle.heap_layout.specs.declared.edition.Edition.{Edition}
use Rattle.comp_journal.specs.declared.entry.Entry.{Entry}
use Rattle.cell_steps.specs.Lists.{total}

-- how many words are in the object that an entry makes: only a header makes one
abbrev pub words_by : Edition → Kind → ℕ → ℕ
words_by edition Header value = size_of (header_of edition value)
words_by edition Reference value = 0
words_by edition Weak value = 0
words_by edition Data value = 0

-- how many words are in all objects that the entries make
abbrev pub allocated : Edition → List (ℕ × Entry) → ℕ
allocated edition entries = total (λ (x : ℕ × Entry). words_by edition x.1.kind x.1.value) entries
