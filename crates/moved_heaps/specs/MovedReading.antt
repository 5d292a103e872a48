-- How a moved heap is read: field by field, from left to right, as a dump is.
use Rattle.std.specs.Prelude.{ℕ, ◌-◌, ◌^◌, Bool, List, Result}
use Rattle.heap_layout.specs.declared.edition.Edition.{Edition}
use Rattle.heap_layout.specs.Limits.{most_words, most_roots}
use Rattle.comp_dump.specs.DumpReading as dumps
use Rattle.comp_dump.specs.DumpReading.{Reading, done, ◌>>=◌, expected, number, times_read, whole, word}
use Rattle.comp_dump.specs.declared.fault.DumpFault.{DumpFault}
use Rattle.moved_heaps.specs.Moved.{Moved}
use Rattle.moved_heaps.specs.MovedFiles.{magic}

-- the edition, and the numbers of places, roots and words
pub record Counts : Type 0 where
  pub edition : Edition
  pub places : ℕ
  pub roots : ℕ
  pub words : ℕ

-- all that precedes the places; version 3 only if `large`
unfoldable pub head : Bool → Reading Counts
head large = do
  magic_bytes ← expected magic
  its_edition ← dumps.edition large
  places ← number 4 0 (most_words its_edition)
  roots ← number 4 0 (most_roots its_edition)
  words ← number 4 0 (2 ^ 31)
  done (record { edition = its_edition; places = places; roots = roots; words = words })

-- any number of 4 bytes
abbrev pub index : Reading ℕ
index = number 4 0 (2 ^ 32 - 1)

-- a moved heap, and the bytes after it
unfoldable pub moved : Bool → Reading Moved
moved large = do
  counts ← head large
  places ← times_read counts.places index
  roots ← times_read counts.roots word
  words ← times_read counts.words word
  done (record { edition = counts.edition; places = places; roots = roots; words = words })

-- all bytes, read as a moved heap, of edition three or four only if `large`
abbrev pub read_whole : Bool → List ℕ → Result Moved DumpFault
read_whole large bytes = whole (moved large bytes)
