-- How a file of words and roots is read: field by field, from left to right, by the same rules as a dump.
use Rattle.std.specs.Prelude.{ℕ, Bool, List, Result}
use Rattle.heap_layout.specs.Limits.{most_roots, most_words}
use Rattle.comp_dump.specs.Dumped.{Dumped}
use Rattle.comp_dump.specs.DumpReading.{Reading, done, edition, expected, number, times_read, whole, word, ◌>>=◌}
use Rattle.comp_dump.specs.WordsEncoding.{WordsFile, dump_of_words, words_magic}
use Rattle.comp_dump.specs.declared.fault.DumpFault.{DumpFault}

-- a file, of edition three or four only if `large`, and the bytes after it
unfoldable pub words_file : Bool → Reading WordsFile
words_file large = do
  magic_bytes ← expected words_magic
  its_edition ← edition large
  count ← number 4 0 (most_words its_edition)
  of_roots ← number 4 0 (most_roots its_edition)
  roots ← times_read of_roots word
  words ← times_read count word
  done (record { edition = its_edition; roots = roots; words = words })

-- the dump for which the file stands
abbrev pub words_dump : Bool → Reading Dumped
words_dump large = do
  file ← words_file large
  done (dump_of_words file)

-- all bytes, read as a file of words and roots, of edition three or four only if `large`
abbrev pub read_whole_words : Bool → List ℕ → Result Dumped DumpFault
read_whole_words large bytes = whole (words_dump large bytes)
