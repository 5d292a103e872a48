-- The words and roots that a collector left which stops the world, so that it has neither pages nor journals. All
-- numbers are little-endian; nothing is padded.
--     magic    8 bytes, `COMPWORD`
--     version  4 bytes: 1 in edition one, 2 in edition two, 3 in edition three, 4 in edition four
--     counts   4 bytes each: words, roots
--     roots    8 bytes each
--     words    8 bytes each, from the first word of to-space on
use Rattle.std.specs.Prelude.{◌≡◌, ℕ, ◌+◌, ◌*◌, ◌/◌, ◌^◌, ◌<◌, ◌≤◌, All, List, [], ◌∷◌, ◌++◌, codes, drop, length, map, replicate, take, Some}
use Rattle.std.specs.List.{flat_map, range_with_len}
use Rattle.heap_layout.specs.Limits.{most_roots, most_words}
use Rattle.heap_layout.specs.Versions.{version_of}
use Rattle.heap_layout.specs.declared.edition.Edition.{Edition}
use Rattle.comp_dump.specs.Dumped.{BuiltPage, Dumped}
use Rattle.comp_dump.specs.DumpEncoding.{eight_bytes, four_bytes}

-- the edition of the heap, its roots after the collection, and the words of to-space
pub record WordsFile : Type 0 where
  pub edition : Edition
  pub roots : List ℕ
  pub words : List ℕ

-- the numbers fit the fields in which a file stores them
pub record AreStoredWords (file : WordsFile) : Type 0 where
  pub few_words : length file.words ≤ most_words file.edition
  pub few_roots : length file.roots ≤ most_roots file.edition
  pub roots : All (λ root. root < 2 ^ 64) file.roots
  pub words : All (λ word. word < 2 ^ 64) file.words

abbrev pub words_magic : List ℕ
words_magic = codes "COMPWORD"

-- the bytes of a file
unfoldable pub words_bytes : WordsFile → List ℕ
words_bytes file =
    words_magic
    ++ (four_bytes (version_of file.edition)
    ++ (four_bytes (length file.words)
    ++ (four_bytes (length file.roots)
    ++ (flat_map eight_bytes file.roots
    ++ flat_map eight_bytes file.words))))

-- how many pages the words fill; the last page may be filled in part
abbrev pub pages_filled : List ℕ → ℕ
pages_filled words = (length words + 63) / 64

-- page p of the words, with zeros after the last word, and no entry
abbrev pub page_of_words : List ℕ → ℕ → BuiltPage
page_of_words words p = record { words = take 64 (drop (64 * p) words ++ replicate 64 0); journal = [] }

-- the dump for which the file stands: one mutator built all pages, in their order, and no page is fresh
abbrev pub dump_of_words : WordsFile → Dumped
dump_of_words file = record {
  edition = file.edition;
  mutators = 1;
  fresh = 0;
  roots = file.roots;
  pages = map (λ p. Some (page_of_words file.words p)) (range_with_len 0 (pages_filled file.words));
  builds = range_with_len 0 (pages_filled file.words) ∷ [];
  total = length file.words;
}

-- these are the bytes of a file, and this is the dump for which it stands
pub record IsDumpOfWords (bytes : List ℕ) (dump : Dumped) : Type 0 where
  pub file : WordsFile
  pub stored : AreStoredWords file
  pub bytes_are : bytes ≡ words_bytes file
  pub dump_is : dump ≡ dump_of_words file
