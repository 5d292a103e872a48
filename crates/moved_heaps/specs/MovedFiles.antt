-- The bytes of a moved heap. All numbers are little-endian; nothing is padded.
--     magic        8 bytes, `COMPMOVE`
--     version      4 bytes: 1 in edition one, 2 in edition two, 3 in edition three, 4 in edition four
--     counts       4 bytes each: places, roots, words
--     places       4 bytes each
--     roots        8 bytes each
--     words        8 bytes each
use Rattle.std.specs.Prelude.{ℕ, ◌^◌, ◌<◌, ◌≤◌, List, ◌++◌, length, codes, All}
use Rattle.std.specs.List.{flat_map}
use Rattle.heap_layout.specs.declared.edition.Edition.{Edition}
use Rattle.heap_layout.specs.Limits.{most_words, most_roots}
use Rattle.heap_layout.specs.Versions.{version_of}
use Rattle.comp_dump.specs.DumpEncoding.{four_bytes, eight_bytes}
use Rattle.moved_heaps.specs.Moved.{Moved}

abbrev pub magic : List ℕ
magic = codes "COMPMOVE"

-- all that precedes the places
unfoldable pub head : Edition → ℕ → ℕ → ℕ → List ℕ
head edition places roots words = magic ++ (four_bytes (version_of edition) ++ (four_bytes places ++ (four_bytes roots ++ four_bytes words)))

-- the bytes of a moved heap
unfoldable pub moved_bytes : Moved → List ℕ
moved_bytes moved =
    head moved.edition (length moved.places) (length moved.roots) (length moved.words) ++ (flat_map four_bytes moved.places ++ (flat_map eight_bytes moved.roots ++ flat_map eight_bytes moved.words))

-- The numbers of places, roots and words that a file of this edition may have: no more places and roots than a heap may
-- have marks and roots, and as many words as to-space has at most in editions three and four, whatever the edition.
pub record AreCounts (edition : Edition) (places roots words : ℕ) : Type 0 where
  pub few_places : places ≤ most_words edition
  pub few_roots : roots ≤ most_roots edition
  pub few_words : words ≤ 2 ^ 31

-- the numbers fit the fields of the file
pub record IsStored (moved : Moved) : Type 0 where
  pub counts : AreCounts moved.edition (length moved.places) (length moved.roots) (length moved.words)
  pub places : All (λ place. place < 2 ^ 32) moved.places
  pub roots : All (λ root. root < 2 ^ 64) moved.roots
  pub words : All (λ word. word < 2 ^ 64) moved.words
