-- The bytes of a dump. All numbers are little-endian; nothing is padded.
--     magic        8 bytes, `COMPDUMP`
--     version      4 bytes: 1 in edition one, 2 in edition two, 3 in edition three, 4 in edition four
--     counts       4 bytes each: mutators, fresh pages, all pages, roots
--     roots        8 bytes each
--     pages        1 byte for a page that was never built: 0. Else
--         built    1 byte: 1
--         words    8 bytes each: 64 words
--         count    4 bytes: the number of its entries
--         entries  19 bytes each
--     builds       for each mutator
--         count    4 bytes: the number of the pages that it built
--         pages    4 bytes each: their numbers
--     total        8 bytes
-- An entry has a stamp (8 bytes), a writer (1), a kind (1), an offset (1) and a value (8).
use Rattle.std.specs.Prelude.{ℕ, List, ◌++◌, length, codes, Option, Some, None}
use Rattle.std.specs.List.{flat_map}
use Rattle.byteorder.specs.Endian.{little_bytes}
use Rattle.heap_layout.specs.declared.edition.Edition.{Edition}
use Rattle.comp_journal.specs.declared.entry.Entry.{Entry}
use Rattle.heap_layout.specs.Versions.{version_of}
use Rattle.comp_dump.specs.Codes.{kind_code}
use Rattle.comp_dump.specs.Dumped.{Dumped, BuiltPage}

abbrev pub four_bytes : ℕ → List ℕ
four_bytes n = little_bytes 4 n

abbrev pub eight_bytes : ℕ → List ℕ
eight_bytes n = little_bytes 8 n

abbrev pub one_byte : ℕ → List ℕ
one_byte n = little_bytes 1 n

abbrev pub magic : List ℕ
magic = codes "COMPDUMP"

-- all that precedes the roots
unfoldable pub head : Edition → ℕ → ℕ → ℕ → ℕ → List ℕ
head edition mutators fresh pages roots = magic ++ (four_bytes (version_of edition) ++ (four_bytes mutators ++ (four_bytes fresh ++ (four_bytes pages ++ four_bytes roots))))

unfoldable pub entry_bytes : Entry → List ℕ
entry_bytes e = eight_bytes e.stamp ++ (one_byte e.writer ++ (one_byte (kind_code e.kind) ++ (one_byte e.offset ++ eight_bytes e.value)))

-- the length of a list in 4 bytes, then each element
abbrev pub counted : {T : Type 0} → (T → List ℕ) → List T → List ℕ
counted bytes list = four_bytes (length list) ++ flat_map bytes list

-- a page that was built
unfoldable pub built_bytes : BuiltPage → List ℕ
built_bytes page = flat_map eight_bytes page.words ++ counted entry_bytes page.journal

-- a byte 0 for a page that was never built, or a byte 1 and the page
abbrev pub page_bytes : Option BuiltPage → List ℕ
page_bytes None = one_byte 0
page_bytes (Some page) = one_byte 1 ++ built_bytes page

-- the pages that one mutator built
abbrev pub builds_bytes : List ℕ → List ℕ
builds_bytes list = counted four_bytes list

-- all that precedes the build lists
unfoldable pub front_bytes : Edition → ℕ → ℕ → List ℕ → List (Option BuiltPage) → List ℕ
front_bytes edition mutators fresh roots pages = head edition mutators fresh (length pages) (length roots) ++ (flat_map eight_bytes roots ++ flat_map page_bytes pages)

-- the bytes of a dump
unfoldable pub dump_bytes : Dumped → List ℕ
dump_bytes dump = front_bytes dump.edition dump.mutators dump.fresh dump.roots dump.pages ++ (flat_map builds_bytes dump.builds ++ eight_bytes dump.total)
