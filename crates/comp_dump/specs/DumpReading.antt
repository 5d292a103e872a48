-- How a dump is read: field by field, from left to right. If the bytes end within a field, the fault is `Truncated`.
-- If a number is outside its range, the fault is `BadField`, whatever follows it.
use Rattle.std.specs.Prelude.{◌≡◌, ℕ, zero, suc, ◌+◌, ◌-◌, ◌^◌, ◌<◌, ◌||◌, ◌==◌, nat_lt, bytes_eq, Bool, false, ◌&&◌, List, [], ◌∷◌, length, take, drop, Option, Some, None, Result, Ok, Err, if◌then◌else◌}
use Rattle.byteorder.specs.Endian.{little_number}
use Rattle.heap_layout.specs.declared.edition.Edition.{Edition}
use Rattle.heap_layout.specs.declared.edition.Edition.TheVariants.{One, Two, Three, Four}
use Rattle.heap_layout.specs.declared.kind.Kind.{Kind}
use Rattle.heap_layout.specs.declared.kind.Kind.TheVariants.{Header, Reference, Weak, Data}
use Rattle.comp_journal.specs.declared.entry.Entry.{Entry}
use Rattle.heap_layout.specs.Limits.{most_pages, most_fresh_pages, most_roots}
use Rattle.heap_layout.specs.Versions.{version_of}
use Rattle.comp_dump.specs.Dumped.{Dumped, BuiltPage}
use Rattle.comp_dump.specs.Codes.{last_code}
use Rattle.comp_dump.specs.DumpEncoding.{magic}
use Rattle.comp_dump.specs.declared.fault.DumpFault.{DumpFault}
use Rattle.comp_dump.specs.declared.fault.DumpFault.TheVariants.{Truncated, TrailingBytes, BadMagic, BadField, OutOfMemory, Device}

-- what is read from the front of some bytes, with the bytes after it; or the first fault
abbrev pub Reading : Type 0 → Type 0
Reading A = List ℕ → Result (A × List ℕ) DumpFault

abbrev pub done : {A : Type 0} → A → Reading A
done x bytes = Ok (x, bytes)

abbrev pub go_on : {A B : Type 0} → Result (A × List ℕ) DumpFault → (A → Reading B) → Result (B × List ℕ) DumpFault
go_on (Ok x) next = next x.0 x.1
go_on (Err fault) next = Err fault

infixl 10 ◌>>=◌
abbrev pub ◌>>=◌ : {A B : Type 0} → Reading A → (A → Reading B) → Reading B
(first >>= next) bytes = go_on (first bytes) next

-- a number of `width` bytes from `low` to `high`
unfoldable pub number : ℕ → ℕ → ℕ → Reading ℕ
number width low high bytes =
    if nat_lt (length bytes) width then Err Truncated
    else if nat_lt (little_number width bytes) low || nat_lt high (little_number width bytes) then Err BadField
    else Ok (little_number width bytes, drop width bytes)

-- the same reading, n times
unfoldable pub times_read : {A : Type 0} → ℕ → Reading A → Reading (List A)
times_read zero each = done []
times_read (suc n) each = do
  first ← each
  others ← times_read n each
  done (first ∷ others)

abbrev pub word : Reading ℕ
word = number 8 0 (2 ^ 64 - 1)

abbrev pub kind_of : ℕ → Kind
kind_of zero = Header
kind_of (suc zero) = Reference
kind_of (suc (suc zero)) = Data
kind_of (suc (suc (suc _))) = Weak

unfoldable pub kind : Edition → Reading Kind
kind edition = do
  code ← number 1 0 (last_code edition)
  done (kind_of code)

unfoldable pub entry : Edition → ℕ → Reading Entry
entry edition mutators = do
  stamp ← word
  writer ← number 1 0 (mutators - 1)
  its_kind ← kind edition
  offset ← number 1 0 63
  value ← word
  done (record { stamp = stamp; writer = writer; kind = its_kind; offset = offset; value = value })

unfoldable pub built : Edition → ℕ → Reading BuiltPage
built edition mutators = do
  words ← times_read 64 word
  entries ← number 4 0 1024
  journal ← times_read entries (entry edition mutators)
  done (record { words = words; journal = journal })

-- after a 0 a page that was never built, after a 1 a page
abbrev pub page_behind : Edition → ℕ → ℕ → Reading (Option BuiltPage)
page_behind edition mutators zero = done None
page_behind edition mutators (suc _) = do
  its_page ← built edition mutators
  done (Some its_page)

unfoldable pub page : Edition → ℕ → Reading (Option BuiltPage)
page edition mutators = do
  is_built ← number 1 0 1
  page_behind edition mutators is_built

unfoldable pub builds : ℕ → Reading (List ℕ)
builds pages = do
  count ← number 4 0 pages
  times_read count (number 4 0 (pages - 1))

-- exactly these bytes
unfoldable pub expected : List ℕ → Reading (List ℕ)
expected wanted bytes =
    if nat_lt (length bytes) (length wanted) then Err Truncated
    else if bytes_eq (take (length wanted) bytes) wanted then Ok (wanted, drop (length wanted) bytes)
    else Err BadMagic

-- the version, read as the edition that it gives; versions 3 and 4 only if `large`
unfoldable pub edition : Bool → Reading Edition
edition large bytes =
    if nat_lt (length bytes) 4 then Err Truncated
    else if little_number 4 bytes == version_of One then Ok (One, drop 4 bytes)
    else if little_number 4 bytes == version_of Two then Ok (Two, drop 4 bytes)
    else if large && (little_number 4 bytes == version_of Three) then Ok (Three, drop 4 bytes)
    else if large && (little_number 4 bytes == version_of Four) then Ok (Four, drop 4 bytes)
    else Err BadMagic

-- the edition, and the numbers of mutators, fresh pages, pages and roots
pub record Counts : Type 0 where
  pub edition : Edition
  pub mutators : ℕ
  pub fresh : ℕ
  pub pages : ℕ
  pub roots : ℕ

-- all that precedes the roots
unfoldable pub head : Bool → Reading Counts
head large = do
  magic_bytes ← expected magic
  its_edition ← edition large
  mutators ← number 4 1 64
  fresh ← number 4 0 (most_fresh_pages its_edition)
  pages ← number 4 fresh (most_pages its_edition + most_fresh_pages its_edition)
  roots ← number 4 0 (most_roots its_edition)
  done (record { edition = its_edition; mutators = mutators; fresh = fresh; pages = pages; roots = roots })

-- a dump, and the bytes after it
unfoldable pub dump : Bool → Reading Dumped
dump large = do
  counts ← head large
  roots ← times_read counts.roots word
  pages ← times_read counts.pages (page counts.edition counts.mutators)
  lists ← times_read counts.mutators (builds counts.pages)
  total ← word
  done (record { edition = counts.edition; mutators = counts.mutators; fresh = counts.fresh; roots = roots; pages = pages; builds = lists; total = total })

-- no byte may follow
abbrev pub ended : {A : Type 0} → A → List ℕ → Result A DumpFault
ended x [] = Ok x
ended x (_ ∷ _) = Err TrailingBytes

abbrev pub whole : {A : Type 0} → Result (A × List ℕ) DumpFault → Result A DumpFault
whole (Ok x) = ended x.0 x.1
whole (Err fault) = Err fault

-- all bytes, read as a dump, of edition three or four only if `large`
abbrev pub read_whole_by : Bool → List ℕ → Result Dumped DumpFault
read_whole_by large bytes = whole (dump large bytes)

-- all bytes, read as a dump of edition one or two
abbrev pub read_whole : List ℕ → Result Dumped DumpFault
read_whole bytes = read_whole_by false bytes

-- The fault is the one that reading answers. Bytes do not say when memory runs out or the device fails.
abbrev pub Fails : {A : Type 0} → DumpFault → Result A DumpFault → Type 0
Fails OutOfMemory read = Unit {0}
Fails Device read = Unit {0}
Fails fault read = read ≡ Err fault

-- the same of the bytes that a reader has left, if they are known
abbrev pub Stops : {A : Type 0} → Reading A → Option (List ℕ) → DumpFault → Type 0
Stops reading None fault = Unit {0}
Stops reading (Some bytes) fault = Fails fault (reading bytes)

-- A call answers `Device` if and only if one more call of the device failed.
abbrev pub CountsFailure : {T : Type 0} → ℕ → ℕ → Result T DumpFault → Type 0
CountsFailure before after (Ok _) = after ≡ before
CountsFailure before after (Err Device) = after ≡ before + 1
CountsFailure before after (Err _) = after ≡ before

-- A part of n bytes was not filled: fewer bytes are left, or a call of the device failed.
abbrev pub EndsBefore : ℕ → DumpFault → List ℕ → Type 0
EndsBefore n Truncated bytes = length bytes < n
EndsBefore n Device bytes = Unit {0}
EndsBefore n _ bytes = ⊥

-- The end was not found: a byte follows, or a call of the device failed.
abbrev pub RefusesEnd : DumpFault → List ℕ → Type 0
RefusesEnd TrailingBytes bytes = 0 < length bytes
RefusesEnd Device bytes = Unit {0}
RefusesEnd _ bytes = ⊥
