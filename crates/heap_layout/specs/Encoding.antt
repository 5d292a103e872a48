-- The bytes of a heap image. All numbers are little-endian; nothing is padded.
--     magic      8 bytes, `COMPHEAP`
--     version    4 bytes: 1 in edition one, 2 in edition two, 3 in edition three, 4 in edition four
--     counts     4 bytes each: words, marks, roots
--     words      8 bytes each, index 0 first
--     marks      4 bytes each
--     roots      8 bytes each
use Rattle.std.specs.Prelude.{◌≡◌, ◌≢◌, ℕ, ◌+◌, ◌*◌, ◌^◌, ◌<◌, ◌≤◌, ◌⊎◌, Bool, false, List, ◌++◌, length, take, codes}
use Rattle.std.specs.Int.{w32, w64, to_le_bytes}
use Rattle.std.specs.List.{flat_map}
use Rattle.heap_layout.specs.declared.edition.Edition.{Edition}
use Rattle.heap_layout.specs.Heap.{Heap, IsStored}
use Rattle.heap_layout.specs.Faults.{faults, IsFirst, IsAccepted}
use Rattle.heap_layout.specs.Limits.{most_words, most_roots}
use Rattle.heap_layout.specs.Versions.{version_of, IsRead}
use Rattle.heap_layout.specs.declared.fault.LayoutFault.{LayoutFault}
use Rattle.heap_layout.specs.declared.fault.LayoutFault.TheVariants.{TooLarge, ObjectPastEnd, ObjectTooLong, MarkNotStart, MarksNotRising, BadRoot, UnmarkedTarget, BadWeak, Truncated, TrailingBytes, BadMagic, OutOfMemory, Device}

abbrev pub four_bytes : ℕ → List ℕ
four_bytes n = to_le_bytes w32 n

abbrev pub eight_bytes : ℕ → List ℕ
eight_bytes n = to_le_bytes w64 n

abbrev pub magic : List ℕ
magic = codes "COMPHEAP"

-- the version of an edition, in 4 bytes
abbrev pub version : Edition → List ℕ
version edition = four_bytes (version_of edition)

-- the magic and the version
abbrev pub preamble : Edition → List ℕ
preamble edition = magic ++ version edition

abbrev pub counts : ℕ → ℕ → ℕ → List ℕ
counts words marks roots = four_bytes words ++ four_bytes marks ++ four_bytes roots

-- all that stands before the words
abbrev pub head : Edition → ℕ → ℕ → ℕ → List ℕ
head edition words marks roots = preamble edition ++ counts words marks roots

-- the image of a heap
abbrev pub encoding : Heap → List ℕ
encoding heap =
    head heap.edition (length heap.words) (length heap.marks) (length heap.roots)
    ++ flat_map eight_bytes heap.words
    ++ flat_map four_bytes heap.marks
    ++ flat_map eight_bytes heap.roots

-- how many bytes follow the head
abbrev pub body_len : ℕ → ℕ → ℕ → ℕ
body_len words marks roots = 8 * words + 4 * marks + 8 * roots

-- the counts are within the limits of the edition
pub record AreWithin (edition : Edition) (words marks roots : ℕ) : Type 0 where
  pub few_words : words ≤ most_words edition
  pub few_marks : marks ≤ most_words edition
  pub few_roots : roots ≤ most_roots edition

-- one count is above its limit, and each fits its field
pub record IsOver (edition : Edition) (words marks roots : ℕ) : Type 0 where
  pub words_fit : words < 2 ^ 32
  pub marks_fit : marks < 2 ^ 32
  pub roots_fit : roots < 2 ^ 32
  pub over : (most_words edition < words) ⊎ (most_words edition < marks) ⊎ (most_roots edition < roots)

-- the counts fit the fields in which an image stores them
pub record AreCounted (heap : Heap) : Type 0 where
  pub words : length heap.words < 2 ^ 32
  pub marks : length heap.marks < 2 ^ 32
  pub roots : length heap.roots < 2 ^ 32

-- the bytes begin with `front`, and P holds of the rest
abbrev pub Behind : List ℕ → (List ℕ → Type 0) → List ℕ → Type 0
Behind front P bytes = (rest : List ℕ) × (bytes ≡ front ++ rest) × P rest

-- The bytes end within the magic, the version, the counts, or the numbers that the counts announce.
abbrev pub EndsInMagic : List ℕ → Type 0
EndsInMagic bytes = length bytes < 8

abbrev pub EndsInVersion : List ℕ → Type 0
EndsInVersion bytes = Behind magic (λ rest. length rest < 4) bytes

abbrev pub EndsInCounts : Bool → List ℕ → Type 0
EndsInCounts large bytes = (edition : Edition) × Behind (preamble edition) (λ rest. length rest < 12) bytes × IsRead large edition

abbrev pub EndsInBody : Bool → List ℕ → Type 0
EndsInBody large bytes =
    (edition : Edition) × (words marks roots : ℕ) × AreWithin edition words marks roots × Behind (head edition words marks roots) (λ rest. length rest < body_len words marks roots) bytes × IsRead large edition

-- the first 8 bytes are not the magic, or the 4 bytes after them are no version
abbrev pub HasOtherMagic : List ℕ → Type 0
HasOtherMagic bytes = (8 ≤ length bytes) × (take 8 bytes ≢ magic)

abbrev pub HasOtherVersion : Bool → List ℕ → Type 0
HasOtherVersion large bytes = Behind magic (λ rest. (4 ≤ length rest) × ((edition : Edition) → IsRead large edition → take 4 rest ≢ version edition)) bytes

-- a count is above its limit, whatever follows
abbrev pub HasLargeCount : Bool → List ℕ → Type 0
HasLargeCount large bytes = (edition : Edition) × (words marks roots : ℕ) × IsOver edition words marks roots × Behind (head edition words marks roots) (λ _. Unit {0}) bytes × IsRead large edition

-- a whole image, and at least one byte more
abbrev pub HasMore : Bool → List ℕ → Type 0
HasMore large bytes =
    (heap : Heap) × IsStored heap × AreWithin heap.edition (length heap.words) (length heap.marks) (length heap.roots) × Behind (encoding heap) (λ rest. 0 < length rest) bytes × IsRead large heap.edition

-- the image of a heap that has this fault as its first
abbrev pub HasHeapWith : Bool → LayoutFault → List ℕ → Type 0
HasHeapWith large fault bytes = (heap : Heap) × IsStored heap × (bytes ≡ encoding heap) × IsFirst (faults heap) fault × IsRead large heap.edition

-- for each fault of reading, the images whose parts are refused with it; running out of memory and a failing device do
-- not depend on the bytes
abbrev pub RefusesParts : Bool → LayoutFault → List ℕ → Type 0
RefusesParts large TooLarge bytes = HasLargeCount large bytes
RefusesParts large Truncated bytes = EndsInMagic bytes ⊎ EndsInVersion bytes ⊎ EndsInCounts large bytes ⊎ EndsInBody large bytes
RefusesParts large TrailingBytes bytes = HasMore large bytes
RefusesParts large BadMagic bytes = HasOtherMagic bytes ⊎ HasOtherVersion large bytes
RefusesParts large OutOfMemory bytes = Unit {0}
RefusesParts large Device bytes = Unit {0}
RefusesParts large _ bytes = ⊥

-- for each fault, the images that are refused with it: their parts are, or the heap of their parts is
abbrev pub RefusesBy : Bool → LayoutFault → List ℕ → Type 0
RefusesBy large TooLarge bytes = RefusesParts large TooLarge bytes
RefusesBy large (ObjectPastEnd i) bytes = HasHeapWith large (ObjectPastEnd i) bytes
RefusesBy large (ObjectTooLong i) bytes = HasHeapWith large (ObjectTooLong i) bytes
RefusesBy large (MarkNotStart i) bytes = HasHeapWith large (MarkNotStart i) bytes
RefusesBy large (MarksNotRising i) bytes = HasHeapWith large (MarksNotRising i) bytes
RefusesBy large (BadRoot k) bytes = HasHeapWith large (BadRoot k) bytes
RefusesBy large (UnmarkedTarget i) bytes = HasHeapWith large (UnmarkedTarget i) bytes
RefusesBy large (BadWeak i) bytes = HasHeapWith large (BadWeak i) bytes
RefusesBy large Truncated bytes = RefusesParts large Truncated bytes
RefusesBy large TrailingBytes bytes = RefusesParts large TrailingBytes bytes
RefusesBy large BadMagic bytes = RefusesParts large BadMagic bytes
RefusesBy large OutOfMemory bytes = Unit {0}
RefusesBy large Device bytes = Unit {0}

-- the same for the calls that read images of editions one and two
abbrev pub Refuses : LayoutFault → List ℕ → Type 0
Refuses fault bytes = RefusesBy false fault bytes

-- the fault depends on the bytes alone
abbrev pub IsOfBytes : LayoutFault → Type 0
IsOfBytes OutOfMemory = ⊥
IsOfBytes Device = ⊥
IsOfBytes _ = Unit {0}

-- no bytes are refused for two reasons
abbrev pub CausesExclude : Type 0
CausesExclude = (large : Bool) (bytes : List ℕ) (one other : LayoutFault) → IsOfBytes one → IsOfBytes other → RefusesBy large one bytes → RefusesBy large other bytes → one ≡ other

-- the image of an accepted heap is refused for no reason
abbrev pub AcceptedIsTaken : Type 0
AcceptedIsTaken = (large : Bool) (heap : Heap) (fault : LayoutFault) → IsRead large heap.edition → IsStored heap → IsAccepted heap → IsOfBytes fault → RefusesBy large fault (encoding heap) → ⊥

-- two heaps with the same image are the same heap
abbrev pub ImagesDiffer : Type 0
ImagesDiffer = (one other : Heap) → IsStored one → IsStored other → AreCounted one → AreCounted other → encoding one ≡ encoding other → one ≡ other

-- Why reading n bytes failed: there are fewer, a call of the device failed, or an allocation failed.
abbrev pub EndsBefore : ℕ → LayoutFault → List ℕ → Type 0
EndsBefore n Truncated bytes = length bytes < n
EndsBefore n OutOfMemory bytes = Unit {0}
EndsBefore n Device bytes = Unit {0}
EndsBefore n _ bytes = ⊥

-- Why reading the three counts failed: as for any 12 bytes, or one of them is above its limit.
abbrev pub RefusesCounts : Edition → LayoutFault → List ℕ → Type 0
RefusesCounts edition TooLarge bytes = (words marks roots : ℕ) × IsOver edition words marks roots × Behind (counts words marks roots) (λ _. Unit {0}) bytes
RefusesCounts edition fault bytes = EndsBefore 12 fault bytes

-- Why reading the end failed: a byte follows, or a call of the device failed.
abbrev pub RefusesEnd : LayoutFault → List ℕ → Type 0
RefusesEnd TrailingBytes bytes = 0 < length bytes
RefusesEnd Device bytes = Unit {0}
RefusesEnd _ bytes = ⊥
