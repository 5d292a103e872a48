-- The objects at which a marking looked, asked all at once.
use Rattle.std.specs.Prelude.{◌≡◌, ◌≢◌, ℕ, ◌+◌, ◌*◌, ◌<◌, ◌⊎◌, true, false, List, length, slice_index}
use Rattle.heap_layout.specs.declared.edition.Edition.{Edition}
use Rattle.heap_layout.specs.Bits.{bit, leads}
use Rattle.heap_layout.specs.Header.{refs_of, weak_of, size_of}
use Rattle.heap_layout.specs.Heap.{header_at, object_at, IsPlaced}
use Rattle.heap_layout.specs.Limits.{most_object_words}
use Rattle.heap_layout.specs.Values.{or_immediate}
use Rattle.rest_marks.specs.Looks.{Looking}
use Rattle.rest_marks.specs.Marks.{AllKept}
use Rattle.rest_marks.specs.Meeting.{AllLead}
use Rattle.rest_marks.specs.Reached.{IsStray, IsWordOf}
use Rattle.rest_marks.specs.declared.fault.CheckFault.{CheckFault}
use Rattle.rest_marks.specs.declared.fault.CheckFault.TheVariants.{WrongLength, Changed, Unmarked, BadWeak, Unowned, OutOfMemory}

-- the bits that were not set in these are set in those, and no others of as many
pub record AreOthers (bits others : List ℕ) : Type 0 where
  pub set : (j : ℕ) → j < 64 * length bits → bit bits j ≡ false → bit others j ≡ true
  pub unset : (j : ℕ) → bit bits j ≡ true → bit others j ≡ false

-- word j is a reference of the object at index i, and leads to no object whose bit is set
abbrev pub IsUnmarkedOf : Edition → List ℕ → List ℕ → ℕ → ℕ → Type 0
IsUnmarkedOf edition words heads i j =
    (f : ℕ) × (f < refs_of (header_at edition words i)) × (j ≡ i + 1 + f) × (or_immediate edition (leads heads) (slice_index words j) ≡ false)

-- word j is a weak word of the object at index i, and leads to no word
abbrev pub IsBadWeakOf : Edition → List ℕ → ℕ → ℕ → Type 0
IsBadWeakOf edition words i j =
    (f : ℕ) × (f < weak_of (header_at edition words i)) × (j ≡ i + 1 + refs_of (header_at edition words i) + f) × IsStray edition words (slice_index words j)

-- the object at index i is too long, or ends past the words
abbrev pub IsMisplaced : Edition → List ℕ → ℕ → Type 0
IsMisplaced edition words i =
    (most_object_words edition < size_of (header_at edition words i)) ⊎ (length words < i + size_of (header_at edition words i))

-- Why the object at index i is not as it must be; `taken` has the bits of the words that it may not have.
abbrev pub IsAskFault : Edition → List ℕ → List ℕ → List ℕ → ℕ → CheckFault → Type 0
IsAskFault edition words heads taken i WrongLength = ⊥
IsAskFault edition words heads taken i (Changed k) =
    (k ≡ i) × (IsMisplaced edition words i ⊎ ((j : ℕ) × IsWordOf edition words i j × (bit taken j ≡ true)))
IsAskFault edition words heads taken i (Unmarked j) = IsUnmarkedOf edition words heads i j
IsAskFault edition words heads taken i (BadWeak j) = IsBadWeakOf edition words i j
IsAskFault edition words heads taken i (Unowned j) = ⊥
IsAskFault edition words heads taken i OutOfMemory = ⊥

-- word j belongs to one of the first k of these objects
abbrev pub IsWordOfFirst : Edition → List ℕ → List ℕ → ℕ → ℕ → Type 0
IsWordOfFirst edition words objects k j = (l : ℕ) × (l < k) × IsWordOf edition words (slice_index objects l) j

-- The first k of these objects are as they must be. They share no word, and have none whose bit was set in `before`;
-- `taken` has these bits and those of their words.
pub record AreAsked (edition : Edition) (words heads objects : List ℕ) (k : ℕ) (before taken : List ℕ) : Type 0 where
  pub placed : (l : ℕ) → l < k → IsPlaced edition words (slice_index objects l)
  pub references : (l : ℕ) → l < k → AllKept edition heads (object_at edition words (slice_index objects l)).references
  pub weak : (l : ℕ) → l < k → AllLead edition (length words) (object_at edition words (slice_index objects l)).weak
  pub free : (l j : ℕ) → l < k → IsWordOf edition words (slice_index objects l) j → bit before j ≡ false
  pub set : (l j : ℕ) → l < k → IsWordOf edition words (slice_index objects l) j → bit taken j ≡ true
  pub stay : (j : ℕ) → bit before j ≡ true → bit taken j ≡ true
  pub only : (j : ℕ) → bit taken j ≡ true → (bit before j ≡ true) ⊎ IsWordOfFirst edition words objects k j
  pub apart : (l m j : ℕ) → l < m → m < k → IsWordOf edition words (slice_index objects l) j → IsWordOf edition words (slice_index objects m) j → ⊥

-- One of these objects is not: what it may not have are words whose bits were set in `before`, and those of the objects
-- before it.
abbrev pub IsAskedFault : Edition → List ℕ → List ℕ → List ℕ → ℕ → List ℕ → CheckFault → Type 0
IsAskedFault edition words heads objects many before WrongLength = ⊥
IsAskedFault edition words heads objects many before (Changed i) =
    (k : ℕ) × (k < many) × (i ≡ slice_index objects k)
    × (IsMisplaced edition words i
    ⊎ ((j : ℕ) × IsWordOf edition words i j × ((bit before j ≡ true) ⊎ IsWordOfFirst edition words objects k j)))
IsAskedFault edition words heads objects many before (Unmarked j) =
    (k : ℕ) × (k < many) × IsUnmarkedOf edition words heads (slice_index objects k) j
IsAskedFault edition words heads objects many before (BadWeak j) =
    (k : ℕ) × (k < many) × IsBadWeakOf edition words (slice_index objects k) j
IsAskedFault edition words heads objects many before (Unowned j) = ⊥
IsAskedFault edition words heads objects many before OutOfMemory = ⊥

-- Why the objects at which a marking looked are not, in these words, as they must be.
abbrev pub IsCheckFault : Looking → List ℕ → CheckFault → Type 0
IsCheckFault looking words WrongLength = length words ≢ looking.count
IsCheckFault looking words (Changed i) =
    (length words ≡ looking.count) × (k : ℕ) × (k < looking.looked) × (i ≡ slice_index looking.met k)
    × (IsMisplaced looking.edition words i
    ⊎ ((j : ℕ) × IsWordOf looking.edition words i j × ((bit looking.bits j ≡ false) ⊎ IsWordOfFirst looking.edition words looking.met k j)))
IsCheckFault looking words (Unmarked j) =
    (length words ≡ looking.count) × (k : ℕ) × (k < looking.looked) × IsUnmarkedOf looking.edition words looking.heads (slice_index looking.met k) j
IsCheckFault looking words (BadWeak j) =
    (length words ≡ looking.count) × (k : ℕ) × (k < looking.looked) × IsBadWeakOf looking.edition words (slice_index looking.met k) j
IsCheckFault looking words (Unowned j) =
    (length words ≡ looking.count) × (bit looking.bits j ≡ true) × (IsWordOfFirst looking.edition words looking.met looking.looked j → ⊥)
IsCheckFault looking words OutOfMemory = length words ≡ looking.count
