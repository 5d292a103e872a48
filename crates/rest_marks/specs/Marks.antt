-- Marks that the caller made.
use Rattle.std.specs.Prelude.{◌≡◌, ◌≢◌, ℕ, ◌+◌, ◌/◌, ◌<◌, ◌⊎◌, true, false, List, length, slice_index}
use Rattle.heap_layout.specs.declared.edition.Edition.{Edition}
use Rattle.heap_layout.specs.Bits.{bit, leads}
use Rattle.heap_layout.specs.Header.{refs_of, weak_of, size_of}
use Rattle.heap_layout.specs.Heap.{header_at, object_at, IsPlaced}
use Rattle.heap_layout.specs.Limits.{most_words, most_roots, most_object_words}
use Rattle.heap_layout.specs.Values.{or_immediate}
use Rattle.rest_marks.specs.Meeting.{AllLead}
use Rattle.rest_marks.specs.Reached.{AreFew, IsWordOf, IsStray}
use Rattle.rest_marks.specs.declared.fault.MarksFault.{MarksFault}
use Rattle.rest_marks.specs.declared.fault.MarksFault.TheVariants.{TooLarge, WrongLength, BadRoot, ObjectTooLong, ObjectPastEnd, Overlap, UnmarkedTarget, BadWeak, OutOfMemory}

-- there are not more words and roots than the edition allows, and a bit for each word
abbrev pub AreMarksFew : Edition → List ℕ → List ℕ → List ℕ → Type 0
AreMarksFew edition words roots heads = AreFew edition words roots × (length heads ≡ (length words + 63) / 64)

-- The fault is one of these words and roots, of which the objects at the set bits are marked, however many there are.
abbrev pub IsMarkingFaultOf : Edition → List ℕ → List ℕ → List ℕ → MarksFault → Type 0
IsMarkingFaultOf edition words roots heads TooLarge = ⊥
IsMarkingFaultOf edition words roots heads WrongLength = ⊥
IsMarkingFaultOf edition words roots heads (BadRoot k) = (k < length roots) × (or_immediate edition (leads heads) (slice_index roots k) ≡ false)
IsMarkingFaultOf edition words roots heads (ObjectTooLong i) = (bit heads i ≡ true) × (most_object_words edition < size_of (header_at edition words i))
IsMarkingFaultOf edition words roots heads (ObjectPastEnd i) = (bit heads i ≡ true) × (length words < i + size_of (header_at edition words i))
IsMarkingFaultOf edition words roots heads (Overlap i) =
    (bit heads i ≡ true) × (j : ℕ) × (bit heads j ≡ true) × (j ≢ i) × (n : ℕ) × IsWordOf edition words i n × IsWordOf edition words j n
IsMarkingFaultOf edition words roots heads (UnmarkedTarget j) =
    (i : ℕ) × (bit heads i ≡ true) × (f : ℕ) × (f < refs_of (header_at edition words i)) × (j ≡ i + 1 + f) × (or_immediate edition (leads heads) (slice_index words j) ≡ false)
IsMarkingFaultOf edition words roots heads (BadWeak j) =
    (i : ℕ) × (bit heads i ≡ true) × (f : ℕ) × (f < weak_of (header_at edition words i)) × (j ≡ i + 1 + refs_of (header_at edition words i) + f)
    × IsStray edition words (slice_index words j)
IsMarkingFaultOf edition words roots heads OutOfMemory = Unit {0}

-- Why marks are refused: the heap is too large; or it is not, and there is not a bit for each word; or there is, and
-- the fault is one of the words and roots, or memory ran out.
abbrev pub IsMarksFaultOf : Edition → List ℕ → List ℕ → List ℕ → MarksFault → Type 0
IsMarksFaultOf edition words roots heads TooLarge = (most_words edition < length words) ⊎ (most_roots edition < length roots)
IsMarksFaultOf edition words roots heads WrongLength = AreFew edition words roots × (length heads ≢ (length words + 63) / 64)
IsMarksFaultOf edition words roots heads (BadRoot k) = AreMarksFew edition words roots heads × IsMarkingFaultOf edition words roots heads (BadRoot k)
IsMarksFaultOf edition words roots heads (ObjectTooLong i) = AreMarksFew edition words roots heads × IsMarkingFaultOf edition words roots heads (ObjectTooLong i)
IsMarksFaultOf edition words roots heads (ObjectPastEnd i) = AreMarksFew edition words roots heads × IsMarkingFaultOf edition words roots heads (ObjectPastEnd i)
IsMarksFaultOf edition words roots heads (Overlap i) = AreMarksFew edition words roots heads × IsMarkingFaultOf edition words roots heads (Overlap i)
IsMarksFaultOf edition words roots heads (UnmarkedTarget j) = AreMarksFew edition words roots heads × IsMarkingFaultOf edition words roots heads (UnmarkedTarget j)
IsMarksFaultOf edition words roots heads (BadWeak j) = AreMarksFew edition words roots heads × IsMarkingFaultOf edition words roots heads (BadWeak j)
IsMarksFaultOf edition words roots heads OutOfMemory = AreMarksFew edition words roots heads

-- each of these words is an immediate, null, or the address of a marked object
abbrev pub AllKept : Edition → List ℕ → List ℕ → Type 0
AllKept edition heads words = (k : ℕ) → k < length words → or_immediate edition (leads heads) (slice_index words k) ≡ true

-- the marked object at index i is placed, and its references and weak words lead to marked objects and to words
pub record IsKept (edition : Edition) (words heads : List ℕ) (i : ℕ) : Type 0 where
  pub placed : IsPlaced edition words i
  pub references : AllKept edition heads (object_at edition words i).references
  pub weak : AllLead edition (length words) (object_at edition words i).weak

-- each bit that is set is that of a word of a marked object before index i
abbrev pub AreBefore : Edition → List ℕ → List ℕ → ℕ → List ℕ → Type 0
AreBefore edition words heads i bits = (n : ℕ) → bit bits n ≡ true → (j : ℕ) × (j < i) × (bit heads j ≡ true) × IsWordOf edition words j n
