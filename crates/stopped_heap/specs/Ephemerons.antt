-- Values that are kept only as long as their keys are.
use Rattle.std.specs.Prelude.{◌≡◌, ◌≢◌, ℕ, ◌+◌, ◌*◌, ◌<◌, true, List, length, Contains, slice_index}
use Rattle.std.specs.List.Sorted.{IsStrictlyIncreasing}
use Rattle.heap_layout.specs.declared.edition.Edition.{Edition}
use Rattle.heap_layout.specs.Bits.{bit, leads}
use Rattle.heap_layout.specs.Header.{refs_of, weak_of, size_of}
use Rattle.heap_layout.specs.Heap.{from_address, header_at, object_at}
use Rattle.heap_layout.specs.Limits.{most_object_words}
use Rattle.heap_layout.specs.Values.{is_immediate, or_immediate}
use Rattle.reachability.specs.Queue.{is_address}
use Rattle.rest_marks.specs.Reached.{IsStray, IsWordOf, LeadInto}
use Rattle.rest_marks.specs.declared.fault.SurveyFault.{SurveyFault}
use Rattle.rest_marks.specs.declared.fault.SurveyFault.TheVariants.{TooLarge, BadRoot, BadReference, BadWeak, ObjectTooLong, ObjectPastEnd, Overlap, OutOfMemory}

-- An ephemeron is three words: a holder, a key and a value. A word is held if it is an immediate, or the address of an
-- object that was marked, or to which a reference of a held object leads, or that is the value of an ephemeron whose
-- holder and key are held. Nothing else is: not what is held by its own value, nor by several in a circle.
pub data IsHeld (edition : Edition) (words marks ephemerons : List ℕ) : ℕ → Type 0 where
  held_immediate : (word : ℕ) → is_immediate edition word ≡ true → IsHeld edition words marks ephemerons word
  held_mark : (word i : ℕ) → Contains marks i → word ≡ from_address i → IsHeld edition words marks ephemerons word
  held_reference : (word i j : ℕ) → i < length words → IsHeld edition words marks ephemerons (from_address i) → LeadInto words (object_at edition words i).references j
      → word ≡ from_address j → IsHeld edition words marks ephemerons word
  held_value : (word k j : ℕ) → 3 * k + 2 < length ephemerons → IsHeld edition words marks ephemerons (slice_index ephemerons (3 * k))
      → IsHeld edition words marks ephemerons (slice_index ephemerons (3 * k + 1)) → slice_index ephemerons (3 * k + 2) ≡ word → j < length words → word ≡ from_address j
      → IsHeld edition words marks ephemerons word

-- These are the indices of the objects that are held, rising.
pub record AreHeld (edition : Edition) (words marks ephemerons after : List ℕ) : Type 0 where
  pub rising : IsStrictlyIncreasing after
  pub inside : (i : ℕ) → Contains after i → i < length words
  pub held : (i : ℕ) → Contains after i → IsHeld edition words marks ephemerons (from_address i)
  pub all : (i : ℕ) → i < length words → IsHeld edition words marks ephemerons (from_address i) → Contains after i

-- a word is an immediate or the address of a marked object
abbrev pub IsLive : Edition → List ℕ → ℕ → Type 0
IsLive edition heads word = or_immediate edition (is_address (bit heads)) word ≡ true

-- if the holder and the key of ephemeron k are live, its value is kept
abbrev pub IsSettled : Edition → List ℕ → List ℕ → ℕ → Type 0
IsSettled edition heads ephemerons k =
    IsLive edition heads (slice_index ephemerons (3 * k)) → IsLive edition heads (slice_index ephemerons (3 * k + 1))
    → or_immediate edition (leads heads) (slice_index ephemerons (3 * k + 2)) ≡ true

-- The fault is one of these words, of which the objects at `marks` were marked before, and of these ephemerons. A bad
-- root is a value.
abbrev pub IsHeldFaultOf : Edition → List ℕ → List ℕ → List ℕ → SurveyFault → Type 0
IsHeldFaultOf edition words marks ephemerons TooLarge = ⊥
IsHeldFaultOf edition words marks ephemerons (BadRoot k) = (k < length ephemerons) × IsStray edition words (slice_index ephemerons k)
IsHeldFaultOf edition words marks ephemerons (BadReference j) =
    (i : ℕ) × IsHeld edition words marks ephemerons (from_address i) × (f : ℕ) × (f < refs_of (header_at edition words i)) × (j ≡ i + 1 + f) × IsStray edition words (slice_index words j)
IsHeldFaultOf edition words marks ephemerons (BadWeak j) =
    (i : ℕ) × IsHeld edition words marks ephemerons (from_address i) × (f : ℕ) × (f < weak_of (header_at edition words i)) × (j ≡ i + 1 + refs_of (header_at edition words i) + f)
    × IsStray edition words (slice_index words j)
IsHeldFaultOf edition words marks ephemerons (ObjectTooLong i) =
    IsHeld edition words marks ephemerons (from_address i) × (most_object_words edition < size_of (header_at edition words i))
IsHeldFaultOf edition words marks ephemerons (ObjectPastEnd i) = IsHeld edition words marks ephemerons (from_address i) × (length words < i + size_of (header_at edition words i))
IsHeldFaultOf edition words marks ephemerons (Overlap i) =
    IsHeld edition words marks ephemerons (from_address i) × (j : ℕ) × IsHeld edition words marks ephemerons (from_address j) × (j ≢ i) × (k : ℕ) × IsWordOf edition words i k
    × IsWordOf edition words j k
IsHeldFaultOf edition words marks ephemerons OutOfMemory = Unit {0}
