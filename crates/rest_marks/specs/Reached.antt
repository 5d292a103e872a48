-- What the roots of a heap reach, when nothing is known of its words: no object is asked for that is not reached.
use Rattle.std.specs.Prelude.{◌≡◌, ◌≢◌, ℕ, ◌+◌, ◌<◌, ◌≤◌, ◌==◌, ◌||◌, ◌⊎◌, Bool, true, false, nat_lt, List, length, All, Contains, slice_index}
use Rattle.std.specs.List.Sorted.{IsStrictlyIncreasing}
use Rattle.heap_layout.specs.declared.edition.Edition.{Edition}
use Rattle.heap_layout.specs.Header.{refs_of, weak_of, size_of}
use Rattle.heap_layout.specs.Heap.{Heap, from_address, header_at, object_at, IsPlaced, IsValue}
use Rattle.heap_layout.specs.Limits.{most_words, most_roots, most_object_words}
use Rattle.heap_layout.specs.Values.{or_immediate}
use Rattle.reachability.specs.Queue.{is_address}
use Rattle.rest_marks.specs.declared.fault.SurveyFault.{SurveyFault}
use Rattle.rest_marks.specs.declared.fault.SurveyFault.TheVariants.{TooLarge, BadRoot, BadReference, BadWeak, ObjectTooLong, ObjectPastEnd, Overlap, OutOfMemory}

-- whether i is the index of one of `count` words
abbrev pub is_below : ℕ → ℕ → Bool
is_below count i = nat_lt i count

-- whether a word is null, or the address of one of `count` words
abbrev pub leads_within : ℕ → ℕ → Bool
leads_within count word = (word == 0) || is_address (is_below count) word

-- whether a root, a reference or a weak word of a heap of this edition is an immediate, null, or the address of one of
-- `count` words
abbrev pub is_within : Edition → ℕ → ℕ → Bool
is_within edition count = or_immediate edition (leads_within count)

abbrev pub IsWithin : Edition → List ℕ → ℕ → Type 0
IsWithin edition words word = is_within edition (length words) word ≡ true

-- One of `from` is the address of the word at index i.
pub record LeadInto (words from : List ℕ) (i : ℕ) : Type 0 where
  pub inside : i < length words
  pub address : Contains from (from_address i)

-- The roots reach the object at an index: a root leads there, or a reference of an object that they reach. Weak words
-- reach nothing.
pub data IsReachedFrom (edition : Edition) (words roots : List ℕ) : ℕ → Type 0 where
  by_root : (i : ℕ) → LeadInto words roots i → IsReachedFrom edition words roots i
  by_reference : (i j : ℕ) → IsReachedFrom edition words roots i → LeadInto words (object_at edition words i).references j → IsReachedFrom edition words roots j

-- These are the indices of the objects that the roots reach, rising.
pub record AreReached (edition : Edition) (words roots marks : List ℕ) : Type 0 where
  pub rising : IsStrictlyIncreasing marks
  pub reached : (i : ℕ) → Contains marks i → IsReachedFrom edition words roots i
  pub all : (i : ℕ) → IsReachedFrom edition words roots i → Contains marks i

-- The marked objects lie within the words and do not overlap. Every root and every reference of a marked object is
-- null or the address of a marked object. Every weak word of a marked object is null or the address of a word. In
-- edition four each of them may also be an immediate. Nothing is said of the other words.
pub record IsSound (heap : Heap) : Type 0 where
  pub few_words : length heap.words ≤ most_words heap.edition
  pub few_roots : length heap.roots ≤ most_roots heap.edition
  pub placed : All (IsPlaced heap.edition heap.words) heap.marks
  pub apart : (k : ℕ) → k + 1 < length heap.marks
      → slice_index heap.marks k + size_of (header_at heap.edition heap.words (slice_index heap.marks k)) ≤ slice_index heap.marks (k + 1)
  pub roots : All (IsValue heap.edition heap.marks) heap.roots
  pub references : All (λ mark. All (IsValue heap.edition heap.marks) (object_at heap.edition heap.words mark).references) heap.marks
  pub weak : All (λ mark. All (IsWithin heap.edition heap.words) (object_at heap.edition heap.words mark).weak) heap.marks

-- word j belongs to the object at index i
abbrev pub IsWordOf : Edition → List ℕ → ℕ → ℕ → Type 0
IsWordOf edition words i j = (i ≤ j) × (j < i + size_of (header_at edition words i))

-- a root, a reference or a weak word is astray: it is neither an immediate nor null nor the address of one of the words
abbrev pub IsStray : Edition → List ℕ → ℕ → Type 0
IsStray edition words word = is_within edition (length words) word ≡ false

-- there are not more words and roots than the edition allows
abbrev pub AreFew : Edition → List ℕ → List ℕ → Type 0
AreFew edition words roots = (length words ≤ most_words edition) × (length roots ≤ most_roots edition)

-- The fault is one of these words and roots, however many there are.
abbrev pub IsHeapFaultOf : Edition → List ℕ → List ℕ → SurveyFault → Type 0
IsHeapFaultOf edition words roots TooLarge = ⊥
IsHeapFaultOf edition words roots (BadRoot k) = (k < length roots) × IsStray edition words (slice_index roots k)
IsHeapFaultOf edition words roots (BadReference j) =
    (i : ℕ) × IsReachedFrom edition words roots i × (f : ℕ) × (f < refs_of (header_at edition words i)) × (j ≡ i + 1 + f) × IsStray edition words (slice_index words j)
IsHeapFaultOf edition words roots (BadWeak j) =
    (i : ℕ) × IsReachedFrom edition words roots i × (f : ℕ) × (f < weak_of (header_at edition words i)) × (j ≡ i + 1 + refs_of (header_at edition words i) + f)
    × IsStray edition words (slice_index words j)
IsHeapFaultOf edition words roots (ObjectTooLong i) = IsReachedFrom edition words roots i × (most_object_words edition < size_of (header_at edition words i))
IsHeapFaultOf edition words roots (ObjectPastEnd i) = IsReachedFrom edition words roots i × (length words < i + size_of (header_at edition words i))
IsHeapFaultOf edition words roots (Overlap i) =
    IsReachedFrom edition words roots i × (j : ℕ) × IsReachedFrom edition words roots j × (j ≢ i) × (k : ℕ) × IsWordOf edition words i k × IsWordOf edition words j k
IsHeapFaultOf edition words roots OutOfMemory = Unit {0}

-- Why a heap is refused: it is too large; or it is not, and the fault is one of its words and roots, or memory ran out.
abbrev pub IsFaultOf : Edition → List ℕ → List ℕ → SurveyFault → Type 0
IsFaultOf edition words roots TooLarge = (most_words edition < length words) ⊎ (most_roots edition < length roots)
IsFaultOf edition words roots (BadRoot k) = AreFew edition words roots × IsHeapFaultOf edition words roots (BadRoot k)
IsFaultOf edition words roots (BadReference j) = AreFew edition words roots × IsHeapFaultOf edition words roots (BadReference j)
IsFaultOf edition words roots (BadWeak j) = AreFew edition words roots × IsHeapFaultOf edition words roots (BadWeak j)
IsFaultOf edition words roots (ObjectTooLong i) = AreFew edition words roots × IsHeapFaultOf edition words roots (ObjectTooLong i)
IsFaultOf edition words roots (ObjectPastEnd i) = AreFew edition words roots × IsHeapFaultOf edition words roots (ObjectPastEnd i)
IsFaultOf edition words roots (Overlap i) = AreFew edition words roots × IsHeapFaultOf edition words roots (Overlap i)
IsFaultOf edition words roots OutOfMemory = AreFew edition words roots
