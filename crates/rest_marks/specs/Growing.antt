-- A survey that grows: what the roots reach is marked, and later what more roots reach.
use Rattle.std.specs.Prelude.{◌≡◌, ℕ, ◌+◌, ◌/◌, ◌<◌, ◌≤◌, true, false, List, ◌++◌, length, map, slice_index}
use Rattle.heap_layout.specs.declared.edition.Edition.{Edition}
use Rattle.heap_layout.specs.Bits.{bit}
use Rattle.heap_layout.specs.Header.{size_of}
use Rattle.heap_layout.specs.Heap.{from_address, header_at, object_at}
use Rattle.heap_layout.specs.Limits.{most_object_words, most_words, most_roots}
use Rattle.rest_marks.specs.Marks.{AllKept}
use Rattle.rest_marks.specs.Meeting.{AllLead, AreApart, AreMet, AreOnce, IsDone}
use Rattle.rest_marks.specs.Reached.{IsHeapFaultOf, IsReachedFrom, IsWordOf}
use Rattle.rest_marks.specs.declared.fault.SurveyFault.{SurveyFault}
use Rattle.rest_marks.specs.declared.fault.SurveyFault.TheVariants.{TooLarge, BadRoot, BadReference, BadWeak, ObjectTooLong, ObjectPastEnd, Overlap, OutOfMemory}

-- the roots from which a survey goes on: the addresses of the objects that it has marked, and more roots
abbrev pub roots_on : List ℕ → List ℕ → List ℕ
roots_on marks more = map from_address marks ++ more

-- There are too many more roots; or there are not, and the fault is one of them and of these words, of which the
-- objects at `marks` were marked before, or memory ran out.
abbrev pub IsMoreFaultOf : Edition → List ℕ → List ℕ → List ℕ → SurveyFault → Type 0
IsMoreFaultOf edition words marks more TooLarge = most_roots edition < length more
IsMoreFaultOf edition words marks more (BadRoot k) = (length more ≤ most_roots edition) × IsHeapFaultOf edition words more (BadRoot k)
IsMoreFaultOf edition words marks more (BadReference j) = (length more ≤ most_roots edition) × IsHeapFaultOf edition words (roots_on marks more) (BadReference j)
IsMoreFaultOf edition words marks more (BadWeak j) = (length more ≤ most_roots edition) × IsHeapFaultOf edition words (roots_on marks more) (BadWeak j)
IsMoreFaultOf edition words marks more (ObjectTooLong i) = (length more ≤ most_roots edition) × IsHeapFaultOf edition words (roots_on marks more) (ObjectTooLong i)
IsMoreFaultOf edition words marks more (ObjectPastEnd i) = (length more ≤ most_roots edition) × IsHeapFaultOf edition words (roots_on marks more) (ObjectPastEnd i)
IsMoreFaultOf edition words marks more (Overlap i) = (length more ≤ most_roots edition) × IsHeapFaultOf edition words (roots_on marks more) (Overlap i)
IsMoreFaultOf edition words marks more OutOfMemory = length more ≤ most_roots edition

-- What marking leaves, whatever the roots were: each marked object is as it must be, and its references lead to marked
-- objects; the bits are those of the words of marked objects; and these do not overlap.
pub record AreMarked (edition : Edition) (words heads bits : List ℕ) : Type 0 where
  pub done : (i : ℕ) → bit heads i ≡ true → IsDone edition words bits i
  pub closed : (i : ℕ) → bit heads i ≡ true → AllKept edition heads (object_at edition words i).references
  pub only : (j : ℕ) → bit bits j ≡ true → (i : ℕ) × (bit heads i ≡ true) × IsWordOf edition words i j
  pub apart : AreApart edition words heads

-- marking goes on: the objects in the queue were marked, each once, and no others
pub record IsBegun (edition : Edition) (words queue heads bits : List ℕ) : Type 0 where
  pub few : length words ≤ most_words edition
  pub met : AreMet queue heads
  pub once : AreOnce (length words) queue
  pub marked : AreMarked edition words heads bits

-- the tables of a survey that grows: bits for so many words, and what marking left
pub record IsGrown (edition : Edition) (words queue heads bits : List ℕ) : Type 0 where
  pub sized : length heads ≡ (length words + 63) / 64
  pub same : length bits ≡ length heads
  pub begun : IsBegun edition words queue heads bits

-- ---- in words that may have been written to

-- The words are those that were seen wherever no bit is set.
pub record AreAlike (words seen bits : List ℕ) : Type 0 where
  pub long : length seen ≡ length words
  pub free : (i : ℕ) → bit bits i ≡ false → slice_index seen i ≡ slice_index words i

-- marking goes on in these words from what was marked in those that were seen
pub record IsBegunIn (edition : Edition) (words seen queue heads bits : List ℕ) : Type 0 where
  pub alike : AreAlike words seen bits
  pub begun : IsBegun edition seen queue heads bits

-- the same of the tables of a survey that grows
pub record IsGrownIn (edition : Edition) (words seen queue heads bits : List ℕ) : Type 0 where
  pub alike : AreAlike words seen bits
  pub grown : IsGrown edition seen queue heads bits

-- the tables of a survey of `count` words that may grow, whatever words were seen: bits for so many, and in the queue
-- the objects that were met
pub record AreReady (edition : Edition) (count : ℕ) (queue heads bits : List ℕ) : Type 0 where
  pub few : count ≤ most_words edition
  pub sized : length heads ≡ (count + 63) / 64
  pub same : length bits ≡ length heads
  pub met : AreMet queue heads
  pub once : AreOnce count queue

-- What marking from the objects in the queue and from more roots has found in the words that were seen.
pub record IsOnward (edition : Edition) (words queue more heads bits : List ℕ) : Type 0 where
  pub few : length words ≤ most_words edition
  pub reached : (i : ℕ) → bit heads i ≡ true → IsReachedFrom edition words (roots_on queue more) i
  pub all : (i : ℕ) → IsReachedFrom edition words (roots_on queue more) i → bit heads i ≡ true
  pub done : (i : ℕ) → bit heads i ≡ true → IsDone edition words bits i
  pub only : (j : ℕ) → bit bits j ≡ true → (i : ℕ) × (bit heads i ≡ true) × IsWordOf edition words i j
  pub apart : AreApart edition words heads
  pub roots_lead : AllLead edition (length words) more

-- The fault is one of these words and more roots, if the objects at `marks` were marked in those that were seen. Each
-- object of a fault is reached in these; that it is too long, its header in these words says.
abbrev pub IsSeenFaultOf : Edition → List ℕ → List ℕ → List ℕ → List ℕ → SurveyFault → Type 0
IsSeenFaultOf edition words seen marks more TooLarge = IsMoreFaultOf edition words marks more TooLarge
IsSeenFaultOf edition words seen marks more (BadRoot k) = IsMoreFaultOf edition words marks more (BadRoot k)
IsSeenFaultOf edition words seen marks more (BadReference j) = IsMoreFaultOf edition seen marks more (BadReference j)
IsSeenFaultOf edition words seen marks more (BadWeak j) = IsMoreFaultOf edition seen marks more (BadWeak j)
IsSeenFaultOf edition words seen marks more (ObjectTooLong i) =
    (length more ≤ most_roots edition) × IsReachedFrom edition seen (roots_on marks more) i × (most_object_words edition < size_of (header_at edition words i))
IsSeenFaultOf edition words seen marks more (ObjectPastEnd i) =
    (length more ≤ most_roots edition) × IsReachedFrom edition seen (roots_on marks more) i × (length words < i + size_of (header_at edition words i))
IsSeenFaultOf edition words seen marks more (Overlap i) = IsMoreFaultOf edition seen marks more (Overlap i)
IsSeenFaultOf edition words seen marks more OutOfMemory = IsMoreFaultOf edition words marks more OutOfMemory
