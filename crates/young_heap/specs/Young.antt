-- A young collection: the words below index `old` stay where they are, and what lives above slides down to them.
use Rattle.std.specs.Prelude.{◌≡◌, ℕ, ◌+◌, ◌-◌, ◌*◌, ◌^◌, ◌<◌, ◌≤◌, ◌==◌, ◌||◌, ◌&&◌, Bool, true, false, nat_le, nat_lt, List, ◌++◌, length, map, All, Contains, slice_index}
use Rattle.std.specs.List.Sorted.{IsStrictlyIncreasing}
use Rattle.heap_layout.specs.declared.edition.Edition.{Edition}
use Rattle.heap_layout.specs.Bits.{bit}
use Rattle.heap_layout.specs.Header.{refs_of, weak_of, size_of}
use Rattle.heap_layout.specs.Heap.{from_address, header_at, object_at, IsPlaced}
use Rattle.heap_layout.specs.Values.{is_immediate, or_immediate}
use Rattle.mark_tables.specs.MarkBitmap.{AreOffsets}
use Rattle.reachability.specs.Queue.{has, is_address}
use Rattle.stopped_heap.specs.Collecting.{IsCollected}
use Rattle.rest_marks.specs.Meeting.{AllLead}
use Rattle.rest_marks.specs.Reached.{IsWordOf}
use Rattle.rest_marks.specs.Surveys.{marks_of, AreTables}

-- whether i is the index of one of `count` words, and not below `old`
abbrev pub is_above : ℕ → ℕ → ℕ → Bool
is_above old count i = nat_le old i && nat_lt i count

-- whether a reference may lead to index i: to the start of an old object, or to any word above
abbrev pub may_lead : List ℕ → ℕ → ℕ → ℕ → Bool
may_lead starts old count i = nat_lt i count && (nat_le old i || bit starts i)

-- whether a root, or a reference of an object above, is an immediate, null, or leads to the start of an old object or
-- to a word above
abbrev pub is_led : Edition → List ℕ → ℕ → ℕ → ℕ → Bool
is_led edition starts old count =
    or_immediate edition (λ word. (word == 0) || is_address (may_lead starts old count) word)

-- each of these words does
abbrev pub AllLed : Edition → List ℕ → ℕ → ℕ → List ℕ → Type 0
AllLed edition starts old count words =
    (k : ℕ) → k < length words → is_led edition starts old count (slice_index words k) ≡ true

-- One of `from` is the address of the word at index i, which is not below `old`.
pub record LeadAbove (old : ℕ) (words from : List ℕ) (i : ℕ) : Type 0 where
  pub inside : i < length words
  pub above : old ≤ i
  pub address : Contains from (from_address i)

-- These words reach the object at an index above: one of them leads there, or a reference of an object above that they
-- reach. Old objects are not followed.
pub data IsReachedAbove (edition : Edition) (old : ℕ) (words from : List ℕ) : ℕ → Type 0 where
  by_seed : (i : ℕ) → LeadAbove old words from i → IsReachedAbove edition old words from i
  by_reference : (i j : ℕ) → IsReachedAbove edition old words from i
      → LeadAbove old words (object_at edition words i).references j → IsReachedAbove edition old words from j

-- the words at these indices
abbrev pub words_at : List ℕ → List ℕ → List ℕ
words_at words fields = map (slice_index words) fields

-- what is followed first: the roots, and these fields of old objects
abbrev pub seeds : List ℕ → List ℕ → List ℕ → List ℕ
seeds words roots fields = roots ++ words_at words fields

-- the fields are words below index `old`, each named once, rising
pub record AreFieldsBelow (old : ℕ) (fields : List ℕ) : Type 0 where
  pub below : All (λ j. j < old) fields
  pub rising : IsStrictlyIncreasing fields

-- the object at index i is placed, the bits of all its words are set, its references are led, and its weak words lead
-- to words
pub record IsDoneAbove (edition : Edition) (starts : List ℕ) (old : ℕ) (words bits : List ℕ) (i : ℕ) : Type 0 where
  pub placed : IsPlaced edition words i
  pub run : (j : ℕ) → IsWordOf edition words i j → bit bits j ≡ true
  pub references : AllLed edition starts old (length words) (object_at edition words i).references
  pub weak : AllLead edition (length words) (object_at edition words i).weak

-- the bits that are set from bit `old` on are those of the objects in the queue
abbrev pub AreMetAbove : ℕ → List ℕ → List ℕ → Type 0
AreMetAbove old queue met = (i : ℕ) → old ≤ i → bit met i ≡ has queue i

-- the bits below bit `old` are as they were
abbrev pub AreKeptBelow : ℕ → List ℕ → List ℕ → Type 0
AreKeptBelow old before after = (i : ℕ) → i < old → bit after i ≡ bit before i

-- The words below index `old` are a row of objects, which start at the bits that are set there.
pub record AreOld (edition : Edition) (words starts : List ℕ) (old : ℕ) : Type 0 where
  pub within : old ≤ length words
  pub placed : (i : ℕ) → i < old → bit starts i ≡ true → IsPlaced edition words i
  pub inside : (i : ℕ) → i < old → bit starts i ≡ true → i + size_of (header_at edition words i) ≤ old
  pub apart : (i j : ℕ) → bit starts i ≡ true → bit starts j ≡ true → i < j → j < old
      → i + size_of (header_at edition words i) ≤ j
  pub row : (j : ℕ) → j < old → (i : ℕ) × (bit starts i ≡ true) × IsWordOf edition words i j

-- A word leads below: it is an immediate, null, or the address of an old object.
abbrev pub is_below_led : Edition → List ℕ → ℕ → ℕ → Bool
is_below_led edition starts old =
    or_immediate edition (λ word. (word == 0) || is_address (λ i. nat_lt i old && bit starts i) word)

-- Of the old objects each reference that is none of the fields leads below, and each weak word that is none of `weaks`;
-- the fields are references of old objects, and `weaks` are weak words of theirs.
pub record AreRemembered (edition : Edition) (words starts : List ℕ) (old : ℕ) (fields weaks : List ℕ) : Type 0 where
  pub clean : (i f : ℕ) → i < old → bit starts i ≡ true → 1 ≤ f → f ≤ refs_of (header_at edition words i)
      → has fields (i + f) ≡ false → is_below_led edition starts old (slice_index words (i + f)) ≡ true
  pub weak : (i f : ℕ) → i < old → bit starts i ≡ true → refs_of (header_at edition words i) < f
      → f ≤ refs_of (header_at edition words i) + weak_of (header_at edition words i)
      → has weaks (i + f) ≡ false → is_below_led edition starts old (slice_index words (i + f)) ≡ true
  pub fields_are : (j : ℕ) → has fields j ≡ true
      → (i : ℕ) × (i < old) × (bit starts i ≡ true) × (i < j) × (j ≤ i + refs_of (header_at edition words i))
  pub weaks_are : (j : ℕ) → has weaks j ≡ true
      → (i : ℕ) × (i < old) × (bit starts i ≡ true) × (i + refs_of (header_at edition words i) < j)
      × (j ≤ i + refs_of (header_at edition words i) + weak_of (header_at edition words i))

-- What marking left above index `old`, whatever the words below are: the marked objects above are placed and do not
-- overlap; their references lead into the bits; `bits` has their words, and all words below; `counts` are its offsets.
pub record AreYoungTables (edition : Edition) (words : List ℕ) (old : ℕ) (heads bits counts : List ℕ) : Type 0 where
  pub within : old ≤ length words
  pub few : length words ≤ 2 ^ 31
  pub placed : (i : ℕ) → old ≤ i → bit heads i ≡ true → IsPlaced edition words i
  pub led : (i f : ℕ) → old ≤ i → bit heads i ≡ true → 1 ≤ f → f ≤ refs_of (header_at edition words i)
      → is_immediate edition (slice_index words (i + f)) ≡ false → slice_index words (i + f) - 2 ^ 32 < 64 * length bits
  pub run : (i j : ℕ) → old ≤ i → bit heads i ≡ true → IsWordOf edition words i j → bit bits j ≡ true
  pub only : (j : ℕ) → old ≤ j → bit bits j ≡ true
      → (i : ℕ) × (old ≤ i) × (bit heads i ≡ true) × IsWordOf edition words i j
  pub apart : (i j : ℕ) → old ≤ i → bit heads i ≡ true → bit heads j ≡ true → i < j
      → i + size_of (header_at edition words i) ≤ j
  pub ones : (j : ℕ) → j < old → bit bits j ≡ true
  pub offsets : AreOffsets bits counts
  pub same : length heads ≡ length bits
  pub room : length words ≤ 64 * length bits

-- These are the indices of the old objects, and of those that the roots and the fields reach above, rising.
pub record AreKeptYoung (edition : Edition) (words roots starts : List ℕ) (old : ℕ)
    (fields heads : List ℕ) : Type 0 where
  pub below : AreKeptBelow old starts heads
  pub reached : (i : ℕ) → old ≤ i → bit heads i ≡ true → IsReachedAbove edition old words (seeds words roots fields) i
  pub all : (i : ℕ) → IsReachedAbove edition old words (seeds words roots fields) i → bit heads i ≡ true

-- The heap of these words and roots, of which all old objects are marked, and all that the roots and the fields of old
-- objects reach above, was collected.
abbrev pub HasCollectedYoung : Edition → List ℕ → List ℕ → List ℕ → ℕ → List ℕ → ℕ → List ℕ → List ℕ → Type 0
HasCollectedYoung edition words roots starts old fields count new_roots after =
    (heads : List ℕ) × AreKeptYoung edition words roots starts old fields heads
    × IsCollected (record { edition = edition; words = words; marks = marks_of heads; roots = roots })
    count new_roots words after

-- It was, and in `heads` are the marks, in `bits` the words of the marked objects, and in `counts` the offsets.
pub record AreYoungMarks (edition : Edition) (words roots starts : List ℕ) (old : ℕ) (fields heads bits counts : List ℕ)
    (count : ℕ) (new_roots after : List ℕ) : Type 0 where
  pub kept : AreKeptYoung edition words roots starts old fields heads
  pub is : IsCollected (record { edition = edition; words = words; marks = marks_of heads; roots = roots })
      count new_roots words after
  pub tables : AreTables edition words heads bits counts
