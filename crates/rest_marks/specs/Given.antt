-- Bits that the caller set: those of the first words of marked objects, and those of all their words. No word of the
-- heap is looked at.
use Rattle.std.specs.Prelude.{◌≡◌, ◌≢◌, ℕ, ◌+◌, ◌/◌, ◌<◌, ◌≤◌, ◌⊎◌, true, false, List, ◌++◌, length, map, drop, slice_index, All, Contains}
use Rattle.heap_layout.specs.declared.edition.Edition.{Edition}
use Rattle.heap_layout.specs.Bits.{bit, leads}
use Rattle.heap_layout.specs.Heap.{Heap, object_at, IsValue}
use Rattle.heap_layout.specs.Limits.{most_words, most_roots, most_object_words}
use Rattle.heap_layout.specs.Values.{or_immediate}
use Rattle.mark_tables.specs.MarkBitmap.{set_bits}
use Rattle.rest_marks.specs.Marks.{AllKept}
use Rattle.rest_marks.specs.Reached.{is_within, IsReachedFrom}
use Rattle.rest_marks.specs.Places.{found_in, led_by, words_now, Found, IsAsFound, IsFoundOf, IsSlideFault}
use Rattle.rest_marks.specs.declared.fault.BitsFault.{BitsFault}
use Rattle.rest_marks.specs.declared.fault.BitsFault.TheVariants.{TooLarge, ShortObjects, WrongLength, BadRoot, NotARun, PastEnd, OutOfMemory}
use Rattle.rest_marks.specs.declared.fault.ByBitsFault.{ByBitsFault}
use Rattle.rest_marks.specs.declared.fault.ByBitsFault.TheVariants.{Bits, NoRoom, Slide}

-- Each first word is a live word, each live word is a first word or the word behind a live word, and the live words are
-- among the first `count`. So a run of live words from one first word up to the next, or up to a word that is not live,
-- are the words of one object.
pub record AreRuns (count : ℕ) (heads bits : List ℕ) : Type 0 where
  pub live : (i : ℕ) → bit heads i ≡ true → bit bits i ≡ true
  pub begun : (i : ℕ) → bit bits (i + 1) ≡ true → (bit heads (i + 1) ≡ true) ⊎ (bit bits i ≡ true)
  pub first : bit bits 0 ≡ true → bit heads 0 ≡ true
  pub inside : (i : ℕ) → bit bits i ≡ true → i < count

-- word i is a first word and not live; or it is live, and neither a first word nor behind a live word
abbrev pub IsOddWord : List ℕ → List ℕ → ℕ → Type 0
IsOddWord heads bits i =
    ((bit heads i ≡ true) × (bit bits i ≡ false))
    ⊎ ((bit bits i ≡ true) × (bit heads i ≡ false) × ((j : ℕ) → j + 1 ≡ i → bit bits j ≡ false))

-- an object of the edition may be as long as its heap, and there are not more words and roots than it allows
abbrev pub AreFewOf : Edition → ℕ → List ℕ → Type 0
AreFewOf edition count roots = (most_words edition ≤ most_object_words edition) × (count ≤ most_words edition) × (length roots ≤ most_roots edition)

-- and there are two bits for each word
abbrev pub AreBitsOf : Edition → ℕ → List ℕ → List ℕ → List ℕ → Type 0
AreBitsOf edition count roots heads bits =
    AreFewOf edition count roots × (length heads ≡ (count + 63) / 64) × (length bits ≡ (count + 63) / 64)

-- These bits and roots of a heap of `count` words are taken.
pub record AreTaken (edition : Edition) (count : ℕ) (roots heads bits : List ℕ) : Type 0 where
  pub sizes : AreBitsOf edition count roots heads bits
  pub runs : AreRuns count heads bits
  pub roots_lead : AllKept edition heads roots

-- Why they are not: the edition has short objects; or it has not, and there are too many words or roots; or there are
-- not, and there are not two bits for each word; or there are, and the fault is one of these roots and bits. Memory
-- runs out only if they have none.
abbrev pub IsBitsFaultOf : Edition → ℕ → List ℕ → List ℕ → List ℕ → BitsFault → Type 0
IsBitsFaultOf edition count roots heads bits TooLarge =
    (most_words edition ≤ most_object_words edition) × ((most_words edition < count) ⊎ (most_roots edition < length roots))
IsBitsFaultOf edition count roots heads bits ShortObjects = most_object_words edition < most_words edition
IsBitsFaultOf edition count roots heads bits WrongLength =
    AreFewOf edition count roots × ((length heads ≢ (count + 63) / 64) ⊎ (length bits ≢ (count + 63) / 64))
IsBitsFaultOf edition count roots heads bits (BadRoot k) =
    AreBitsOf edition count roots heads bits × (k < length roots) × (or_immediate edition (leads heads) (slice_index roots k) ≡ false)
IsBitsFaultOf edition count roots heads bits (NotARun i) = AreBitsOf edition count roots heads bits × IsOddWord heads bits i
IsBitsFaultOf edition count roots heads bits (PastEnd i) = AreBitsOf edition count roots heads bits × (bit bits i ≡ true) × (count ≤ i)
IsBitsFaultOf edition count roots heads bits OutOfMemory = AreTaken edition count roots heads bits

-- the heap of these words and roots, whose marked objects are those that were found
abbrev pub heap_now : Found → List ℕ → List ℕ → Heap
heap_now found words roots = record { edition = found.edition; words = words; marks = found.marks; roots = roots }

-- All live words slid out of these words, and these roots lead to live objects.
pub record HasSlid (found : Found) (words roots : List ℕ) : Type 0 where
  pub count : length words ≡ found.count
  pub few_roots : length roots ≤ most_roots found.edition
  pub roots_lead : All (IsValue found.edition found.marks) roots
  pub as_found : IsAsFound found words 0 (length found.indices)

-- each weak word of a live object is null, an immediate, or the address of a word
abbrev pub HasWeak : Found → List ℕ → Type 0
HasWeak found words = All (λ mark. All (λ word. is_within found.edition (length words) word ≡ true) (object_at found.edition words mark).weak) found.marks

-- The heap of these words and roots was collected into a memory that held `before`, and now holds `after`, by marks
-- that nobody asked: the marked objects slid, each as it is, and among them is each that the roots reach. Where weak
-- words lead to words, the heap is sound, so that what slid is the collected heap.
pub record IsCollectedAs (found : Found) (edition : Edition) (words roots marks : List ℕ) (count : ℕ) (new_roots before after : List ℕ) : Type 0 where
  pub edition_is : found.edition ≡ edition
  pub marks_are : found.marks ≡ marks
  pub reached : (i : ℕ) → IsReachedFrom edition words roots i → Contains marks i
  pub sound : HasWeak found words → IsFoundOf found (heap_now found words roots)
  pub live : count ≡ length found.indices
  pub words_are : after ≡ words_now found words ++ drop count before
  pub roots_are : new_roots ≡ map (led_by found) roots

abbrev pub HasCollectedAs : Edition → List ℕ → List ℕ → List ℕ → ℕ → List ℕ → List ℕ → List ℕ → Type 0
HasCollectedAs edition words roots marks count new_roots before after = (found : Found) × IsCollectedAs found edition words roots marks count new_roots before after

-- Why the heap of these words and roots is not collected by these bits into a memory of so many words: they are not
-- taken; or they are, and the live words do not fit; or they fit, and do not slide.
abbrev pub RefusesByBits : Edition → List ℕ → List ℕ → List ℕ → List ℕ → ℕ → ByBitsFault → Type 0
RefusesByBits edition words roots heads bits room (Bits fault) = IsBitsFaultOf edition (length words) roots heads bits fault
RefusesByBits edition words roots heads bits room (NoRoom count) =
    AreTaken edition (length words) roots heads bits × (count ≡ length (set_bits bits)) × (room < count)
RefusesByBits edition words roots heads bits room (Slide fault) =
    AreTaken edition (length words) roots heads bits × (length (set_bits bits) ≤ room)
    × IsSlideFault (found_in edition (length words) heads bits 0) words 0 (length (set_bits bits)) fault
