-- The objects that were met, and what was done with each.
use Rattle.std.specs.Prelude.{◌≡◌, ℕ, ◌+◌, ◌<◌, ◌≤◌, ◌==◌, true, false, List, fold, length, slice_index}
use Rattle.std.specs.List.{IsDistinct}
use Rattle.heap_layout.specs.declared.edition.Edition.{Edition}
use Rattle.heap_layout.specs.Bits.{bit}
use Rattle.heap_layout.specs.Header.{size_of}
use Rattle.heap_layout.specs.Heap.{header_at, object_at, IsPlaced}
use Rattle.reachability.specs.Queue.{has, after_word}
use Rattle.rest_marks.specs.Reached.{is_below, is_within, IsWordOf}
use Rattle.rest_marks.specs.declared.queue.Stop.{Stop}
use Rattle.rest_marks.specs.declared.queue.Stop.TheVariants.{Memory, Stray}

-- the bits that are set are those of the objects in the queue
abbrev pub AreMet : List ℕ → List ℕ → Type 0
AreMet queue met = (i : ℕ) → bit met i ≡ has queue i

-- the objects in the queue are different ones, each at one of `count` words
pub record AreOnce (count : ℕ) (queue : List ℕ) : Type 0 where
  pub once : IsDistinct (λ i j. i == j) queue
  pub within : (i : ℕ) → has queue i ≡ true → i < count

-- memory ran out only because the queue had room for fewer objects than there are words
abbrev pub IsShort : ℕ → ℕ → Stop → Type 0
IsShort count capacity Memory = capacity < count
IsShort count capacity (Stray k) = Unit {0}

-- memory ran out only if one of these words leads to an object that was not met
abbrev pub IsMore : ℕ → List ℕ → List ℕ → Stop → Type 0
IsMore count queue words Memory = length queue < length (fold (after_word (is_below count)) queue words)
IsMore count queue words (Stray k) = Unit {0}

-- each of these words is an immediate, null, or the address of one of `count` words
abbrev pub AllLead : Edition → ℕ → List ℕ → Type 0
AllLead edition count words = (k : ℕ) → k < length words → is_within edition count (slice_index words k) ≡ true

-- why marking stopped at the word with number k
abbrev pub IsStopAt : Edition → ℕ → ℕ → ℕ → Stop → Type 0
IsStopAt edition count word k Memory = Unit {0}
IsStopAt edition count word k (Stray n) = (n ≡ k) × (is_within edition count word ≡ false)

-- why it stopped at one of these words
abbrev pub IsStop : Edition → ℕ → List ℕ → Stop → Type 0
IsStop edition count words Memory = Unit {0}
IsStop edition count words (Stray k) = (k < length words) × (is_within edition count (slice_index words k) ≡ false)

-- the object at index i is placed, the bits of all its words are set, and its references and weak words lead to words
pub record IsDone (edition : Edition) (words bits : List ℕ) (i : ℕ) : Type 0 where
  pub placed : IsPlaced edition words i
  pub run : (j : ℕ) → IsWordOf edition words i j → bit bits j ≡ true
  pub references : AllLead edition (length words) (object_at edition words i).references
  pub weak : AllLead edition (length words) (object_at edition words i).weak

-- of two objects the one at the lower index ends before the other begins
abbrev pub AreApart : Edition → List ℕ → List ℕ → Type 0
AreApart edition words heads = (i j : ℕ) → bit heads i ≡ true → bit heads j ≡ true → i < j → i + size_of (header_at edition words i) ≤ j
