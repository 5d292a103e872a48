-- What several threads found of the objects that the roots reach.
use Rattle.std.specs.Prelude.{◌≡◌, ℕ, ◌<◌, true, List, length, All, Option, IfSome}
use Rattle.std.specs.Global.{Vec}
use Rattle.heap_layout.specs.declared.edition.Edition.{Edition}
use Rattle.heap_layout.specs.Bits.{bit}
use Rattle.heap_layout.specs.Heap.{from_address}
use Rattle.rest_marks.specs.Marks.{AllKept, IsKept}
use Rattle.rest_marks.specs.Meeting.{AreApart}
use Rattle.rest_marks.specs.Reached.{IsReachedFrom, IsWordOf, LeadInto}

-- if a word leads to an object, the roots reach it
abbrev pub IsReachedBy : Edition → List ℕ → List ℕ → ℕ → Type 0
IsReachedBy edition words roots word = (i : ℕ) → i < length words → word ≡ from_address i → IsReachedFrom edition words roots i

-- these words lead to objects that the roots reach, and to no others
abbrev pub LeadToReached : Edition → List ℕ → List ℕ → List ℕ → Type 0
LeadToReached edition words roots from = (i : ℕ) → LeadInto words from i → IsReachedFrom edition words roots i

-- the queue has objects that the roots reach, and no others; each bit that is set is that of one of them
pub record AreReaching (edition : Edition) (words roots queue heads : List ℕ) : Type 0 where
  pub queued : All (IsReachedFrom edition words roots) queue
  pub marked : (i : ℕ) → bit heads i ≡ true → IsReachedFrom edition words roots i

-- a thread found objects that the roots reach, and no others, if it did not give up
abbrev pub IsFoundPart : Edition → List ℕ → List ℕ → Option (Vec ℕ) → Type 0
IsFoundPart edition words roots part = IfSome part (λ found. All (IsReachedFrom edition words roots) found.items)

-- What marking by threads found: the set bits of `heads` are those of the objects that the roots reach, and those of
-- `bits` those of all their words; roots and references lead to these objects, and weak words to words; the objects lie
-- within the words and do not overlap.
pub record AreAllMarked (edition : Edition) (words roots heads bits : List ℕ) : Type 0 where
  pub reached : (i : ℕ) → bit heads i ≡ true → IsReachedFrom edition words roots i
  pub led : AllKept edition heads roots
  pub kept : (i : ℕ) → bit heads i ≡ true → IsKept edition words heads i
  pub run : (i j : ℕ) → bit heads i ≡ true → IsWordOf edition words i j → bit bits j ≡ true
  pub only : (j : ℕ) → bit bits j ≡ true → (i : ℕ) × (bit heads i ≡ true) × IsWordOf edition words i j
  pub apart : AreApart edition words heads
