-- What a check of the words below the watermark finds.
use Rattle.std.specs.Prelude.{◌≡◌, ℕ, ◌+◌, ◌<◌, ◌≤◌, true, false, List, slice_index}
use Rattle.heap_layout.specs.declared.edition.Edition.{Edition}
use Rattle.heap_layout.specs.Bits.{bit}
use Rattle.heap_layout.specs.Header.{refs_of, weak_of}
use Rattle.heap_layout.specs.Heap.{header_at}
use Rattle.young_heap.specs.Cards.{is_dirty}
use Rattle.young_heap.specs.Young.{is_below_led, AreOld}
use Rattle.young_heap.specs.declared.fault.OldFault.{OldFault}
use Rattle.young_heap.specs.declared.fault.OldFault.TheVariants.{NotARow, LeadsAbove}

-- the words below index i are a row of objects, and no more of the words below `old` are
pub record IsLastRow (edition : Edition) (words starts : List ℕ) (old i : ℕ) : Type 0 where
  pub low : i < old
  pub row : AreOld edition words starts i
  pub last : (j : ℕ) → i < j → j ≤ old → AreOld edition words starts j → ⊥

-- word j is a reference or a weak word of an old object, stands on a clean card, and does not lead below
pub record IsUnmarked (edition : Edition) (words starts : List ℕ) (old : ℕ) (cards : List ℕ) (j : ℕ) : Type 0 where
  pub word : (i : ℕ) × (i < old) × (bit starts i ≡ true) × (i < j)
      × (j ≤ i + refs_of (header_at edition words i) + weak_of (header_at edition words i))
  pub clean : is_dirty cards j ≡ false
  pub above : is_below_led edition starts old (slice_index words j) ≡ false

-- The fault is one of these words and cards. They are looked at in this order: first whether there is a row.
abbrev pub IsOldFaultOf : Edition → List ℕ → List ℕ → ℕ → List ℕ → OldFault → Type 0
IsOldFaultOf edition words starts old cards (NotARow i) = IsLastRow edition words starts old i
IsOldFaultOf edition words starts old cards (LeadsAbove j) =
    AreOld edition words starts old × IsUnmarked edition words starts old cards j
