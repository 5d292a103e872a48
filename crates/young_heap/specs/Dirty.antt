-- Cards that are made anew after a collection.
use Rattle.std.specs.Prelude.{◌≡◌, ◌≢◌, ℕ, ◌+◌, ◌/◌, ◌<◌, ◌≤◌, ◌⊎◌, true, false, List, slice_index}
use Rattle.heap_layout.specs.declared.edition.Edition.{Edition}
use Rattle.heap_layout.specs.Bits.{bit}
use Rattle.heap_layout.specs.Header.{refs_of, weak_of}
use Rattle.heap_layout.specs.Heap.{header_at}
use Rattle.reachability.specs.Queue.{has}
use Rattle.young_heap.specs.Cards.{is_dirty}
use Rattle.young_heap.specs.Young.{is_below_led}

-- word j does not lead below
abbrev pub LeadsAbove : Edition → List ℕ → List ℕ → ℕ → ℕ → Type 0
LeadsAbove edition words starts old j = is_below_led edition starts old (slice_index words j) ≡ false

-- word j is a reference or a weak word of an object that starts from index `from` on and below `old`
abbrev pub IsWordFrom : Edition → List ℕ → List ℕ → ℕ → ℕ → ℕ → Type 0
IsWordFrom edition words starts from old j =
    (i : ℕ) × (from ≤ i) × (i < old) × (bit starts i ≡ true) × (i < j)
    × (j ≤ i + refs_of (header_at edition words i) + weak_of (header_at edition words i))

-- Just the cards are dirty of the references and weak words of old objects that do not lead below.
pub record AreMade (edition : Edition) (words starts : List ℕ) (old : ℕ) (cards : List ℕ) : Type 0 where
  pub dirty : (j : ℕ) → IsWordFrom edition words starts 0 old j → LeadsAbove edition words starts old j
      → is_dirty cards j ≡ true
  pub only : (k : ℕ) → slice_index cards k ≢ 0
      → (j : ℕ) × (j / 64 ≡ k) × IsWordFrom edition words starts 0 old j × LeadsAbove edition words starts old j

-- Of cards that were `before`, and are `after`, those are dirty that were, and those of the words of which P holds.
pub record AreMarked (before after : List ℕ) (P : ℕ → Type 0) : Type 0 where
  pub stay : (k : ℕ) → slice_index before k ≢ 0 → slice_index after k ≢ 0
  pub dirty : (j : ℕ) → P j → slice_index after (j / 64) ≢ 0
  pub only : (k : ℕ) → slice_index after k ≢ 0 → (slice_index before k ≢ 0) ⊎ ((j : ℕ) × P j × (j / 64 ≡ k))

-- word j is one of these, or of an object from index `from` on and below `old`, and does not lead below
abbrev pub IsAsked : Edition → List ℕ → List ℕ → ℕ → ℕ → List ℕ → List ℕ → ℕ → Type 0
IsAsked edition words starts from old fields weaks j =
    ((has fields j ≡ true) ⊎ (has weaks j ≡ true)
    ⊎ (IsWordFrom edition words starts from old j × (j < old)))
    × LeadsAbove edition words starts old j
