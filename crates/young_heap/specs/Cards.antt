-- Which words of old objects lead above, by cards, which are a byte for each 64 words that the runtime sets when it
-- stores, or by a list of the words that it stored. Either way some words are asked for: those on dirty cards, or those
-- in the list.
use Rattle.std.specs.Prelude.{◌≡◌, ℕ, ◌+◌, ◌/◌, ◌<◌, ◌≤◌, ◌==◌, ◌&&◌, Bool, not, true, false, nat_le, nat_lt, cond, List, [], ◌∷◌, ◌++◌, All, length, slice_index}
use Rattle.std.specs.List.Sorted.{IsStrictlyIncreasing}
use Rattle.heap_layout.specs.declared.edition.Edition.{Edition}
use Rattle.heap_layout.specs.Bits.{bit}
use Rattle.heap_layout.specs.Header.{Head, refs_of, weak_of, size_of}
use Rattle.heap_layout.specs.Heap.{header_at}
use Rattle.reachability.specs.Queue.{has}
use Rattle.young_heap.specs.Young.{is_below_led}
use Rattle.young_heap.specs.declared.remembering.Owner.{Owner}

-- whether the card of word j was written to
abbrev pub is_dirty : List ℕ → ℕ → Bool
is_dirty cards j = not (slice_index cards (j / 64) == 0)

-- Each reference and each weak word of an old object that is not asked for leads below.
pub record AreUnasked (edition : Edition) (words starts : List ℕ) (old : ℕ) (asked : ℕ → Bool) : Type 0 where
  pub clean : (i f : ℕ) → i < old → bit starts i ≡ true → 1 ≤ f → f ≤ refs_of (header_at edition words i)
      → asked (i + f) ≡ false → is_below_led edition starts old (slice_index words (i + f)) ≡ true
  pub weak : (i f : ℕ) → i < old → bit starts i ≡ true → refs_of (header_at edition words i) < f
      → f ≤ refs_of (header_at edition words i) + weak_of (header_at edition words i)
      → asked (i + f) ≡ false → is_below_led edition starts old (slice_index words (i + f)) ≡ true

-- What the runtime keeps by cards: each reference and each weak word of an old object on a clean card leads below.
abbrev pub AreCleanCards : Edition → List ℕ → List ℕ → ℕ → List ℕ → Type 0
AreCleanCards edition words starts old cards = AreUnasked edition words starts old (is_dirty cards)

-- What it keeps by a list: each that is not listed leads below.
abbrev pub AreListed : Edition → List ℕ → List ℕ → ℕ → List ℕ → Type 0
AreListed edition words starts old list = AreUnasked edition words starts old (has list)

-- What the write barrier keeps, while `words` became `after`, and what is asked for went from `asked` to `now`: no
-- header of an old object changed; of the references and weak words that are not asked for none changed; and what was
-- asked for still is.
pub record AreStored (edition : Edition) (words starts : List ℕ) (old : ℕ) (asked : ℕ → Bool) (after : List ℕ)
    (now : ℕ → Bool) : Type 0 where
  pub longer : length words ≤ length after
  pub headers : (i : ℕ) → i < old → bit starts i ≡ true → slice_index after i ≡ slice_index words i
  pub references : (i f : ℕ) → i < old → bit starts i ≡ true → 1 ≤ f → f ≤ refs_of (header_at edition words i)
      → now (i + f) ≡ false → slice_index after (i + f) ≡ slice_index words (i + f)
  pub weak : (i f : ℕ) → i < old → bit starts i ≡ true → refs_of (header_at edition words i) < f
      → f ≤ refs_of (header_at edition words i) + weak_of (header_at edition words i)
      → now (i + f) ≡ false → slice_index after (i + f) ≡ slice_index words (i + f)
  pub stay : (j : ℕ) → now j ≡ false → asked j ≡ false

-- What gathering finds, whatever the words below are: words before word `upto`, rising, that are asked for and do not
-- lead below.
pub record AreFound (edition : Edition) (words starts : List ℕ) (old : ℕ) (asked : ℕ → Bool) (upto : ℕ)
    (fields : List ℕ) : Type 0 where
  pub below : All (λ j. j < upto) fields
  pub rising : IsStrictlyIncreasing fields
  pub among : (j : ℕ) → has fields j ≡ true → asked j ≡ true
  pub above : (j : ℕ) → has fields j ≡ true → is_below_led edition starts old (slice_index words j) ≡ false

-- The fields are words of old objects, of each one behind its word `first` up to its word `last`, which its header
-- says: those before word `upto` that are asked for and do not lead below, all of them, and no others, rising. There is
-- one such list.
pub record AreGatheredOf (first last : Head → ℕ) (edition : Edition) (words starts : List ℕ) (old : ℕ)
    (asked : ℕ → Bool) (upto : ℕ) (fields : List ℕ) : Type 0 where
  pub below : All (λ j. j < upto) fields
  pub rising : IsStrictlyIncreasing fields
  pub fields_are : (j : ℕ) → has fields j ≡ true → (i : ℕ) × (i < old) × (bit starts i ≡ true)
      × (i + first (header_at edition words i) < j) × (j ≤ i + last (header_at edition words i))
  pub among : (j : ℕ) → has fields j ≡ true → asked j ≡ true
  pub above : (j : ℕ) → has fields j ≡ true → is_below_led edition starts old (slice_index words j) ≡ false
  pub all : (i f : ℕ) → i < old → bit starts i ≡ true → first (header_at edition words i) < f
      → f ≤ last (header_at edition words i) → i + f < upto → asked (i + f) ≡ true
      → is_below_led edition starts old (slice_index words (i + f)) ≡ false → has fields (i + f) ≡ true

-- the word of the header, which is before the references; and the last of the weak words, which are behind them
abbrev pub header_word_of : Head → ℕ
header_word_of header = 0

abbrev pub last_weak_of : Head → ℕ
last_weak_of header = refs_of header + weak_of header

-- the fields are the references of old objects before word `upto` that are asked for and do not lead below, rising
abbrev pub AreGathered : Edition → List ℕ → List ℕ → ℕ → (ℕ → Bool) → ℕ → List ℕ → Type 0
AreGathered edition words starts old asked upto fields =
    AreGatheredOf header_word_of refs_of edition words starts old asked upto fields

-- they are their weak words
abbrev pub AreGatheredWeak : Edition → List ℕ → List ℕ → ℕ → (ℕ → Bool) → ℕ → List ℕ → Type 0
AreGatheredWeak edition words starts old asked upto weaks =
    AreGatheredOf refs_of last_weak_of edition words starts old asked upto weaks

-- it is an old object, and has word j or ends there
pub record IsOwner (edition : Edition) (words starts : List ℕ) (old : ℕ) (owner : Owner) (j : ℕ) : Type 0 where
  pub start : bit starts owner.start ≡ true
  pub low : owner.start < old
  pub from : owner.start ≤ j
  pub to : j ≤ owner.end
  pub last_ref : owner.last_ref ≡ owner.start + refs_of (header_at edition words owner.start)
  pub last_weak : owner.last_weak ≡ owner.last_ref + weak_of (header_at edition words owner.start)
  pub ends : owner.end ≡ owner.start + size_of (header_at edition words owner.start)

-- the fields with word j, if it is behind word `first` up to word `last` and does not lead below
abbrev pub with_word : Edition → List ℕ → List ℕ → ℕ → ℕ → ℕ → List ℕ → ℕ → List ℕ
with_word edition words starts old first last fields j =
    cond (nat_lt first j && (nat_le j last && not (is_below_led edition starts old (slice_index words j))))
    (fields ++ j ∷ []) fields
