-- A slide of a part of the words, around objects that stay: the words from index `low` on, which is 0 or the start of
-- an object that stays, up to the next start of one, or to the end.
use Rattle.std.specs.Prelude.{◌≡◌, ℕ, ◌+◌, ◌-◌, ◌^◌, ◌<◌, ◌≤◌, ◌==◌, ◌⊎◌, true, false, cond, nat_lt, List, length, slice_index}
use Rattle.heap_layout.specs.declared.edition.Edition.{Edition}
use Rattle.heap_layout.specs.Bits.{bit}
use Rattle.heap_layout.specs.Header.{header_of, refs_of, weak_of, size_of}
use Rattle.heap_layout.specs.Heap.{header_at, IsPlaced, IsValue}
use Rattle.rest_marks.specs.Surveys.{marks_of}
use Rattle.pinned_heap.specs.Around.{IsFilled}
use Rattle.pinned_heap.specs.Tables.{end_below, kept_at_place, place_by}
use Rattle.pinned_heap.specs.declared.run.Run.{Run}

-- The tables are those of these words: each live object among them lies within them, its references lead to live
-- objects, its words are live, and no other words are.
pub record ArePartTables (edition : Edition) (heads bits stays : List ℕ) (low : ℕ) (part : List ℕ) : Type 0 where
  pub few : length part ≤ 2 ^ 31
  pub same : length heads ≡ length bits
  pub first : (low ≡ 0) ⊎ ((bit stays low ≡ true) × (0 < length part))
  pub still : (i : ℕ) → bit stays i ≡ true → bit heads i ≡ true
  pub placed : (i : ℕ) → low ≤ i → i < low + length part → bit heads i ≡ true → IsPlaced edition part (i - low)
  pub values : (i f : ℕ) → low ≤ i → i < low + length part → bit heads i ≡ true → 1 ≤ f → f ≤ refs_of (header_at edition part (i - low))
      → IsValue edition (marks_of heads) (slice_index part (i - low + f))
  pub run : (i j : ℕ) → low ≤ i → i < low + length part → bit heads i ≡ true → i ≤ j → j < i + size_of (header_at edition part (i - low)) → bit bits j ≡ true
  pub apart : (i j : ℕ) → low ≤ i → i < low + length part → bit heads i ≡ true → i < j → j < i + size_of (header_at edition part (i - low)) → bit heads j ≡ false
  pub owned : (j : ℕ) → low ≤ j → j < low + length part → bit bits j ≡ true
      → (i : ℕ) × (low ≤ i) × (i ≤ j) × (bit heads i ≡ true) × (j < i + size_of (header_at edition part (i - low)))

-- word j of an object with this header afterwards, if it was `word`: references and weak words are led by g
abbrev pub led_word : Edition → (ℕ → ℕ) → ℕ → ℕ → ℕ → ℕ
led_word edition g header j word = cond (j == 0) word (cond (nat_lt (refs_of (header_of edition header) + weak_of (header_of edition header)) j) word (g word))

-- the run of free words that ends at index i, by its indices in the part
abbrev pub run_in : List ℕ → List ℕ → ℕ → ℕ → Run
run_in bits stays low i = record { start = end_below (bit bits) (bit stays) i - low; end = i - low }

-- The object at index i is slid, in a part of the words that was `old` and is `new`: each of its words is at its place,
-- led, and it ends at word `place` of the part or before.
pub record IsObjectSlid (edition : Edition) (heads bits stays : List ℕ) (low : ℕ) (old : List ℕ) (place : ℕ) (new : List ℕ) (i : ℕ) : Type 0 where
  pub above : low ≤ place_by bits stays i
  pub under : place_by bits stays i + size_of (header_at edition old (i - low)) ≤ low + place
  pub made : (j : ℕ) → j < size_of (header_at edition old (i - low))
      → slice_index new (place_by bits stays i - low + j)
      ≡ led_word edition (kept_at_place edition heads bits stays) (slice_index old (i - low)) j (slice_index old (i - low + j))

-- the run of free words that ends at index i is filled, and lies before word `place` of the part
pub record IsRunFilled (edition : Edition) (bits stays : List ℕ) (low place : ℕ) (new : List ℕ) (i : ℕ) : Type 0 where
  pub above : low ≤ end_below (bit bits) (bit stays) i
  pub under : i ≤ low + place
  pub filled : IsFilled edition new (run_in bits stays low i)

-- The objects of a part of the words, which was `old` and is `new`, are slid, and end at word `place` of the part. The
-- runs that end within the part are filled, and the words from `place` on are as they were.
pub record AreObjectsSlid (edition : Edition) (heads bits stays : List ℕ) (low : ℕ) (old : List ℕ) (place : ℕ) (new : List ℕ) : Type 0 where
  pub long : length new ≡ length old
  pub fit : place ≤ length old
  pub at : end_below (bit bits) (bit stays) (low + length old) ≡ low + place
  pub objects : (i : ℕ) → low ≤ i → i < low + length old → bit heads i ≡ true → IsObjectSlid edition heads bits stays low old place new i
  pub filled : (i : ℕ) → low < i → i < low + length old → bit stays i ≡ true → end_below (bit bits) (bit stays) i < i
      → IsRunFilled edition bits stays low place new i
  pub behind : (k : ℕ) → place ≤ k → slice_index new k ≡ slice_index old k

-- A part of the words, which was `old` and is `new`, is slid: its objects are; the runs are filled that end within it
-- or where it ends; and if no object that stays is right behind it, the words behind its last object are as they were.
pub record IsPartSlid (edition : Edition) (heads bits stays : List ℕ) (low : ℕ) (old new : List ℕ) : Type 0 where
  pub long : length new ≡ length old
  pub objects : (i : ℕ) → low ≤ i → i < low + length old → bit heads i ≡ true → IsObjectSlid edition heads bits stays low old (length old) new i
  pub filled : (i : ℕ) → low < i → i ≤ low + length old → bit stays i ≡ true → end_below (bit bits) (bit stays) i < i
      → IsRunFilled edition bits stays low (length old) new i
  pub behind : bit stays (low + length old) ≡ false → (k : ℕ) → end_below (bit bits) (bit stays) (low + length old) ≤ low + k → slice_index new k ≡ slice_index old k
