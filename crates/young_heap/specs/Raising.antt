-- A watermark that is raised, with no collection.
use Rattle.std.specs.Prelude.{◌≡◌, ℕ, ◌+◌, ◌<◌, ◌≤◌, ◌⊎◌, Bool, true, false, List, length, slice_index}
use Rattle.heap_layout.specs.declared.edition.Edition.{Edition}
use Rattle.heap_layout.specs.Header.{size_of}
use Rattle.heap_layout.specs.Heap.{header_at}
use Rattle.heap_layout.specs.Limits.{most_object_words, most_words}
use Rattle.young_heap.specs.Dirty.{IsWordFrom}
use Rattle.young_heap.specs.Rows.{IsRowTo}
use Rattle.young_heap.specs.Tables.{Watermarked}
use Rattle.young_heap.specs.Young.{is_below_led}
use Rattle.young_heap.specs.declared.fault.RaiseFault.{RaiseFault}
use Rattle.young_heap.specs.declared.fault.RaiseFault.TheVariants.{TooLarge, ShortTables, FewWords, BelowWatermark, NotARow}

-- the words are not too many for the edition, and there is room for them; word `end` is not behind them, and not before
-- the watermark
pub record AreRaisedTo (edition : Edition) (words : List ℕ) (tables : Watermarked) (end : ℕ) : Type 0 where
  pub few_words : length words ≤ most_words edition
  pub room_for : length words ≤ tables.room
  pub within : end ≤ length words
  pub up : tables.watermark ≤ end

-- they are so, and those from the watermark up to word `end` are a row of objects
pub record AreRaisable (edition : Edition) (words : List ℕ) (tables : Watermarked) (end : ℕ) : Type 0 where
  pub to : AreRaisedTo edition words tables end
  pub row : IsRowTo edition words end tables.watermark

-- The words from index `from` on are a row of objects up to the one at index i, which is longer than any object of the
-- edition, or ends behind word `end`. There is at most one such index.
pub record IsBrokenAt (edition : Edition) (words : List ℕ) (from end i : ℕ) : Type 0 where
  pub row : IsRowTo edition words i from
  pub low : i < end
  pub breaks : (most_object_words edition < size_of (header_at edition words i))
      ⊎ (end < i + size_of (header_at edition words i))

-- Why a watermark is not raised.
abbrev pub RefusesRaise : Edition → List ℕ → Watermarked → ℕ → RaiseFault → Type 0
RefusesRaise edition words tables end TooLarge = most_words edition < length words
RefusesRaise edition words tables end (ShortTables most) =
    (most ≡ tables.room) × (length words ≤ most_words edition) × (tables.room < length words)
RefusesRaise edition words tables end (FewWords count) =
    (count ≡ end) × (length words ≤ most_words edition) × (length words ≤ tables.room) × (length words < end)
RefusesRaise edition words tables end (BelowWatermark old) =
    (old ≡ tables.watermark) × (length words ≤ most_words edition) × (length words ≤ tables.room)
    × (end ≤ length words) × (end < tables.watermark)
RefusesRaise edition words tables end (NotARow i) =
    AreRaisedTo edition words tables end × IsBrokenAt edition words tables.watermark end i

-- Of the objects that start from index `from` on and below `old`, each reference and each weak word that is not asked
-- for leads below.
abbrev pub AreUnaskedFrom : Edition → List ℕ → List ℕ → ℕ → ℕ → (ℕ → Bool) → Type 0
AreUnaskedFrom edition words starts from old asked = (j : ℕ) → IsWordFrom edition words starts from old j
    → asked j ≡ false → is_below_led edition starts old (slice_index words j) ≡ true
