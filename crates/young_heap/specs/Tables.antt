-- Tables with a watermark, and what calls by them refuse.
use Rattle.std.specs.Prelude.{◌≡◌, ◌≢◌, ℕ, ◌+◌, ◌*◌, ◌/◌, ◌^◌, ◌<◌, ◌≤◌, ◌⊎◌, Bool, min, true, List, length, slice_index}
use Rattle.heap_layout.specs.declared.edition.Edition.{Edition}
use Rattle.heap_layout.specs.Bits.{bit}
use Rattle.heap_layout.specs.Limits.{most_words, most_roots}
use Rattle.reachability.specs.Queue.{has}
use Rattle.rest_marks.specs.Reached.{IsFaultOf}
use Rattle.rest_marks.specs.declared.fault.SurveyFault.{SurveyFault}
use Rattle.rest_marks.specs.declared.fault.SurveyFault.TheVariants as survey
use Rattle.young_heap.specs.Cards.{is_dirty, AreFound, AreGathered, AreGatheredWeak}
use Rattle.young_heap.specs.Listing.{AreFields, IsListedAmiss}
use Rattle.young_heap.specs.Refusals.{IsYoungFaultOf}
use Rattle.young_heap.specs.Young.{AreOld, HasCollectedYoung}
use Rattle.young_heap.specs.declared.fault.YoungFault.{YoungFault}
use Rattle.young_heap.specs.declared.fault.YoungFault.TheVariants.{TooLarge, ShortTables, FewWords, FewCards, NotAField, Survey}

-- for collections of how many words there is room, the watermark, how many words the last collection left, and the
-- bits of the first words of old objects
pub record Watermarked : Type 0 where
  pub room : ℕ
  pub watermark : ℕ
  pub survived : ℕ
  pub starts : List ℕ

-- vectors of these items and capacities are tables of this room, of no more words than any edition allows, of this
-- watermark, and of so many words that survived
pub record AreOldTables (room old survived : ℕ) (heads spare bits counts : List ℕ) (queue fields weaks : ℕ) : Type 0 where
  pub few : length heads ≤ 2 ^ 25
  pub for_words : min room (2 ^ 31) ≤ 64 * length heads
  pub for_spare : length spare ≡ length heads
  pub for_bits : length bits ≡ length heads
  pub for_counts : length counts ≡ length bits + 1
  pub for_queue : min room (2 ^ 31) ≤ queue
  pub for_fields : min room (2 ^ 31) ≤ fields
  pub for_weaks : min room (2 ^ 31) ≤ weaks
  pub within : old ≤ min room (2 ^ 31)
  pub before : old ≤ survived
  pub survivors : survived ≤ min room (2 ^ 31)
  pub ones : (i : ℕ) → i < old → bit bits i ≡ true
  pub offsets : (b : ℕ) → b ≤ old / 64 → slice_index counts b ≡ 64 * b

-- The young objects of these words and roots were collected, by the references of old objects that are asked for and do
-- not lead below.
abbrev pub IsCollectedBy : Edition → List ℕ → List ℕ → List ℕ → ℕ → (ℕ → Bool) → ℕ → List ℕ → List ℕ → Type 0
IsCollectedBy edition words roots starts old asked live new_roots after =
    (fields : List ℕ) × AreGathered edition words starts old asked old fields
    × HasCollectedYoung edition words roots starts old fields live new_roots after

-- They were, by the references on dirty cards.
abbrev pub IsYoungCollected : Edition → List ℕ → List ℕ → List ℕ → ℕ → List ℕ → ℕ → List ℕ → List ℕ → Type 0
IsYoungCollected edition words roots starts old cards live new_roots after =
    IsCollectedBy edition words roots starts old (is_dirty cards) live new_roots after

-- there are more words or roots than the edition allows
abbrev pub AreTooMany : Edition → List ℕ → List ℕ → Type 0
AreTooMany edition words roots = (most_words edition < length words) ⊎ (most_roots edition < length roots)

-- the words and roots are not too many for the edition, and there is room for the words
pub record AreFitting (edition : Edition) (words roots : List ℕ) (room : ℕ) : Type 0 where
  pub few_words : length words ≤ most_words edition
  pub few_roots : length roots ≤ most_roots edition
  pub room_for : length words ≤ room

-- they are not too many for the edition, but there is no room for the words
pub record AreLacking (edition : Edition) (words roots : List ℕ) (room : ℕ) : Type 0 where
  pub few_words : length words ≤ most_words edition
  pub few_roots : length roots ≤ most_roots edition
  pub short : room < length words

-- Why no collection begins.
abbrev pub RefusesRoom : Edition → List ℕ → List ℕ → ℕ → YoungFault → Type 0
RefusesRoom edition words roots room TooLarge = AreTooMany edition words roots
RefusesRoom edition words roots room (ShortTables most) = (most ≡ room) × AreLacking edition words roots room
RefusesRoom edition words roots room (FewWords old) = ⊥
RefusesRoom edition words roots room (FewCards count) = ⊥
RefusesRoom edition words roots room (NotAField k) = ⊥
RefusesRoom edition words roots room (Survey fault) = ⊥

-- Why a collection of all is refused.
abbrev pub RefusesAll : Edition → List ℕ → List ℕ → ℕ → YoungFault → Type 0
RefusesAll edition words roots room TooLarge = AreTooMany edition words roots
RefusesAll edition words roots room (ShortTables most) = (most ≡ room) × AreLacking edition words roots room
RefusesAll edition words roots room (FewWords old) = ⊥
RefusesAll edition words roots room (FewCards count) = ⊥
RefusesAll edition words roots room (NotAField k) = ⊥
RefusesAll edition words roots room (Survey fault) =
    AreFitting edition words roots room × IsFaultOf edition words roots fault
    × (fault ≢ survey.OutOfMemory) × (fault ≢ survey.TooLarge)

-- The fault is one of what the roots reach above, and some words that are asked for: if the words below are a row of
-- objects, all their references there that do not lead below, which are followed, and all such weak words, which are
-- not.
abbrev pub IsFaultBy : Edition → List ℕ → List ℕ → List ℕ → ℕ → (ℕ → Bool) → SurveyFault → Type 0
IsFaultBy edition words roots starts old asked fault =
    (fields : List ℕ) × (weaks : List ℕ) × AreFound edition words starts old asked old fields
    × AreFound edition words starts old asked old weaks
    × (AreOld edition words starts old → AreGathered edition words starts old asked old fields)
    × (AreOld edition words starts old → AreGatheredWeak edition words starts old asked old weaks)
    × IsYoungFaultOf edition words roots starts old fields weaks fault

-- The fault is one of the listed words, or, if they are all as they must be, one of what is reached by them.
abbrev pub IsListFault : Edition → List ℕ → List ℕ → List ℕ → ℕ → List ℕ → YoungFault → Type 0
IsListFault edition words roots starts old list TooLarge = ⊥
IsListFault edition words roots starts old list (ShortTables most) = ⊥
IsListFault edition words roots starts old list (FewWords count) = ⊥
IsListFault edition words roots starts old list (FewCards count) = ⊥
IsListFault edition words roots starts old list (NotAField k) = IsListedAmiss edition words starts old list k
IsListFault edition words roots starts old list (Survey fault) =
    (AreOld edition words starts old → AreFields edition words starts old list)
    × IsFaultBy edition words roots starts old (has list) fault

-- Why a young collection is refused.
abbrev pub RefusesYoung : Edition → List ℕ → List ℕ → Watermarked → List ℕ → YoungFault → Type 0
RefusesYoung edition words roots tables cards TooLarge = AreTooMany edition words roots
RefusesYoung edition words roots tables cards (ShortTables most) =
    (most ≡ tables.room) × AreLacking edition words roots tables.room
RefusesYoung edition words roots tables cards (FewWords old) =
    (old ≡ tables.watermark) × AreFitting edition words roots tables.room × (length words < tables.watermark)
RefusesYoung edition words roots tables cards (FewCards count) =
    (count ≡ (tables.watermark + 63) / 64) × AreFitting edition words roots tables.room
    × (tables.watermark ≤ length words) × (length cards < count)
RefusesYoung edition words roots tables cards (NotAField k) = ⊥
RefusesYoung edition words roots tables cards (Survey fault) =
    AreFitting edition words roots tables.room × (tables.watermark ≤ length words)
    × (tables.watermark ≤ 64 * length cards)
    × IsFaultBy edition words roots tables.starts tables.watermark (is_dirty cards) fault
    × (fault ≢ survey.OutOfMemory)

-- Why a young collection by a list is refused.
abbrev pub RefusesYoungBy : Edition → List ℕ → List ℕ → Watermarked → List ℕ → YoungFault → Type 0
RefusesYoungBy edition words roots tables list TooLarge = AreTooMany edition words roots
RefusesYoungBy edition words roots tables list (ShortTables most) =
    (most ≡ tables.room) × AreLacking edition words roots tables.room
RefusesYoungBy edition words roots tables list (FewWords old) =
    (old ≡ tables.watermark) × AreFitting edition words roots tables.room × (length words < tables.watermark)
RefusesYoungBy edition words roots tables list (FewCards count) = ⊥
RefusesYoungBy edition words roots tables list (NotAField k) =
    AreFitting edition words roots tables.room × (tables.watermark ≤ length words)
    × IsListedAmiss edition words tables.starts tables.watermark list k
RefusesYoungBy edition words roots tables list (Survey fault) =
    AreFitting edition words roots tables.room × (tables.watermark ≤ length words)
    × (AreOld edition words tables.starts tables.watermark
    → AreFields edition words tables.starts tables.watermark list)
    × IsFaultBy edition words roots tables.starts tables.watermark (has list) fault
    × (fault ≢ survey.OutOfMemory)
