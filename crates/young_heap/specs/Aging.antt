-- A young collection after which only those objects are old that have survived two collections.
use Rattle.std.specs.Prelude.{◌≡◌, ◌≢◌, ℕ, ◌+◌, ◌*◌, ◌/◌, ◌<◌, ◌≤◌, Bool, List, length, slice_index}
use Rattle.heap_layout.specs.declared.edition.Edition.{Edition}
use Rattle.heap_layout.specs.Header.{size_of}
use Rattle.heap_layout.specs.Heap.{Heap, header_at}
use Rattle.stopped_heap.specs.Collecting.{IsCollected}
use Rattle.rest_slide.specs.Settled.{places}
use Rattle.rest_marks.specs.Surveys.{marks_of}
use Rattle.rest_marks.specs.declared.fault.SurveyFault.TheVariants as survey
use Rattle.young_heap.specs.Cards.{is_dirty, AreGathered}
use Rattle.young_heap.specs.Tables.{AreFitting, AreLacking, AreTooMany, IsFaultBy, Watermarked}
use Rattle.young_heap.specs.Young.{AreKeptYoung}
use Rattle.young_heap.specs.declared.fault.YoungFault.{YoungFault}
use Rattle.young_heap.specs.declared.fault.YoungFault.TheVariants.{TooLarge, ShortTables, FewWords, FewCards, NotAField, Survey}

-- where marked object k of a heap ends
abbrev pub end_of : Heap → ℕ → ℕ
end_of heap k =
    slice_index heap.marks k + size_of (header_at heap.edition heap.words (slice_index heap.marks k))

-- Index `middle` parts the objects of a heap that was collected: below it stand those that ended at or before word
-- `survived`, and from it on those that ended behind it.
pub record AreParted (heap : Heap) (survived middle : ℕ) : Type 0 where
  pub old : (k : ℕ) → k < length heap.marks → end_of heap k ≤ survived → slice_index (places heap) k < middle
  pub young : (k : ℕ) → k < length heap.marks → survived < end_of heap k → middle ≤ slice_index (places heap) k

-- The heap of these words and roots was collected with these marks, and index `middle` parts its objects.
pub record IsPartedBy (edition : Edition) (words roots heads : List ℕ) (survived live middle : ℕ)
    (new_roots after : List ℕ) : Type 0 where
  pub is : IsCollected (record { edition = edition; words = words; marks = marks_of heads; roots = roots })
      live new_roots words after
  pub parted : AreParted (record { edition = edition; words = words; marks = marks_of heads; roots = roots })
      survived middle

-- The young objects were collected by the references of old objects that are asked for and do not lead below, and index
-- `middle` parts the objects that ended at or before word `survived` from the others.
abbrev pub IsAgedBy : Edition → List ℕ → List ℕ → List ℕ → ℕ → ℕ → (ℕ → Bool) → ℕ → ℕ → List ℕ → List ℕ → Type 0
IsAgedBy edition words roots starts old survived asked live middle new_roots after =
    (fields : List ℕ) × AreGathered edition words starts old asked old fields
    × (heads : List ℕ) × AreKeptYoung edition words roots starts old fields heads
    × IsPartedBy edition words roots heads survived live middle new_roots after

-- They were, by the references on dirty cards: `middle` parts the objects that the last collection left, which have
-- survived two, from those that were allocated since.
abbrev pub IsAgingCollected : Edition → List ℕ → List ℕ → Watermarked → List ℕ → ℕ → ℕ → List ℕ → List ℕ → Type 0
IsAgingCollected edition words roots tables cards live middle new_roots after =
    IsAgedBy edition words roots tables.starts tables.watermark tables.survived (is_dirty cards) live middle
    new_roots after

-- Why such a collection is refused.
abbrev pub RefusesAging : Edition → List ℕ → List ℕ → Watermarked → List ℕ → YoungFault → Type 0
RefusesAging edition words roots tables cards TooLarge = AreTooMany edition words roots
RefusesAging edition words roots tables cards (ShortTables most) =
    (most ≡ tables.room) × AreLacking edition words roots tables.room
RefusesAging edition words roots tables cards (FewWords old) =
    (old ≡ tables.watermark) × AreFitting edition words roots tables.room × (length words < tables.watermark)
RefusesAging edition words roots tables cards (FewCards count) =
    (count ≡ (tables.survived + 63) / 64) × AreFitting edition words roots tables.room
    × (tables.watermark ≤ length words) × (length cards < count)
RefusesAging edition words roots tables cards (NotAField k) = ⊥
RefusesAging edition words roots tables cards (Survey fault) =
    AreFitting edition words roots tables.room × (tables.watermark ≤ length words)
    × (tables.survived ≤ 64 * length cards)
    × IsFaultBy edition words roots tables.starts tables.watermark (is_dirty cards) fault
    × (fault ≢ survey.OutOfMemory)
