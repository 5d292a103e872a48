-- A whole collection around objects that stay.
use Rattle.std.specs.Prelude.{◌≡◌, ℕ, ◌<◌, ◌≤◌, ◌⊎◌, true, false, List, ◌++◌, length, map, slice_index, All}
use Rattle.heap_layout.specs.declared.edition.Edition.{Edition}
use Rattle.heap_layout.specs.Heap.{Heap, live}
use Rattle.heap_layout.specs.Limits.{most_words, most_roots}
use Rattle.reachability.specs.Queue.{is_address}
use Rattle.rest_marks.specs.Reached.{is_below, AreReached, IsHeapFaultOf, IsSound}
use Rattle.rest_marks.specs.declared.fault.SurveyFault.{SurveyFault}
use Rattle.rest_marks.specs.declared.fault.SurveyFault.TheVariants.{TooLarge, BadRoot, BadReference, BadWeak, ObjectTooLong, ObjectPastEnd, Overlap, OutOfMemory}
use Rattle.pinned_heap.specs.Around.{end_from, is_address_of, led_around, runs_from, stays, IsSlidAround}
use Rattle.pinned_heap.specs.declared.fault.CollectPinnedFault.{CollectPinnedFault}
use Rattle.pinned_heap.specs.declared.fault.CollectPinnedFault.TheVariants.{Survey, BadPin, TooManyRuns}
use Rattle.pinned_heap.specs.declared.run.Run.{Run}

-- The heap was collected within its words, and the objects at the pins stayed: its live objects slid around them, its
-- roots lead there, `runs` are the runs of free words between its objects, and behind `end` all words are free. The
-- words are `after` then, and `roots` the roots.
pub record IsCollectedAround (heap : Heap) (pins : List ℕ) (end : ℕ) (runs : List Run) (roots after : List ℕ) : Type 0 where
  pub sound : IsSound heap
  pub pinned : All (λ pin. is_address_of (live heap) pin ≡ true) pins
  pub slid : IsSlidAround heap (stays pins) after
  pub roots_are : roots ≡ map (led_around heap.edition (stays pins) (live heap)) heap.roots
  pub runs_are : runs ≡ runs_from (stays pins) 0 (live heap)
  pub end_is : end ≡ end_from (stays pins) 0 (live heap)

-- The heap of these words and roots, whose marked objects are exactly those that the roots and the pins reach, was
-- collected so. There is one such list of marks.
abbrev pub HasCollectedAround : Edition → List ℕ → List ℕ → List ℕ → ℕ → List Run → List ℕ → List ℕ → Type 0
HasCollectedAround edition words roots pins end runs new_roots after =
    (marks : List ℕ) × AreReached edition words (roots ++ pins) marks
    × IsCollectedAround (record { edition = edition; words = words; marks = marks; roots = roots }) pins end runs new_roots after

-- there are not more words, roots or pins than the edition allows
abbrev pub AreFewWith : Edition → List ℕ → List ℕ → List ℕ → Type 0
AreFewWith edition words roots pins = (length words ≤ most_words edition) × (length roots ≤ most_roots edition) × (length pins ≤ most_roots edition)

-- The heap whose marked objects are exactly those that the roots and the pins reach would leave so many runs. There is
-- one such list of marks.
abbrev pub LeavesRuns : Edition → List ℕ → List ℕ → List ℕ → ℕ → Type 0
LeavesRuns edition words roots pins count =
    (marks : List ℕ) × AreReached edition words (roots ++ pins) marks × IsSound (record { edition = edition; words = words; marks = marks; roots = roots })
    × All (λ pin. is_address_of (live (record { edition = edition; words = words; marks = marks; roots = roots })) pin ≡ true) pins
    × (count ≡ length (runs_from (stays pins) 0 (live (record { edition = edition; words = words; marks = marks; roots = roots }))))

-- Why a heap is not collected so, where at most so many runs are wanted: it is too large, or there are too many pins;
-- or not, and a pin is not the address of a word, or the fault is one of the words, and what the roots and the pins
-- reach there, or it would leave more runs, or memory ran out.
abbrev pub RefusesPinned : Edition → List ℕ → List ℕ → List ℕ → ℕ → CollectPinnedFault → Type 0
RefusesPinned edition words roots pins most (Survey TooLarge) = (most_words edition < length words) ⊎ ((most_roots edition < length roots) ⊎ (most_roots edition < length pins))
RefusesPinned edition words roots pins most (Survey (BadRoot k)) = AreFewWith edition words roots pins × IsHeapFaultOf edition words roots (BadRoot k)
RefusesPinned edition words roots pins most (Survey (BadReference j)) = AreFewWith edition words roots pins × IsHeapFaultOf edition words (roots ++ pins) (BadReference j)
RefusesPinned edition words roots pins most (Survey (BadWeak j)) = AreFewWith edition words roots pins × IsHeapFaultOf edition words (roots ++ pins) (BadWeak j)
RefusesPinned edition words roots pins most (Survey (ObjectTooLong i)) = AreFewWith edition words roots pins × IsHeapFaultOf edition words (roots ++ pins) (ObjectTooLong i)
RefusesPinned edition words roots pins most (Survey (ObjectPastEnd i)) = AreFewWith edition words roots pins × IsHeapFaultOf edition words (roots ++ pins) (ObjectPastEnd i)
RefusesPinned edition words roots pins most (Survey (Overlap i)) = AreFewWith edition words roots pins × IsHeapFaultOf edition words (roots ++ pins) (Overlap i)
RefusesPinned edition words roots pins most (Survey OutOfMemory) = AreFewWith edition words roots pins
RefusesPinned edition words roots pins most (BadPin k) =
    AreFewWith edition words roots pins × (k < length pins) × (is_address (is_below (length words)) (slice_index pins k) ≡ false)
RefusesPinned edition words roots pins most (TooManyRuns count) =
    AreFewWith edition words roots pins × LeavesRuns edition words roots pins count × (most < count)

-- the fault of a survey that went on from the pins
abbrev pub refused_with : SurveyFault → CollectPinnedFault
refused_with TooLarge = Survey TooLarge
refused_with (BadRoot k) = BadPin k
refused_with (BadReference j) = Survey (BadReference j)
refused_with (BadWeak j) = Survey (BadWeak j)
refused_with (ObjectTooLong i) = Survey (ObjectTooLong i)
refused_with (ObjectPastEnd i) = Survey (ObjectPastEnd i)
refused_with (Overlap i) = Survey (Overlap i)
refused_with OutOfMemory = Survey OutOfMemory
