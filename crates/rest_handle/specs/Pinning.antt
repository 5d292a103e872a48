-- A heap at rest is collected within its words around objects that stay.
use Rattle.std.specs.Prelude.{◌≡◌, ℕ, ◌*◌, ◌/◌, ◌≤◌, ◌⊎◌, List, [], ◌∷◌, ◌++◌, drop, length}
use Rattle.std.specs.List.{flat_map}
use Rattle.heap_layout.specs.declared.edition.Edition.{Edition}
use Rattle.pinned_heap.specs.Collecting.{HasCollectedAround, RefusesPinned}
use Rattle.pinned_heap.specs.declared.fault.CollectPinnedFault.{CollectPinnedFault}
use Rattle.pinned_heap.specs.declared.fault.CollectPinnedFault.TheVariants as pinned
use Rattle.pinned_heap.specs.declared.run.Run.{Run}
use Rattle.handle_base.specs.Answers.{bare, done, of_survey}
use Rattle.handle_base.specs.Statuses.{bad_pin, too_short}
use Rattle.rest_handle.specs.Resting.{OfEdition}
use Rattle.handle_base.specs.declared.answer.Answer.{Answer}

-- a heap was not collected around objects that stay
abbrev pub of_pinned : CollectPinnedFault → Answer
of_pinned (pinned.Survey fault) = of_survey fault
of_pinned (pinned.BadPin k) = bare bad_pin k
of_pinned (pinned.TooManyRuns count) = bare too_short count

-- a run as C sees it: the index of its first word, and the one behind its last word
abbrev pub run_ends : Run → List ℕ
run_ends run = run.start ∷ run.end ∷ []

-- these runs stand at the front of a buffer, and what is behind them is as it was
abbrev pub AreListed : List Run → List ℕ → List ℕ → Type 0
AreListed runs before after = (2 * length runs ≤ length before) × (after ≡ flat_map run_ends runs ++ drop (2 * length runs) before)

-- The heap was collected within its words, and the objects at the pins stayed: the answer has where the last live
-- object ends, `free` lists the runs of free words below that, and `count` is how many they are. Or words, roots, the
-- list and the count are as they were, and the answer says why; the runs for which the list has no room are one reason.
abbrev pub CollectsPinnedOf : Edition → List ℕ → List ℕ → List ℕ → List ℕ → List ℕ → List ℕ → List ℕ → ℕ → ℕ → Answer → Type 0
CollectsPinnedOf edition before after roots new_roots pins list free was count a =
    ((end : ℕ) × (runs : List Run) × (a ≡ done end) × HasCollectedAround edition before roots pins end runs new_roots after
    × AreListed runs list free × (count ≡ length runs))
    ⊎ ((after ≡ before) × (new_roots ≡ roots) × (free ≡ list) × (count ≡ was)
    × ((fault : CollectPinnedFault) × (a ≡ of_pinned fault) × RefusesPinned edition before roots pins (length list / 2) fault))

-- a heap of edition n, or there is no such edition
abbrev pub CollectsPinned : ℕ → List ℕ → List ℕ → List ℕ → List ℕ → List ℕ → List ℕ → List ℕ → ℕ → ℕ → Answer → Type 0
CollectsPinned n before after roots new_roots pins list free was count a =
    OfEdition n (λ edition. CollectsPinnedOf edition before after roots new_roots pins list free was count a)
    ((after ≡ before) × (new_roots ≡ roots) × (free ≡ list) × (count ≡ was)) a
