-- Tables that are made before the surveys that use them.
use Rattle.std.specs.Prelude.{◌≡◌, ◌≢◌, ℕ, ◌+◌, ◌*◌, ◌<◌, ◌≤◌, List, length}
use Rattle.heap_layout.specs.declared.edition.Edition.{Edition}
use Rattle.heap_layout.specs.Limits.{most_words, most_roots}
use Rattle.stopped_heap.specs.Collecting.{RefusesCollection}
use Rattle.rest_marks.specs.Marks.{IsMarksFaultOf}
use Rattle.rest_marks.specs.Reached.{IsFaultOf}
use Rattle.rest_marks.specs.declared.fault.CollectFault.TheVariants as collect
use Rattle.rest_marks.specs.declared.fault.SurveyFault.TheVariants as survey
use Rattle.rest_marks.specs.declared.fault.LentFault.{LentFault}
use Rattle.rest_marks.specs.declared.fault.LentFault.TheVariants as lent
use Rattle.rest_marks.specs.declared.fault.MarksFault.TheVariants as refusal
use Rattle.rest_marks.specs.declared.fault.MarksLentFault.{MarksLentFault}
use Rattle.rest_marks.specs.declared.fault.MarksLentFault.TheVariants as marking
use Rattle.rest_marks.specs.declared.fault.CollectLentFault.{CollectLentFault}
use Rattle.rest_marks.specs.declared.fault.CollectLentFault.TheVariants as collecting

-- for a survey of how many words there is room
pub record Reserved : Type 0 where
  pub room : ℕ

-- vectors of these capacities have room for a survey of so many words
pub record HaveRoom (words heads bits counts queue : ℕ) : Type 0 where
  pub for_heads : words ≤ 64 * heads
  pub for_bits : words ≤ 64 * bits
  pub for_counts : words + 64 ≤ 64 * counts
  pub for_queue : words ≤ queue

-- there is room for fewer words than there are, though there are not too many words or roots for the edition
pub record AreShort (edition : Edition) (words roots : List ℕ) (room : ℕ) : Type 0 where
  pub few_words : length words ≤ most_words edition
  pub few_roots : length roots ≤ most_roots edition
  pub short : room < length words

-- The tables that were lent have room for fewer words; or the heap is refused, and they have room if it is not too
-- large. Memory never runs out.
abbrev pub IsLentFaultOf : Edition → List ℕ → List ℕ → ℕ → LentFault → Type 0
IsLentFaultOf edition words roots room (lent.ShortTables has) = (has ≡ room) × AreShort edition words roots room
IsLentFaultOf edition words roots room (lent.Survey fault) =
    IsFaultOf edition words roots fault × (fault ≢ survey.OutOfMemory) × (fault ≢ survey.TooLarge → length words ≤ room)

-- the same of marks of the caller's own
abbrev pub IsMarksLentFaultOf : Edition → List ℕ → List ℕ → List ℕ → ℕ → MarksLentFault → Type 0
IsMarksLentFaultOf edition words roots heads room (marking.ShortTables has) = (has ≡ room) × AreShort edition words roots room
IsMarksLentFaultOf edition words roots heads room (marking.Marks fault) =
    IsMarksFaultOf edition words roots heads fault × (fault ≢ refusal.OutOfMemory) × (fault ≢ refusal.TooLarge → length words ≤ room)

-- The heap is not collected into a memory of `to` words by tables with this room: that is for fewer words; or the heap
-- is refused, or its live words do not fit, and there is room if it is not too large. Memory never runs out.
abbrev pub RefusesLent : Edition → List ℕ → List ℕ → ℕ → ℕ → CollectLentFault → Type 0
RefusesLent edition words roots room to (collecting.ShortTables has) = (has ≡ room) × AreShort edition words roots room
RefusesLent edition words roots room to (collecting.Collect fault) =
    RefusesCollection edition words roots to fault × (fault ≢ collect.Survey survey.OutOfMemory) × (fault ≢ collect.Survey survey.TooLarge → length words ≤ room)
