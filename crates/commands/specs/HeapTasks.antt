-- What the commands on a heap come to: `plan`, `word`, `audit`, `moved`, `map`, `compact`, `mark`, `collect`.
use Rattle.std.specs.Prelude.{◌≡◌, ◌⊎◌, ℕ, ◌*◌, ◌<◌, ◌≤◌, Bool, true, false, List, [], ◌++◌, length, map, cond, codes, slice_index, unwrap_or, Option, Some}
use Rattle.std.specs.List.{flat_map, range_with_len, enumerate_from}
use Rattle.heap_layout.specs.declared.edition.Edition.{Edition}
use Rattle.heap_layout.specs.Encoding.{encoding}
use Rattle.heap_layout.specs.Faults as heaps
use Rattle.heap_layout.specs.Faults.{IsAccepted}
use Rattle.heap_layout.specs.Heap.{Heap, Object, live, IsStored}
use Rattle.page_plan.specs.Sliding.{first_object, forwarded_value, live_words, page, pages, slid_words}
use Rattle.reachability.specs.Reachable.{AreReachable, RefusesFor}
use Rattle.rest_marks.specs.Reached.{AreReached, IsFaultOf, IsSound}
use Rattle.rest_slide.specs.Settled.{collected}
use Rattle.rest_marks.specs.declared.fault.SurveyFault.TheVariants as surveys
use Rattle.comp_mutator.specs.Refusal.TheVariants as mutators
use Rattle.comp_sweep.specs.RegionSplits.{AreAllOnce}
use Rattle.comp_sweep.specs.declared.fault.SweepFault.TheVariants as sweeps
use Rattle.comp_dump.specs.Dumped.{BuiltPage, Dumped}
use Rattle.comp_dump.specs.DumpEncoding.{dump_bytes}
use Rattle.comp_dump.specs.Lists.{total}
use Rattle.comp_dump.specs.declared.fault.AuditFault.{AuditFault}
use Rattle.comp_audit.specs.Checks.{all_entries}
use Rattle.comp_audit.specs.Explained.{Explains}
use Rattle.comp_audit.specs.Judged.{faults, whole_faults, Judges}
use Rattle.comp_audit.specs.Meant.{built_count}
use Rattle.comp_audit.specs.Wording.{counts_text, explanation_text}
use Rattle.comp_audit.specs.declared.explanation.Explanation.{Explanation}
use Rattle.comp_audit.specs.declared.verdict.Verdict.TheVariants.{No, Yes}
use Rattle.moved_heaps.specs.Moved.{Moved, IsLawful}
use Rattle.moved_heaps.specs.MovedFaults.{IsFirstFault}
use Rattle.moved_heaps.specs.declared.fault.MovedFault.{MovedFault}
use Rattle.moved_heaps.specs.declared.fault.MovedFault.TheVariants as moves
use Rattle.heap_map.specs.Pictures.{IsPictureOf, IsWhole}
use Rattle.command_io.specs.Printing.{line_of, named, numbered}
use Rattle.command_io.specs.declared.refusal.Output.TheVariants as outputs
use Rattle.command_io.specs.declared.refusal.CommandRefusal.{CommandRefusal}
use Rattle.command_io.specs.declared.refusal.CommandRefusal.TheVariants as refusals
use Rattle.command_io.specs.declared.refusal.CommandRefusal.TheVariants.{Audit, Layout, Mutator, NoSuchWord, OutOfMemory, Survey, Sweep}
use Rattle.commands.specs.Outcome.{Outcome, makes, prints, stops}

-- the line of page p: the from-space index of the first live object that has a word there
abbrev pub page_line : List Object → ℕ → List ℕ
page_line objects p = numbered (codes "page ") p (codes " first ") (unwrap_or (first_object objects p) 0)

-- the line of a root: its number, and its value after the flip
abbrev pub root_line : ℕ × ℕ → List ℕ
root_line root = numbered (codes "root ") root.0 (codes " ") root.1

abbrev pub page_lines : List Object → List ℕ
page_lines objects = flat_map (page_line objects) (range_with_len 0 (pages objects))

abbrev pub root_lines : List ℕ → List ℕ
root_lines addresses = flat_map root_line (enumerate_from 0 addresses)

-- the live words and the pages
abbrev pub count_lines : List Object → List ℕ
count_lines objects = named (codes "live ") (live_words objects) ++ named (codes "pages ") (pages objects)

-- all lines: the live words, the pages, the first object of each page, and each root after the flip
abbrev pub plan_text : Heap → List ℕ
plan_text heap = count_lines (live heap) ++ page_lines (live heap) ++ root_lines (map (forwarded_value heap.edition (live heap)) heap.roots)

-- the plan is printed, or memory ran out
abbrev pub IsPlanned : Heap → Outcome → Type 0
IsPlanned heap outcome = (outcome ≡ prints (plan_text heap)) ⊎ (outcome ≡ stops [] OutOfMemory)

-- the slid word at this index, on one of the pages; after the last live word it is 0
abbrev pub word_at : ℕ → Heap → ℕ
word_at index heap = slice_index (slid_words (live heap)) index

-- that word is printed; or the index is after the last page, or memory ran out
abbrev pub IsWordOf : ℕ → Heap → Outcome → Type 0
IsWordOf index heap outcome =
    ((index < 64 * pages (live heap)) × (outcome ≡ prints (line_of (word_at index heap))))
    ⊎ (((64 * pages (live heap) ≤ index) × (outcome ≡ stops [] (NoSuchWord index))) ⊎ (outcome ≡ stops [] OutOfMemory))

-- all faults of a dump, of which each compacted page must be built only if it is to be whole
abbrev pub faults_by : Bool → Heap → Dumped → List AuditFault
faults_by whole heap dump = cond whole (whole_faults heap dump) (faults heap dump)

-- the lines of the counts of a dump: of how many pages how many are built, and the entries
abbrev pub counts_lines : Dumped → List ℕ
counts_lines dump = counts_text (total built_count dump.pages) (length dump.pages) (length (all_entries dump.pages)) ++ codes "\n"

-- `ok` and the live words of a dump
abbrev pub passed_line : Dumped → List ℕ
passed_line dump = named (codes "ok ") dump.total

-- what is said of a fault: what is wrong where
abbrev pub fault_lines : Explanation → List ℕ
fault_lines explanation = explanation_text explanation ++ codes "\n"

-- The dump passes, or this is its first fault, and the audit is refused for it. If it is to be explained, the counts
-- are printed first, and of a fault what is said of it. Or memory ran out.
abbrev pub IsAudited : Bool → Bool → Heap → Dumped → Outcome → Type 0
IsAudited whole explain heap dump outcome =
    (Judges (faults_by whole heap dump) Yes × (outcome ≡ prints (cond explain (counts_lines dump) [] ++ passed_line dump)))
    ⊎ (((fault : AuditFault) × Judges (faults_by whole heap dump) (No fault) × (explain ≡ false) × (outcome ≡ stops [] (Audit fault)))
    ⊎ (((fault : AuditFault) × (explanation : Explanation) × Judges (faults_by whole heap dump) (No fault) × Explains heap dump fault explanation
    × (explain ≡ true) × (outcome ≡ stops (counts_lines dump ++ fault_lines explanation) (Audit fault)))
    ⊎ (outcome ≡ stops [] OutOfMemory)))

-- page p of the slid words, as it stands in a dump: built, with an empty journal
abbrev pub slid_record : List Object → ℕ → Option BuiltPage
slid_record objects p = Some (record { words = page objects p; journal = [] })

-- all pages of the slid words, as they stand in a dump
abbrev pub slid_records : List Object → List (Option BuiltPage)
slid_records objects = map (slid_record objects) (range_with_len 0 (pages objects))

-- The builds of a sweep: a list for each worker. Together they name each page of the slid words exactly once. The
-- threads decide which worker builds which page.
pub record AreBuilds (workers : ℕ) (heap : Heap) (builds : List (List ℕ)) : Type 0 where
  pub lists : length builds ≡ workers
  pub once : AreAllOnce (pages (live heap)) builds

-- the dump of the swept heap, with these builds
abbrev pub swept_dump : ℕ → Heap → List (List ℕ) → Dumped
swept_dump workers heap builds = record {
  edition = heap.edition;
  mutators = workers;
  fresh = 0;
  roots = map (forwarded_value heap.edition (live heap)) heap.roots;
  pages = slid_records (live heap);
  builds = builds;
  total = live_words (live heap);
}

-- why the workers did not sweep the heap: memory ran out, for the build of one of its pages or elsewhere; or a list, a
-- deque, a box or a thread could not be created
abbrev pub IsOfSweeping : Heap → CommandRefusal → Type 0
IsOfSweeping heap (Sweep (sweeps.OutOfMemory p)) = p < pages (live heap)
IsOfSweeping heap (Sweep sweeps.Resources) = Unit {0}
IsOfSweeping heap (Mutator refusal) = refusal ≡ mutators.OutOfMemory
IsOfSweeping heap OutOfMemory = Unit {0}
IsOfSweeping heap _ = ⊥

-- the line of the live words
abbrev pub live_line : Heap → List ℕ
live_line heap = named (codes "live ") (live_words (live heap))

-- n workers swept the heap: its dump is made, and its live words are printed; or it was not swept
abbrev pub IsCompacted : ℕ → Heap → Outcome → Type 0
IsCompacted workers heap outcome =
    ((builds : List (List ℕ)) × AreBuilds workers heap builds × (outcome ≡ makes outputs.Dump (dump_bytes (swept_dump workers heap builds)) (live_line heap)))
    ⊎ ((refusal : CommandRefusal) × IsOfSweeping heap refusal × (outcome ≡ stops [] refusal))

-- the same parts with other marks
abbrev pub remarked : Heap → List ℕ → Heap
remarked parts marks = record { edition = parts.edition; words = parts.words; marks = marks; roots = parts.roots }

-- the marks of the heap are the indices of the objects that its roots reach, rising
abbrev pub IsMarkedByRoots : Heap → Type 0
IsMarkedByRoots heap = AreReachable heap.edition heap.words heap.roots heap.marks

-- The heap has the edition, the words and the roots of these parts, whatever their marks are, and is marked by its
-- roots. It is accepted.
pub record IsMarkedHeap (parts heap : Heap) : Type 0 where
  pub same : heap ≡ remarked parts heap.marks
  pub marked : IsMarkedByRoots heap
  pub accepted : IsAccepted heap
  pub stored : IsStored heap

-- why parts have no marked heap: this is its first fault; or memory ran out
abbrev pub IsUnmarkable : Heap → CommandRefusal → Type 0
IsUnmarkable parts (Layout fault) = (marks : List ℕ) × AreReachable parts.edition parts.words parts.roots marks × RefusesFor (heaps.faults (remarked parts marks)) fault
IsUnmarkable parts OutOfMemory = Unit {0}
IsUnmarkable parts _ = ⊥

-- the image of the marked heap is made, and its live words are printed; or there is none
abbrev pub IsMarked : Heap → Outcome → Type 0
IsMarked parts outcome =
    ((heap : Heap) × IsMarkedHeap parts heap × (outcome ≡ makes outputs.New (encoding heap) (live_line heap)))
    ⊎ ((refusal : CommandRefusal) × IsUnmarkable parts refusal × (outcome ≡ stops [] refusal))

-- The heap of these parts was collected by its roots, whatever their marks are: exactly the objects were marked that
-- its roots reach, and it is sound; nothing is said of its other words. What is left is accepted, and its roots reach
-- all its objects.
pub record IsCollectedHeap (parts next : Heap) : Type 0 where
  pub heap : Heap
  pub same : heap ≡ remarked parts heap.marks
  pub reached : AreReached heap.edition heap.words heap.roots heap.marks
  pub sound : IsSound heap
  pub next_is : next ≡ collected heap
  pub marked : IsMarkedByRoots next
  pub accepted : IsAccepted next
  pub stored : IsStored next

-- why the heap of this edition, these words and these roots is not collected: it has this fault; or memory ran out
abbrev pub IsUncollectable : Edition → List ℕ → List ℕ → CommandRefusal → Type 0
IsUncollectable edition words roots (Survey surveys.OutOfMemory) = ⊥
IsUncollectable edition words roots (Survey fault) = IsFaultOf edition words roots fault
IsUncollectable edition words roots OutOfMemory = Unit {0}
IsUncollectable edition words roots _ = ⊥

-- the image of the heap that is left is made, and its live words are printed; or there is none
abbrev pub IsCollected : Heap → Outcome → Type 0
IsCollected parts outcome =
    ((next : Heap) × IsCollectedHeap parts next × (outcome ≡ makes outputs.New (encoding next) (live_line next)))
    ⊎ ((refusal : CommandRefusal) × IsUncollectable parts.edition parts.words parts.roots refusal × (outcome ≡ stops [] refusal))

-- the lines of what moved: `ok` and the words, then `objects` and how many there are
abbrev pub moves_lines : ℕ → ℕ → List ℕ
moves_lines words objects = named (codes "ok ") words ++ named (codes "objects ") objects

-- how a moved heap with this fault is refused
abbrev pub refusal_of : MovedFault → CommandRefusal
refusal_of moves.OutOfMemory = OutOfMemory
refusal_of fault = refusals.Moved fault

-- the heap may have moved so: the words of its marked objects are printed, and how many these are; or this is the first
-- fault of the moved heap, or memory ran out
abbrev pub IsJudged : Heap → Moved → Outcome → Type 0
IsJudged heap moved outcome =
    (IsLawful heap moved × (outcome ≡ prints (moves_lines (live_words (live heap)) (length heap.marks))))
    ⊎ (((fault : MovedFault) × IsFirstFault heap moved fault × (outcome ≡ stops [] (refusal_of fault))) ⊎ (outcome ≡ stops [] OutOfMemory))

-- a whole picture of the heap, and of the dump if one is drawn, is made, and the heap's live words are printed; or
-- memory ran out
abbrev pub IsMapped : Heap → Option Dumped → Outcome → Type 0
IsMapped heap dump outcome =
    ((picture : List ℕ) × IsWhole picture × IsPictureOf heap dump picture × (outcome ≡ makes outputs.Map picture (live_line heap)))
    ⊎ (outcome ≡ stops [] OutOfMemory)
