-- Laws of the commands `replay` and `race`. No run rests on them.
use Rattle.std.specs.Prelude.{◌≡◌, ℕ, ◌+◌, ◌<◌, ◌≤◌, List, [], length, map, slice_index_or, Option, Some, None}
use Rattle.std.specs.List.{range_with_len}
use Rattle.heap_layout.specs.Encoding.{encoding}
use Rattle.heap_layout.specs.Faults.{IsAccepted}
use Rattle.heap_layout.specs.Heap.{live, Heap, IsStored}
use Rattle.page_plan.specs.Sliding.{forwarded_value, live_words}
use Rattle.comp_mutator.specs.Builds as building
use Rattle.comp_mutator.specs.Entry.{Entry}
use Rattle.comp_mutator.specs.Finished.{Finished}
use Rattle.comp_mutator.specs.Journal.{replayed}
use Rattle.comp_mutator.specs.Lists.{on}
use Rattle.comp_mutator.specs.MadeWords.{allocated}
use Rattle.comp_mutator.specs.Merged.{stamp_of}
use Rattle.comp_mutator.specs.Pass.{Pass}
use Rattle.comp_mutator.specs.Setup.{Setup, base_of, pages}
use Rattle.comp_trace.specs.Bytes.{flipped, no_entries}
use Rattle.comp_trace.specs.Heaps.{HasRunOver}
use Rattle.comp_trace.specs.Inventions.{InventNothing}
use Rattle.comp_trace.specs.LineBuilds.{built_by}
use Rattle.comp_trace.specs.Runs.{beginning, Moment, Runs}
use Rattle.comp_trace.specs.declared.races.racing.Run.{Run}
use Rattle.comp_trace.specs.declared.steps.shown.Shown.{Shown}
use Rattle.comp_trace.specs.declared.text.line.Line.{Line}
use Rattle.comp_dump.specs.Dumped.{BuiltPage, Dumped}
use Rattle.command_io.specs.Texts.{HasLines}
use Rattle.commands.specs.TraceTasks.{dumped_of, RanTheirLines}

-- ---- the dump after a run, page by page

-- page p of a dump after these entries were added: if it was built, its journal has the entries that are on it, and
-- its words are what these make of its base; if it was not, no entry is on it
abbrev pub IsPageAfter : Setup → List (ℕ × Entry) → ℕ → Option BuiltPage → Type 0
IsPageAfter u added p None = on p added ≡ []
IsPageAfter u added p (Some page) = (page.journal ≡ on p added) × (page.words ≡ replayed (base_of u p) (on p added))

-- 1 if the page was built, 0 if it was not
abbrev pub times_built : Option BuiltPage → ℕ
times_built None = 0
times_built (Some page) = 1

-- page p of a dump
abbrev pub page_in : Dumped → ℕ → Option BuiltPage
page_in dump p = slice_index_or dump.pages p None

-- the dump of a flipped heap after a run that added these entries
pub record IsDumpAfter (u : Setup) (added : List (ℕ × Entry)) (dump : Dumped) : Type 0 where
  pub edition : dump.edition ≡ u.heap.edition
  pub mutators : dump.mutators ≡ u.mutators
  pub fresh : dump.fresh ≡ u.fresh
  -- the roots of the heap, forwarded
  pub roots : dump.roots ≡ map (forwarded_value u.heap.edition (live u.heap)) u.heap.roots
  -- each page has the entries of the run that are on it, whose stamps are 0, 1, 2 and so on
  pub slots : length dump.pages ≡ pages u
  pub page_by_page : (p : ℕ) → p < pages u → IsPageAfter u added p (page_in dump p)
  pub stamps : map stamp_of added ≡ range_with_len 0 (length added)
  -- a list for each mutator, which together name each page that was built exactly once, and no other
  pub lists : length dump.builds ≡ u.mutators
  pub once : (p : ℕ) → p < pages u → building.named p dump.builds ≡ times_built (page_in dump p)
  pub no_other : (p : ℕ) → pages u ≤ p → building.named p dump.builds ≡ 0
  -- the words that slid, and those of the objects that the run made
  pub total : dump.total ≡ live_words (live u.heap) + allocated u.heap.edition added

-- the dump of a flipped heap after a run by one thread that ended here: each mutator built what the run says, in order
pub record IsDumpOfRun (u : Setup) (end : Moment) (dump : Dumped) : Type 0 where
  pub after : IsDumpAfter u end.added dump
  pub builds : dump.builds ≡ map (λ (k : ℕ). built_by k end.built) (range_with_len 0 u.mutators)

-- the dump that `replay` makes is that of the run, page by page
abbrev pub DumpsAreOfRuns : Type 0
DumpsAreOfRuns = (mutators fresh : ℕ) (lines : List Line) (shown : List Shown) (heap : Heap) (f : Finished)
    → (run : HasRunOver mutators fresh lines shown heap f) → IsDumpOfRun (flipped heap mutators fresh) run.end (dumped_of mutators fresh f)

-- ---- a replay is one function of its files

-- The bytes of an image are those of a stored and accepted heap, and the text is a trace, whose run over that heap
-- ends here, with this dump after it.
pub record IsReplay (mutators fresh : ℕ) (image text : List ℕ) (end : Moment) (dump : Dumped) : Type 0 where
  pub heap : Heap
  pub stored : IsStored heap
  pub accepted : IsAccepted heap
  pub image_is : image ≡ encoding heap
  pub lines : List Line
  pub text_is : HasLines mutators (length heap.roots) lines text
  pub runs : Runs (flipped heap mutators fresh) no_entries 1 lines beginning end
  pub left : IsDumpOfRun (flipped heap mutators fresh) end dump

-- Two replays end at the same moment, with the same values shown, the same entries added with the same stamps, and the
-- same pages built; and they have the same dump.
pub record AreOne (end other : Moment) (dump second : Dumped) : Type 0 where
  pub moments : end ≡ other
  pub dumps : dump ≡ second

-- the same bytes, with the same numbers of mutators and of fresh pages, have one replay
abbrev pub ReplaysAreOne : Type 0
ReplaysAreOne = (mutators fresh : ℕ) (image text : List ℕ) (end other : Moment) (dump second : Dumped)
    → IsReplay mutators fresh image text end dump → IsReplay mutators fresh image text other second → AreOne end other dump second

-- ---- a race invents nothing

-- what the mutators of a race showed, and the full journals for which lines were refused, are of journals that lines of
-- the trace wrote
abbrev pub RacesInventNothing : Type 0
RacesInventNothing = (u : Setup) (lines : List Line) (row : List Pass) (runs : List Run) → RanTheirLines u lines row runs → InventNothing u lines runs
