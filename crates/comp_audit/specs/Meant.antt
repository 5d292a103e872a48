-- What the audit's answers mean for the cells and for the merged history.
use Rattle.std.specs.Prelude.{◌≡◌, ℕ, ◌+◌, ◌<◌, List, [], length, map, slice_index_or, Option, Some, None}
use Rattle.heap_layout.specs.Heap.{Heap, live, IsClosed}
use Rattle.page_plan.specs.Sliding.{forwarded_value, live_words}
use Rattle.comp_dump.specs.Journal.{replayed}
use Rattle.comp_dump.specs.Entry.{Entry}
use Rattle.comp_dump.specs.Setup.{Setup, pages, base_of}
use Rattle.comp_dump.specs.Objects.{ReferencesAreStarts}
use Rattle.comp_dump.specs.Merged.{history, CanMerge, IsOneHistory}
use Rattle.comp_dump.specs.MadeWords.{allocated}
use Rattle.comp_dump.specs.Builds.{named}
use Rattle.comp_dump.specs.Finishes.{builds_in, edition_in, live_of, pages_of, roots_of, IsOfFlip}
use Rattle.comp_dump.specs.Finished.{Finished}
use Rattle.comp_dump.specs.Dumped.{BuiltPage, Dumped, IsStored}
use Rattle.comp_dump.specs.Lent.{record_of}
use Rattle.comp_audit.specs.Checks.{setup_for, journals_in}
use Rattle.comp_audit.specs.Judged.{faults}

-- 1 if the page was built, 0 if it never was
abbrev pub built_count : Option BuiltPage → ℕ
built_count None = 0
built_count (Some page) = 1

-- page p, or None if there is no page p
abbrev pub page_of : Dumped → ℕ → Option BuiltPage
page_of dump p = slice_index_or dump.pages p None

-- the journals of its pages
abbrev pub journals_of : Dumped → ℕ → List Entry
journals_of dump = journals_in dump.pages

-- a dump that a compaction can have left
pub record IsLawfulDump (u : Setup) (dump : Dumped) : Type 0 where
  -- it is of the heap's edition
  pub edition : dump.edition ≡ u.heap.edition
  -- there is a record for each page
  pub slots : length dump.pages ≡ pages u
  -- the roots lead to where the objects slid
  pub roots : dump.roots ≡ map (forwarded_value u.heap.edition (live u.heap)) u.heap.roots
  -- the lists of builds name each page that was built exactly once, and no other page
  pub claims : (p : ℕ) → p < pages u → named p dump.builds ≡ built_count (page_of dump p)
  -- the words of each page that was built are what its journal makes of its base
  pub words : (p : ℕ) (page : BuiltPage) → page_of dump p ≡ Some page → page.words ≡ replayed (base_of u p) page.journal
  -- the journals can be merged
  pub merges : CanMerge u (journals_of dump)
  -- the total is the number of words that slid and of words of the objects that the merged history makes
  pub total : dump.total ≡ live_words (live u.heap) + allocated u.heap.edition (history u (journals_of dump))

-- If the audit says yes, the dump is lawful, its pages have one history, and each of their references and weak words is
-- null or the address of an object, or in edition four an immediate.
pub record IsSound (u : Setup) (dump : Dumped) : Type 0 where
  pub lawful : IsLawfulDump u dump
  pub one : IsOneHistory u (journals_of dump) (history u (journals_of dump))
  pub closed : ReferencesAreStarts u (journals_of dump)

abbrev pub YesIsSound : Type 0
YesIsSound = (heap : Heap) (dump : Dumped) → IsClosed heap → IsStored dump → faults heap dump ≡ [] → IsSound (setup_for heap dump.fresh dump.mutators) dump

-- and it says yes to each lawful dump
abbrev pub LawfulIsYes : Type 0
LawfulIsYes = (heap : Heap) (dump : Dumped) → IsStored dump → IsLawfulDump (setup_for heap dump.fresh dump.mutators) dump → faults heap dump ≡ []

-- what the dump of a finished heap has
pub record IsDumpOf (mutators fresh : ℕ) (f : Finished) (dump : Dumped) : Type 0 where
  pub edition_is : dump.edition ≡ edition_in f
  pub mutators_are : dump.mutators ≡ mutators
  pub fresh_are : dump.fresh ≡ fresh
  pub roots : dump.roots ≡ roots_of f
  pub pages : dump.pages ≡ map record_of (pages_of f)
  pub builds : dump.builds ≡ builds_in f
  pub total : dump.total ≡ live_of f

-- so it says yes to the dump of each finished heap
abbrev pub FinishedIsYes : Type 0
FinishedIsYes = (mutators fresh : ℕ) (f : Finished) (of : IsOfFlip mutators fresh f) (dump : Dumped) → IsStored dump → IsDumpOf mutators fresh f dump
    → faults of.setup.heap dump ≡ []
