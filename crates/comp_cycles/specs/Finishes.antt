-- What is known of a heap after all its mutators were handed back.
use Rattle.std.specs.Prelude.{◌≡◌, ℕ, ◌+◌, ◌<◌, ◌≤◌, List, [], length, map, IsSome, Some, None}
use mathlib.Core.Option.{some}
use lib.ListN.{get_elem?}
use Rattle.heap_layout.specs.Limits.{most_fresh_pages}
use Rattle.heap_layout.specs.Heap.{live, IsClosed}
use Rattle.heap_layout.specs.declared.edition.Edition.{Edition}
use Rattle.page_plan.specs.Sliding.{live_words}
use Rattle.comp_journal.specs.declared.entry.Entry.{Entry}
use Rattle.comp_history.specs.Setup.{Setup, pages}
use Rattle.comp_history.specs.Lists.{total, StartsWith}
use Rattle.comp_history.specs.Locks.{Journals}
use Rattle.comp_history.specs.View.{Slot}
use Rattle.comp_history.specs.Closing.{journal_at, page_at, HasBase}
use Rattle.comp_history.specs.Passes.{edition_of, builds_of, did, seen, HasSeenBuilt}
use Rattle.comp_history.specs.Pass.{Pass}
use Rattle.comp_history.specs.CellEnds.{lists}
use Rattle.comp_history.specs.Objects.{AreLawful, ReferencesAreStarts}
use Rattle.comp_history.specs.Merged.{history, written_by, CanMerge, IsOneHistory, IsPoint}
use Rattle.comp_history.specs.MadeWords.{allocated}
use Rattle.comp_history.specs.Builds.{named}
use Rattle.comp_cycles.specs.Forwarded.{AreForwarded}
use Rattle.comp_cycles.specs.declared.finished.Finished.{Finished}

-- the edition of the heap
abbrev pub edition_in : Finished → Edition
edition_in f = f.edition

-- the pages; None for a page that was never built
abbrev pub pages_of : Finished → List Slot
pages_of f = f.pages

-- the addresses to which the roots lead
abbrev pub roots_of : Finished → List ℕ
roots_of f = f.roots.items

-- the number of words of all objects
abbrev pub live_of : Finished → ℕ
live_of f = f.live

-- the pages that each mutator built, in its order
abbrev pub builds_in : Finished → List (List ℕ)
builds_in f = lists f.builds.items

-- the journal of each page
abbrev pub journals_of : Finished → Journals
journals_of f p = journal_at f.pages p

-- the merged history of all pages
abbrev pub history_of : Setup → Finished → List (ℕ × Entry)
history_of u f = history u (journals_of f)

-- 1 if the page was built, 0 if not
abbrev pub there : Slot → ℕ
there None = 0
there (Some page) = 1

-- how many words the objects have that these passes made
abbrev pub allocated_by : List Pass → ℕ
allocated_by row = total (λ (pass : Pass). allocated (edition_of pass) (did pass)) row

-- The pages at the end, given the passes of the mutators in the order of their numbers.
pub record HasPages (u : Setup) (row : List Pass) (f : Finished) : Type 0 where
  -- there is one slot for each page
  pub count : length (pages_of f) ≡ pages u
  -- the lists of builds are those of the mutators
  pub builds : builds_in f ≡ map builds_of row
  -- a page that was built occurs once in all these lists, and no other page does
  pub once : (p : ℕ) → named p (builds_in f) ≡ there (page_at (pages_of f) p)
  -- a page that a mutator has seen built exists
  pub known : (k : ℕ) (pass : Pass) → get_elem? row k ≡ some pass → (p : ℕ) → HasSeenBuilt pass p → IsSome (page_at (pages_of f) p)
  -- each page that exists has the base that sliding compaction defines, or zeros on a fresh page; its words are that
  -- base with the journal replayed over it
  pub bases : (p : ℕ) → HasBase u p (page_at (pages_of f) p)
  -- each journal is lawful
  pub lawful : AreLawful u (journals_of f)
  -- each word that refers on each page is null or the start of an object
  pub closed : ReferencesAreStarts u (journals_of f)

-- The ledger balances: the live words are those that slid and those of all objects that the mutators made, and these
-- are the objects that the history makes.
pub record Balances (u : Setup) (row : List Pass) (f : Finished) : Type 0 where
  pub shares : live_of f ≡ live_words (live u.heap) + allocated_by row
  pub made : live_of f ≡ live_words (live u.heap) + allocated u.heap.edition (history_of u f)

-- All pages have one history.
pub record HasOneHistory (u : Setup) (row : List Pass) (f : Finished) : Type 0 where
  -- the journals can be merged: the stamps are the numbers below the number of entries, each once, and references and
  -- weak words lead to older objects
  pub merges : CanMerge u (journals_of f)
  -- one thread may write the merged history into the slid heap, and this makes the pages
  pub one : IsOneHistory u (journals_of f) (history_of u f)
  -- in the history the entries of each mutator are those that it wrote, in its order, and there are no others
  pub own : (k : ℕ) (pass : Pass) → get_elem? row k ≡ some pass → written_by k (history_of u f) ≡ did pass
  pub no_others : (k : ℕ) → length row ≤ k → written_by k (history_of u f) ≡ []
  -- what a mutator has seen of a page is a prefix of the page's journal, and the state of the page at some point of the
  -- history
  pub begins : (k : ℕ) (pass : Pass) → get_elem? row k ≡ some pass → (p : ℕ) → StartsWith (journals_of f p) (seen pass p)
  pub points : (k : ℕ) (pass : Pass) → get_elem? row k ≡ some pass → (p : ℕ) → p < pages u → IsPoint u (history_of u f) p (seen pass p)

-- The heap at the end of a cycle, given the passes of its mutators in the order of their numbers.
pub record IsFinished (u : Setup) (row : List Pass) (f : Finished) : Type 0 where
  pub edition : edition_in f ≡ u.heap.edition
  pub pages : HasPages u row f
  pub roots : AreForwarded u.heap (roots_of f)
  pub balances : Balances u row f
  pub history : HasOneHistory u row f

-- The heap at the end of a cycle that was flipped with this number of mutators and this number of fresh pages.
pub record IsOfFlip (mutators fresh : ℕ) (f : Finished) : Type 0 where
  pub setup : Setup
  pub row : List Pass
  pub finished : IsFinished setup row f
  -- the heap that was compacted was an accepted one
  pub heap : IsClosed setup.heap
  -- there is one pass for each mutator, and the counts are within the limits of a flip
  pub crew : length row ≡ mutators
  pub mutators_are : setup.mutators ≡ mutators
  pub some_mutators : 1 ≤ mutators
  pub few_mutators : mutators ≤ 64
  pub fresh_are : setup.fresh ≡ fresh
  pub few_fresh : fresh ≤ most_fresh_pages setup.heap.edition
