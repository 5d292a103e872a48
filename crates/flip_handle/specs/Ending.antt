-- What is read of a finished heap.
use Rattle.std.specs.Prelude.{◌≡◌, ℕ, ◌<◌, ◌≤◌, ◌⊎◌, List, length, slice_get, Option, None, Some}
use Rattle.comp_journal.specs.Journal.{replayed}
use Rattle.comp_journal.specs.declared.entry.Entry.{Entry}
use Rattle.comp_crew.specs.Closing.{page_at}
use Rattle.comp_crew.specs.Finishes.{builds_in, pages_of}
use Rattle.comp_crew.specs.Finishing.{finished_of}
use Rattle.comp_crew.specs.View.{Slot}
use Rattle.comp_crew.specs.declared.finishing.Ended.{Ended as End}
use Rattle.comp_dump.specs.Codes.{kind_code}
use Rattle.handle_base.specs.Answers.{bare, done, IsPlace}
use Rattle.handle_base.specs.Statuses.{no_such_build, no_such_entry, no_such_mutator, no_such_page, not_built}
use Rattle.handle_base.specs.declared.answer.Answer.{Answer}
use Rattle.flip_handle.specs.declared.ending.Question.{Question}
use Rattle.flip_handle.specs.declared.ending.Written.{Written}
use Rattle.flip_handle.specs.declared.ending.Question.TheVariants.{EndBuildCount, EndBuild}

-- the pages of a finished heap
abbrev pub pages_at_end : End → List Slot
pages_at_end e = pages_of (finished_of e)

-- how many pages the list of mutator k has, or there is no mutator k
abbrev pub IsCountOf : ℕ → Option (List ℕ) → Answer → Type 0
IsCountOf k None a = a ≡ bare no_such_mutator k
IsCountOf k (Some list) a = a ≡ done (length list)

-- the page at place i of the list of mutator k, or there is none, or no mutator k
abbrev pub IsBuildOf : ℕ → ℕ → Option (List ℕ) → Answer → Type 0
IsBuildOf k i None a = a ≡ bare no_such_mutator k
IsBuildOf k i (Some list) a = IsPlace no_such_build i list a

-- the pages that mutator k built
abbrev pub built_by : End → ℕ → Option (List ℕ)
built_by e k = slice_get (builds_in (finished_of e)) k

-- the answer to a question
abbrev pub Tells : Question → End → Answer → Type 0
Tells (EndBuildCount k) e a = IsCountOf k (built_by e k) a
Tells (EndBuild k i) e a = IsBuildOf k i (built_by e k) a

-- the words of page p and the number of its entries; or it was never built
abbrev pub CopiesSlot : Slot → ℕ → List ℕ → List ℕ → Answer → Type 0
CopiesSlot None p before after a = (after ≡ before) × (a ≡ bare not_built p)
CopiesSlot (Some page) p before after a = (after ≡ replayed page.page.base page.page.journal) × (a ≡ done (length page.page.journal))

-- the same; or there is no page p
abbrev pub CopiesPage : ℕ → List Slot → List ℕ → List ℕ → Answer → Type 0
CopiesPage p slots before after a =
    ((p < length slots) × CopiesSlot (page_at slots p) p before after a)
    ⊎ ((length slots ≤ p) × (after ≡ before) × (a ≡ bare no_such_page p))

-- an entry, as C sees it; the kind has its code of dumps
abbrev pub as_written : Entry → Written
as_written e = record { stamp = e.stamp; value = e.value; writer = e.writer; kind = kind_code e.kind; offset = e.offset }

-- the entry with this number, or there is none
abbrev pub CopiesOf : Option Entry → ℕ → Written → Written → Answer → Type 0
CopiesOf None i before after a = (after ≡ before) × (a ≡ bare no_such_entry i)
CopiesOf (Some e) i before after a = (after ≡ as_written e) × (a ≡ done 0)

-- that of page p; or it was never built
abbrev pub EntryOfSlot : Slot → ℕ → ℕ → Written → Written → Answer → Type 0
EntryOfSlot None p i before after a = (after ≡ before) × (a ≡ bare not_built p)
EntryOfSlot (Some page) p i before after a = CopiesOf (slice_get page.page.journal i) i before after a

-- the same; or there is no page p
abbrev pub CopiesEntry : ℕ → ℕ → List Slot → Written → Written → Answer → Type 0
CopiesEntry p i slots before after a =
    ((p < length slots) × EntryOfSlot (page_at slots p) p i before after a)
    ⊎ ((length slots ≤ p) × (after ≡ before) × (a ≡ bare no_such_page p))
