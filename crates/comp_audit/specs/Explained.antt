-- What the audit says of a fault: for each fault, what is in the dump and what should be there.
use Rattle.std.specs.Prelude.{◌≡◌, ◌≢◌, ℕ, ◌+◌, ◌-◌, ◌<◌, ◌≤◌, ◌||◌, cond, nat_lt, is_some, not, false, Bool, List, [], length, map, take, slice_get, slice_index, slice_index_or, Option, Some, None}
use Rattle.std.specs.Option.{option_map}
use Rattle.heap_layout.specs.Heap.{Heap, live}
use Rattle.heap_layout.specs.Values.{leads_nowhere}
use Rattle.page_plan.specs.Sliding as sliding
use Rattle.page_plan.specs.Sliding.{forwarded_value, live_words, new_address, to_address}
use Rattle.page_plan.specs.Planned.{Covers}
use Rattle.heap_layout.specs.declared.kind.Kind.{Kind}
use Rattle.comp_dump.specs.Entry.{Entry}
use Rattle.comp_dump.specs.Lawful.{filled, kind_at}
use Rattle.comp_dump.specs.Lists.{times, total}
use Rattle.comp_dump.specs.Setup.{pages}
use Rattle.comp_dump.specs.Objects.{offset_at, page_at, word_on}
use Rattle.comp_dump.specs.MadeWords.{allocated}
use Rattle.comp_dump.specs.Builds.{named}
use Rattle.comp_dump.specs.Dumped.{BuiltPage, Dumped}
use Rattle.comp_dump.specs.declared.fault.AuditFault.{AuditFault}
use Rattle.comp_dump.specs.declared.fault.AuditFault.TheVariants as fault
use Rattle.comp_audit.specs.Checks.{all_entries, all_stamps, is_start, some_refers}
use Rattle.comp_audit.specs.Meant.{built_count, journals_of, page_of}
pub use Rattle.comp_audit.specs.EntryCauses.{maker_of, setup_of, stamp_before}
use Rattle.comp_audit.specs.EntryCauses.{HasNoCause, IsCauseOf}
use Rattle.comp_audit.specs.declared.explanation.DumpCounts.{DumpCounts}
use Rattle.comp_audit.specs.declared.explanation.SlidObject.{SlidObject}
use Rattle.comp_audit.specs.declared.explanation.OutOfPlace.{OutOfPlace}
use Rattle.comp_audit.specs.declared.explanation.WrongWordAt.{WrongWordAt}
use Rattle.comp_audit.specs.declared.explanation.LooseWordAt.{LooseWordAt}
use Rattle.comp_audit.specs.declared.explanation.LooseEntry.{LooseEntry}
use Rattle.comp_audit.specs.declared.explanation.EntryCause.{EntryCause}
use Rattle.comp_audit.specs.declared.explanation.HeadCause.{HeadCause}
use Rattle.comp_audit.specs.declared.explanation.HeadCause.TheVariants as head
use Rattle.comp_audit.specs.declared.explanation.RootAt.{RootAt}
use Rattle.comp_audit.specs.declared.explanation.BadEntryAt.{BadEntryAt}
use Rattle.comp_audit.specs.declared.explanation.Totals.{Totals}
use Rattle.comp_audit.specs.declared.explanation.StampUses.{StampUses}
use Rattle.comp_audit.specs.declared.explanation.StampLost.{StampLost}
use Rattle.comp_audit.specs.declared.explanation.Claims.{Claims}
use Rattle.comp_audit.specs.declared.explanation.MissingPage.{MissingPage}
use Rattle.comp_audit.specs.declared.explanation.Explanation.{Explanation}
use Rattle.comp_audit.specs.declared.explanation.Explanation.TheVariants as told

-- how many pages a dump has, how many of them are built, and how many entries these have
pub record AreCountsOf (dump : Dumped) (counts : DumpCounts) : Type 0 where
  pub built : counts.built ≡ total built_count dump.pages
  pub pages : counts.pages ≡ length dump.pages
  pub entries : counts.entries ≡ length (all_entries dump.pages)

-- the word at an address on a page that was built; None elsewhere
abbrev pub word_in : Dumped → ℕ → Option ℕ
word_in dump a = cond (nat_lt a (to_address 0)) None (option_map (λ (page : BuiltPage). slice_index page.words (offset_at a)) (page_of dump (page_at a)))

-- the word that should be at an address: what the journal of its page makes of its base
abbrev pub right_word : Heap → Dumped → ℕ → ℕ
right_word heap dump a = word_on (setup_of heap dump) (journals_of dump) (page_at a) (offset_at a)

-- the kind of the word at an address, as the journal of its page makes it; None if it belongs to no object
abbrev pub kind_found : Heap → Dumped → ℕ → Option Kind
kind_found heap dump a = kind_at (setup_of heap dump) (page_at a) (journals_of dump (page_at a)) (offset_at a)

-- a word of this kind is no reference or weak word, or null or an immediate, or leads to an object
abbrev pub is_tied : Heap → Dumped → Option Kind → ℕ → Bool
is_tied heap dump found word = not (some_refers found) || leads_nowhere heap.edition word || is_start heap (all_entries dump.pages) word

-- this is the marked object of its number
pub record IsSlidObject (heap : Heap) (object : SlidObject) : Type 0 where
  pub known : object.number < length heap.marks
  pub index : object.index ≡ slice_index heap.marks object.number
  pub address : object.address ≡ new_address (live heap) object.number
  pub header : object.header ≡ slice_index heap.words object.index

-- the object that has the slid word i; None after the last slid word
abbrev pub IsOwner : Heap → ℕ → Option SlidObject → Type 0
IsOwner heap i None = live_words (live heap) ≤ i
IsOwner heap i (Some object) = IsSlidObject heap object × Covers (live heap) i object.number

-- the header of marked object k is at its address, if that is on a page that was built
abbrev pub IsInPlace : Heap → Dumped → ℕ → Type 0
IsInPlace heap dump k = (word : ℕ) → word_in dump (new_address (live heap) k) ≡ Some word → word ≡ slice_index heap.words (slice_index heap.marks k)

-- another word is at the address of this object, and the objects before it are in place
pub record IsFirstOutOfPlace (heap : Heap) (dump : Dumped) (found : OutOfPlace) : Type 0 where
  pub object : IsSlidObject heap found.object
  pub is : word_in dump found.object.address ≡ Some found.is
  pub wrong : found.is ≢ found.object.header
  pub first : (k : ℕ) → k < found.object.number → IsInPlace heap dump k

abbrev pub IsOutOfPlace : Heap → Dumped → Option OutOfPlace → Type 0
IsOutOfPlace heap dump None = (k : ℕ) → k < length heap.marks → IsInPlace heap dump k
IsOutOfPlace heap dump (Some found) = IsFirstOutOfPlace heap dump found

-- the word at this address, what the page's journal makes of its base there, and what the heap says of them
pub record IsWordExplained (heap : Heap) (dump : Dumped) (a : ℕ) (word : WrongWordAt) : Type 0 where
  pub page : word.page ≡ page_at a
  pub offset : word.offset ≡ offset_at a
  pub is : word_in dump a ≡ Some word.is
  pub should_be : word.should_be ≡ right_word heap dump a
  pub object : IsOwner heap (a - to_address 0) word.object
  pub out_of_place : IsOutOfPlace heap dump word.out_of_place

-- why entry e, which has number k on page p, does not fit; None if none of the causes holds of it
abbrev pub IsCauseAt : Heap → Dumped → ℕ → ℕ → Entry → Option EntryCause → Type 0
IsCauseAt heap dump p k e None = HasNoCause heap dump p (stamp_before (journals_of dump p) k) (take k (journals_of dump p)) e
IsCauseAt heap dump p k e (Some cause) = IsCauseOf heap dump p (stamp_before (journals_of dump p) k) (take k (journals_of dump p)) e cause

-- no entry of the journal from number `low` on is at this offset
abbrev pub NoneAt : List Entry → ℕ → ℕ → Type 0
NoneAt journal offset low = (k : ℕ) (e : Entry) → low ≤ k → slice_get journal k ≡ Some e → e.offset ≢ offset

-- entry k of the journal is this one and is at this offset, and no later entry is
pub record IsLastEntry (journal : List Entry) (offset k : ℕ) (e : Entry) : Type 0 where
  pub entry : slice_get journal k ≡ Some e
  pub here : e.offset ≡ offset
  pub last : NoneAt journal offset (k + 1)

-- the last entry of the journal at this offset, with its number; None if no entry is at it
abbrev pub IsLastAt : List Entry → ℕ → Option (ℕ × Entry) → Type 0
IsLastAt journal offset None = NoneAt journal offset 0
IsLastAt journal offset (Some found) = IsLastEntry journal offset found.0 found.1

-- the last entry of page p at this offset, and why it does not fit; None if no entry of the page is at it
abbrev pub IsLooseEntry : Heap → Dumped → ℕ → ℕ → Option LooseEntry → Type 0
IsLooseEntry heap dump p offset None = NoneAt (journals_of dump p) offset 0
IsLooseEntry heap dump p offset (Some found) =
    IsLastEntry (journals_of dump p) offset found.number found.entry × IsCauseAt heap dump p found.number found.entry found.cause

-- the word at this address, and the last entry of its page at its offset
pub record IsLooseExplained (heap : Heap) (dump : Dumped) (a : ℕ) (word : LooseWordAt) : Type 0 where
  pub page : word.page ≡ page_at a
  pub offset : word.offset ≡ offset_at a
  pub is : word_in dump a ≡ Some word.is
  pub entry : IsLooseEntry heap dump word.page word.offset word.entry

-- The head is compared in this order: the edition, the number of pages, the number of roots, each root.
pub record HasItsPages (heap : Heap) (dump : Dumped) : Type 0 where
  pub edition : dump.edition ≡ heap.edition
  pub pages : length dump.pages ≡ pages (setup_of heap dump)

-- root k of the heap after the flip
abbrev pub right_root : Heap → ℕ → ℕ
right_root heap k = forwarded_value heap.edition (live heap) (slice_index heap.roots k)

-- this root is not the forwarded root of the heap, and those before it are
pub record IsFirstWrongRoot (heap : Heap) (dump : Dumped) (root : RootAt) : Type 0 where
  pub known : root.number < length heap.roots
  pub is : root.is ≡ slice_index dump.roots root.number
  pub should_be : root.should_be ≡ right_root heap root.number
  pub wrong : root.is ≢ root.should_be
  pub first : (k : ℕ) → k < root.number → slice_index dump.roots k ≡ right_root heap k

abbrev pub IsHeadExplained : Heap → Dumped → HeadCause → Type 0
IsHeadExplained heap dump (head.Edition is should_be) = (is ≡ dump.edition) × (should_be ≡ heap.edition) × (is ≢ should_be)
IsHeadExplained heap dump (head.Pages is should_be) = (dump.edition ≡ heap.edition) × (is ≡ length dump.pages) × (should_be ≡ pages (setup_of heap dump)) × (is ≢ should_be)
IsHeadExplained heap dump (head.Roots is should_be) = HasItsPages heap dump × (is ≡ length dump.roots) × (should_be ≡ length heap.roots) × (is ≢ should_be)
IsHeadExplained heap dump (head.Root root) = HasItsPages heap dump × (length dump.roots ≡ length heap.roots) × IsFirstWrongRoot heap dump root

-- nothing is wrong with the head
pub record IsHeadRight (heap : Heap) (dump : Dumped) : Type 0 where
  pub pages : HasItsPages heap dump
  pub as_many : length dump.roots ≡ length heap.roots
  pub roots : (k : ℕ) → k < length heap.roots → slice_index dump.roots k ≡ right_root heap k

-- the total that a dump should have: the words that slid and those of new objects
abbrev pub right_total : Heap → Dumped → ℕ
right_total heap dump = live_words (live heap) + allocated heap.edition (all_entries dump.pages)

-- the total of the dump, and the one that it should have
pub record AreTotals (heap : Heap) (dump : Dumped) (totals : Totals) : Type 0 where
  pub is : totals.is ≡ dump.total
  pub should_be : totals.should_be ≡ right_total heap dump

-- how often the list of builds of each mutator names page p; 0 past the last list
abbrev pub AreNamings : List (List ℕ) → ℕ → List ℕ → Type 0
AreNamings builds p by = (k : ℕ) → k < 64 → slice_index by k ≡ times p (slice_index_or builds k [])

-- who says that page p was built
pub record AreClaims (dump : Dumped) (p : ℕ) (claims : Claims) : Type 0 where
  pub page : claims.page ≡ p
  pub is_built : claims.is_built ≡ is_some (page_of dump p)
  pub named : claims.named ≡ named p dump.builds
  pub by : AreNamings dump.builds p claims.by

-- entry k of page p, the stamp of the one before it, what its page has before it, and why it does not fit
pub record IsEntryExplained (heap : Heap) (dump : Dumped) (p k : ℕ) (bad : BadEntryAt) : Type 0 where
  pub page : bad.page ≡ p
  pub number : bad.number ≡ k
  pub entry : slice_get (journals_of dump p) k ≡ Some bad.entry
  pub stamp_before : bad.stamp_before ≡ stamp_before (journals_of dump p) k
  pub maker : bad.maker ≡ maker_of (setup_of heap dump) p
  pub filled : bad.filled ≡ filled heap.edition (take k (journals_of dump p))
  pub cause : IsCauseAt heap dump p k bad.entry (Some bad.cause)

-- how many entries of page p have stamp s
abbrev pub stamped_on : Dumped → ℕ → ℕ → ℕ
stamped_on dump s p = times s (map (λ (e : Entry). e.stamp) (journals_of dump p))

-- the first page with an entry of stamp s; None if there is none
abbrev pub IsFirstUse : Dumped → ℕ → Option ℕ → Type 0
IsFirstUse dump s None = (p : ℕ) → stamped_on dump s p ≡ 0
IsFirstUse dump s (Some first) = (0 < stamped_on dump s first) × ((p : ℕ) → p < first → stamped_on dump s p ≡ 0)

-- the last page with an entry of stamp s, if there is one
pub record IsLastUse (dump : Dumped) (s last : ℕ) : Type 0 where
  pub after : (p : ℕ) → last < p → stamped_on dump s p ≡ 0
  pub here : (p : ℕ) → 0 < stamped_on dump s p → 0 < stamped_on dump s last

-- the entries that have stamp s: their number, and the first and the last page with one of them
pub record AreUses (dump : Dumped) (s : ℕ) (uses : StampUses) : Type 0 where
  pub stamp : uses.stamp ≡ s
  pub entries : uses.entries ≡ times s (all_stamps dump.pages)
  pub first : IsFirstUse dump s (Some uses.first_page)
  pub last : 0 < stamped_on dump s uses.last_page
  pub none_after : (p : ℕ) → uses.last_page < p → stamped_on dump s p ≡ 0

-- the number of all entries
pub record IsLost (dump : Dumped) (s : ℕ) (lost : StampLost) : Type 0 where
  pub stamp : lost.stamp ≡ s
  pub entries : lost.entries ≡ length (all_entries dump.pages)

-- page p was never built, and how many compacted pages there are
pub record IsMissing (heap : Heap) (dump : Dumped) (p : ℕ) (missing : MissingPage) : Type 0 where
  pub page : missing.page ≡ p
  pub never : page_of dump p ≡ None
  pub compacted : missing.compacted ≡ sliding.pages (live heap)

-- A dump has a fault. Of a word: its page was built, and it is not the right one, or it is loose. Of an entry: it is
-- there, and one of the causes holds of it. Of a stamp: two entries have it; or there are more entries than the number
-- that it is, and none has it. Of a build: the lists do not name the page once if it was built, and never if it was
-- not.
abbrev pub HasFault : Heap → Dumped → AuditFault → Type 0
HasFault heap dump (fault.WrongWord a) = (word : ℕ) × (word_in dump a ≡ Some word) × (word ≢ right_word heap dump a)
HasFault heap dump (fault.LooseReference a) = (word : ℕ) × (word_in dump a ≡ Some word) × (is_tied heap dump (kind_found heap dump a) word ≡ false)
HasFault heap dump (fault.BadEntry p k) = (e : Entry) × (slice_get (journals_of dump p) k ≡ Some e) × (IsCauseAt heap dump p k e None → ⊥)
HasFault heap dump (fault.StampRepeated s) = 1 < times s (all_stamps dump.pages)
HasFault heap dump (fault.StampMissing s) = (s < length (all_entries dump.pages)) × (times s (all_stamps dump.pages) ≡ 0)
HasFault heap dump fault.WrongTotal = dump.total ≢ right_total heap dump
HasFault heap dump (fault.BuildUnclaimed p) = (p < length dump.pages) × (named p dump.builds ≢ built_count (page_of dump p))
HasFault heap dump fault.WrongHead = IsHeadRight heap dump → ⊥
HasFault heap dump (fault.PageMissing p) = (p < sliding.pages (live heap)) × (page_of dump p ≡ None)

-- what is said of each fault
abbrev pub IsTold : Heap → Dumped → AuditFault → Explanation → Type 0
IsTold heap dump (fault.WrongWord a) (told.WrongWord word) = IsWordExplained heap dump a word
IsTold heap dump (fault.LooseReference a) (told.LooseReference word) = IsLooseExplained heap dump a word
IsTold heap dump (fault.BadEntry p k) (told.BadEntry bad) = IsEntryExplained heap dump p k bad
IsTold heap dump (fault.StampRepeated s) (told.StampRepeated uses) = AreUses dump s uses
IsTold heap dump (fault.StampMissing s) (told.StampMissing lost) = IsLost dump s lost
IsTold heap dump fault.WrongTotal (told.WrongTotal totals) = AreTotals heap dump totals
IsTold heap dump (fault.BuildUnclaimed p) (told.BuildUnclaimed claims) = AreClaims dump p claims
IsTold heap dump fault.WrongHead (told.WrongHead cause) = IsHeadExplained heap dump cause
IsTold heap dump (fault.PageMissing p) (told.PageMissing missing) = IsMissing heap dump p missing
IsTold heap dump fault explanation = ⊥

-- an explanation of a fault: the dump does not have the fault; or it has it, and this is said of it
abbrev pub Explains : Heap → Dumped → AuditFault → Explanation → Type 0
Explains heap dump fault told.NoSuchFault = HasFault heap dump fault → ⊥
Explains heap dump fault explanation = HasFault heap dump fault × IsTold heap dump fault explanation
