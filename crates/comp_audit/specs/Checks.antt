-- The nine checks of the audit. Each is the list of its faults in a dump, ordered by page, entry, address or stamp. The
-- tests are computed; `Faultless` says what the test of an entry means for the cells.
use Rattle.std.specs.Prelude.{ℕ, ◌+◌, ◌-◌, ◌%◌, ◌==◌, ◌&&◌, ◌||◌, max, not, is_some, Bool, true, false, nat_lt, nat_le, bytes_eq, List, [], ◌∷◌, ◌++◌, length, map, slice_index, slice_index_or, Option, Some, None}
use Rattle.std.specs.List.{flat_map, enumerate_from, list_any, range_with_len}
use Rattle.heap_layout.specs.Values.{leads_nowhere}
pub use Rattle.heap_layout.specs.Faults.{unless}
use Rattle.heap_layout.specs.Header.{header_of, size_of}
use Rattle.heap_layout.specs.Kinds.{refers}
use Rattle.heap_layout.specs.Heap.{Heap, live}
use Rattle.heap_layout.specs.declared.edition.Edition.{Edition}
use Rattle.heap_layout.specs.declared.edition.Edition.TheVariants.{One, Two, Three, Four}
use Rattle.heap_layout.specs.declared.kind.Kind.{Kind}
use Rattle.heap_layout.specs.declared.kind.Kind.TheVariants.{Header, Reference, Weak, Data}
use Rattle.page_plan.specs.Sliding as sliding
use Rattle.page_plan.specs.Sliding.{live_words, forwarded_value, shape_at}
use Rattle.comp_journal.specs.Journal.{replayed}
use Rattle.comp_journal.specs.declared.entry.Entry.{Entry}
use Rattle.comp_history.specs.Lists.{times}
use Rattle.comp_history.specs.Locks.{Journals}
use Rattle.comp_history.specs.Setup.{Setup, pages, address, base_of}
use Rattle.comp_history.specs.Lawful.{kind_at, filled}
use Rattle.comp_history.specs.Merged.{entries_below, stamp_of}
use Rattle.comp_history.specs.OneThread.{address_of}
use Rattle.comp_history.specs.MadeWords.{allocated}
use Rattle.comp_history.specs.Builds.{named}
use Rattle.comp_dump.specs.Dumped.{BuiltPage}
use Rattle.comp_dump.specs.declared.fault.AuditFault.{AuditFault}
use Rattle.comp_dump.specs.declared.fault.AuditFault.TheVariants.{WrongWord, LooseReference, BadEntry, StampRepeated, StampMissing, WrongTotal, BuildUnclaimed, WrongHead}

-- to-space as the heap defines it, with these numbers of fresh pages and mutators
abbrev pub setup_for : Heap → ℕ → ℕ → Setup
setup_for heap fresh mutators = record { heap = heap; compacted = sliding.pages (live heap); fresh = fresh; mutators = mutators }

-- the journal of a page that was built; other pages have no entry
abbrev pub journal_of : Option BuiltPage → List Entry
journal_of None = []
journal_of (Some page) = page.journal

-- the journal of each page
abbrev pub journals_in : List (Option BuiltPage) → Journals
journals_in records p = journal_of (slice_index_or records p None)

-- all entries, page by page, each with its page
abbrev pub all_entries : List (Option BuiltPage) → List (ℕ × Entry)
all_entries records = entries_below (journals_in records) (length records)

-- the stamps of all entries
abbrev pub all_stamps : List (Option BuiltPage) → List ℕ
all_stamps records = map stamp_of (all_entries records)

-- the faults of a page that was built, by its number
abbrev pub of_built : (ℕ → BuiltPage → List AuditFault) → ℕ × Option BuiltPage → List AuditFault
of_built faults (p, None) = []
of_built faults (p, Some page) = faults p page

abbrev pub each_built : (ℕ → BuiltPage → List AuditFault) → List (Option BuiltPage) → List AuditFault
each_built faults records = flat_map (of_built faults) (enumerate_from 0 records)

-- two editions are equal
abbrev pub is_edition : Edition → Edition → Bool
is_edition One One = true
is_edition Two Two = true
is_edition Three Three = true
is_edition Four Four = true
is_edition edition other = false

-- 1. The dump is of the heap's edition, there is one record for each compacted and each fresh page, and the roots are
-- those that the plan forwards.
abbrev pub head_faults : Setup → Edition → List ℕ → List (Option BuiltPage) → List AuditFault
head_faults u edition roots records =
    unless (is_edition edition u.heap.edition && ((length records == pages u) && bytes_eq roots (map (forwarded_value u.heap.edition (live u.heap)) u.heap.roots))) WrongHead

-- 2. The lists of builds name each page that was built exactly once, and no other page.
abbrev pub is_claimed : List (List ℕ) → ℕ × Option BuiltPage → Bool
is_claimed builds (p, None) = named p builds == 0
is_claimed builds (p, Some page) = named p builds == 1

abbrev pub build_faults : List (List ℕ) → List (Option BuiltPage) → List AuditFault
build_faults builds records = flat_map (λ slot. unless (is_claimed builds slot) (BuildUnclaimed slot.0)) (enumerate_from 0 records)

-- 3. Each entry of a page fits the entries before it, and its stamp is above theirs.
abbrev pub is_kind : Kind → Option Kind → Bool
is_kind Header (Some Header) = true
is_kind Reference (Some Reference) = true
is_kind Weak (Some Weak) = true
is_kind Data (Some Data) = true
is_kind kind found = false

-- page p is a fresh page on which this writer makes objects
abbrev pub is_fresh_of : Setup → ℕ → ℕ → Bool
is_fresh_of u writer p = nat_le u.compacted p && nat_lt p (pages u) && (writer == (p - u.compacted) % u.mutators)

-- an entry of this kind, writer, offset and value may follow these entries of page p
abbrev pub fits : Setup → ℕ → List Entry → Kind → ℕ → ℕ → ℕ → Bool
fits u p before Header writer offset value = is_fresh_of u writer p && (offset == filled u.heap.edition before) && nat_le (offset + size_of (header_of u.heap.edition value)) 64
fits u p before Reference writer offset value = nat_lt offset 64 && is_kind Reference (kind_at u p before offset)
fits u p before Weak writer offset value = nat_lt offset 64 && is_kind Weak (kind_at u p before offset)
fits u p before Data writer offset value = nat_lt offset 64 && is_kind Data (kind_at u p before offset)

-- the faults of entries of page p: the first of them is number k, follows `before`, and needs a stamp of at least `low`
abbrev pub entry_faults : Setup → ℕ → ℕ → ℕ → List Entry → List Entry → List AuditFault
entry_faults u p k low before [] = []
entry_faults u p k low before (e ∷ es) =
    unless (nat_le low e.stamp && fits u p before e.kind e.writer e.offset e.value) (BadEntry p k)
    ++ entry_faults u p (k + 1) (e.stamp + 1) (before ++ e ∷ []) es

abbrev pub journal_faults : Setup → ℕ → BuiltPage → List AuditFault
journal_faults u p page = entry_faults u p 0 0 [] page.journal

-- 4. The words of a page are what its journal makes of its base.
abbrev pub same_words : List ℕ → ℕ → List ℕ → List AuditFault
same_words right p words = flat_map (λ word. unless (word.1 == slice_index right word.0) (WrongWord (address p word.0))) (enumerate_from 0 words)

abbrev pub word_faults : Setup → ℕ → BuiltPage → List AuditFault
word_faults u p page = same_words (replayed (base_of u p) page.journal) p page.words

-- there is a word of this kind, and it refers
abbrev pub some_refers : Option Kind → Bool
some_refers None = false
some_refers (Some k) = refers k

-- 5. Each reference and weak word is null or an immediate, or the address of a slid object, or one at which a header
-- was written.
abbrev pub is_forwarding_address : Heap → ℕ → Bool
is_forwarding_address heap a = is_some (shape_at (live heap) a)

-- the entry writes a header at the address
abbrev pub makes : ℕ → ℕ × Entry → Bool
makes a x = is_kind Header (Some x.1.kind) && (address_of x == a)

abbrev pub is_start : Heap → List (ℕ × Entry) → ℕ → Bool
is_start heap all a = is_forwarding_address heap a || list_any (makes a) all

-- the words of page p that refer, are neither null nor immediates, and lead to no object
abbrev pub loose_faults : Edition → (ℕ → Bool) → (ℕ → Bool) → ℕ → List ℕ → List AuditFault
loose_faults edition is_reference leads p words =
    flat_map (λ word. unless (not (is_reference word.0) || leads_nowhere edition word.1 || leads word.1) (LooseReference (address p word.0))) (enumerate_from 0 words)

abbrev pub reference_faults : (ℕ → Bool) → Setup → ℕ → BuiltPage → List AuditFault
reference_faults leads u p page = loose_faults u.heap.edition (λ offset. some_refers (kind_at u p page.journal offset)) leads p page.words

-- one more than the greatest of some numbers, or 0
abbrev pub above : List ℕ → ℕ
above [] = 0
above (n ∷ ns) = max (n + 1) (above ns)

-- 6. No stamp stands twice.
abbrev pub repeat_faults : List ℕ → List AuditFault
repeat_faults stamps = flat_map (λ s. unless (nat_le (times s stamps) 1) (StampRepeated s)) (range_with_len 0 (above stamps))

-- 7. Each number below the number of entries is a stamp.
abbrev pub missing_faults : List ℕ → List AuditFault
missing_faults stamps = flat_map (λ s. unless (nat_le 1 (times s stamps)) (StampMissing s)) (range_with_len 0 (length stamps))

-- 8. Each reference and weak word that was written is null or an immediate, or leads to a slid object, or to an address
-- at which a header with a smaller stamp was written.
abbrev pub is_made_before : List (ℕ × Entry) → ℕ → ℕ → Bool
is_made_before all a n = list_any (λ (x : ℕ × Entry). makes a x && nat_lt (stamp_of x) n) all

abbrev pub is_led : Heap → (ℕ → ℕ → Bool) → Entry → Bool
is_led heap is_before e = not (refers e.kind) || leads_nowhere heap.edition e.value || is_forwarding_address heap e.value || is_before e.value e.stamp

-- the entries of a page that have stamp s and fail the test
abbrev pub late_on : (Entry → Bool) → ℕ → ℕ → List Entry → List AuditFault
late_on test s p journal = flat_map (λ entry. unless (not (entry.1.stamp == s) || test entry.1) (BadEntry p entry.0)) (enumerate_from 0 journal)

abbrev pub late_with : (Entry → Bool) → List (Option BuiltPage) → ℕ → List AuditFault
late_with test records s = each_built (λ p page. late_on test s p page.journal) records

-- all entries that fail the test, by stamp
abbrev pub late_faults : (Entry → Bool) → List (Option BuiltPage) → List AuditFault
late_faults test records = flat_map (late_with test records) (range_with_len 0 (above (all_stamps records)))

-- 9. The total is the number of words that slid and of words of new objects.
abbrev pub total_faults : Heap → ℕ → List (Option BuiltPage) → List AuditFault
total_faults heap total records = unless (total == live_words (live heap) + allocated heap.edition (all_entries records)) WrongTotal
