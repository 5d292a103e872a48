-- Why an entry does not fit, in the order of the checks: its stamp, then what it writes, then where it leads.
use Rattle.std.specs.Prelude.{◌≡◌, ◌≢◌, ℕ, zero, suc, ◌+◌, ◌-◌, ◌%◌, ◌<◌, ◌≤◌, ◌⊎◌, cond, nat_lt, Bool, true, false, is_some, IfSome, List, slice_get, Option, Some, None}
use Rattle.std.specs.List.{list_any}
use Rattle.std.specs.Option.{option_map}
use Rattle.heap_layout.specs.Header.{header_of, size_of}
use Rattle.heap_layout.specs.Heap.{Heap}
use Rattle.heap_layout.specs.declared.kind.Kind.{Kind}
use Rattle.heap_layout.specs.declared.kind.Kind.TheVariants.{Header, Reference, Weak, Data}
use Rattle.comp_dump.specs.Entry.{Entry}
use Rattle.comp_dump.specs.Lawful.{filled, kind_at}
use Rattle.comp_dump.specs.Setup.{Setup, pages}
use Rattle.comp_dump.specs.Dumped.{Dumped}
use Rattle.comp_audit.specs.Checks.{all_entries, fits, is_fresh_of, is_kind, is_led, is_made_before, is_start, makes, setup_for}
use Rattle.comp_audit.specs.Noted.{is_below}
use Rattle.comp_audit.specs.declared.explanation.EntryCause.{EntryCause}
use Rattle.comp_audit.specs.declared.explanation.EntryCause.TheVariants as why

-- to-space as the heap defines it, with the fresh pages and mutators of a dump
abbrev pub setup_of : Heap → Dumped → Setup
setup_of heap dump = setup_for heap dump.fresh dump.mutators

-- the stamp of the entry before entry k
abbrev pub stamp_before : List Entry → ℕ → Option ℕ
stamp_before journal zero = None
stamp_before journal (suc k) = option_map (λ (e : Entry). e.stamp) (slice_get journal k)

-- the mutator that makes objects on page p; None if it is a compacted page
abbrev pub maker_of : Setup → ℕ → Option ℕ
maker_of u p = cond (nat_lt p u.compacted) None (Some ((p - u.compacted) % u.mutators))

-- the stamp of the entry is above that of the entry before it, if there is one
abbrev pub IsAbove : Option ℕ → Entry → Type 0
IsAbove stamp_before e = IfSome stamp_before (λ stamp. stamp < e.stamp)

-- what is wrong with a header that is written after these entries of page p
abbrev pub IsHeaderCause : Setup → ℕ → List Entry → Entry → EntryCause → Type 0
IsHeaderCause u p before e why.NoFreshPage = (p < u.compacted) ⊎ (pages u ≤ p)
IsHeaderCause u p before e (why.OtherMaker maker) = (u.compacted ≤ p) × (p < pages u) × (maker_of u p ≡ Some maker) × (e.writer ≢ maker)
IsHeaderCause u p before e (why.NotNext end) = (is_fresh_of u e.writer p ≡ true) × (end ≡ filled u.heap.edition before) × (e.offset ≢ end)
IsHeaderCause u p before e (why.PastPage end) =
    (is_fresh_of u e.writer p ≡ true) × (e.offset ≡ filled u.heap.edition before) × (end ≡ e.offset + size_of (header_of u.heap.edition e.value)) × (64 < end)
IsHeaderCause u p before e cause = ⊥

-- what is wrong with another word: the word at its offset is of another kind, or of no object
abbrev pub IsFieldCause : Setup → ℕ → List Entry → Entry → EntryCause → Type 0
IsFieldCause u p before e (why.OtherWord found) = (found ≡ kind_at u p before e.offset) × (is_kind e.kind found ≡ false)
IsFieldCause u p before e cause = ⊥

-- the same for an entry that writes a word of this kind
abbrev pub IsCauseFor : Kind → Setup → ℕ → List Entry → Entry → EntryCause → Type 0
IsCauseFor Header = IsHeaderCause
IsCauseFor Reference = IsFieldCause
IsCauseFor Weak = IsFieldCause
IsCauseFor Data = IsFieldCause

-- entry e of page p fits the entries before it
abbrev pub fits_after : Setup → ℕ → List Entry → Entry → Bool
fits_after u p before e = fits u p before e.kind e.writer e.offset e.value

-- why entry e of page p does not fit the entries before it
abbrev pub IsMisfit : Setup → ℕ → List Entry → Entry → EntryCause → Type 0
IsMisfit u p before e cause = (fits_after u p before e ≡ false) × IsCauseFor e.kind u p before e cause

-- entry e is null or an immediate, or no reference or weak word, or leads to an object that is older than it
abbrev pub leads_back : Heap → Dumped → Entry → Bool
leads_back heap dump = is_led heap (is_made_before (all_entries dump.pages))

-- the least stamp of those of these entries that write a header at the address; None if none does
pub record IsHeaderStamp (all : List (ℕ × Entry)) (a : ℕ) (least : Option ℕ) : Type 0 where
  pub some : is_some least ≡ list_any (makes a) all
  pub older : (n : ℕ) → is_below least n ≡ is_made_before all a n

-- where an entry leads that does not lead back: to no object, or to one whose header is not older
abbrev pub IsLateCause : Heap → Dumped → Entry → EntryCause → Type 0
IsLateCause heap dump e why.LeadsNowhere = is_start heap (all_entries dump.pages) e.value ≡ false
IsLateCause heap dump e (why.LeadsAhead stamp) = IsHeaderStamp (all_entries dump.pages) e.value (Some stamp) × (e.stamp ≤ stamp)
IsLateCause heap dump e cause = ⊥

-- why an entry is late
abbrev pub IsLate : Heap → Dumped → Entry → EntryCause → Type 0
IsLate heap dump e cause = (leads_back heap dump e ≡ false) × IsLateCause heap dump e cause

-- Why entry e of page p is bad, if these entries are before it, and the last of them has this stamp: the first that
-- holds of the causes in the order of the checks.
abbrev pub IsCauseOf : Heap → Dumped → ℕ → Option ℕ → List Entry → Entry → EntryCause → Type 0
IsCauseOf heap dump p stamp_before before e (why.StampNotAbove stamp) = (stamp_before ≡ Some stamp) × (e.stamp ≤ stamp)
IsCauseOf heap dump p stamp_before before e cause =
    IsAbove stamp_before e
    × (IsMisfit (setup_of heap dump) p before e cause
    ⊎ ((fits_after (setup_of heap dump) p before e ≡ true) × IsLate heap dump e cause))

-- none of these causes holds of it
pub record HasNoCause (heap : Heap) (dump : Dumped) (p : ℕ) (stamp_before : Option ℕ) (before : List Entry) (e : Entry) : Type 0 where
  pub above : IsAbove stamp_before e
  pub fits : fits_after (setup_of heap dump) p before e ≡ true
  pub back : leads_back heap dump e ≡ true
