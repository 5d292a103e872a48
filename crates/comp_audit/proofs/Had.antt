-- Faults that a dump has, and those that it does not have: an entry of which a cause holds, and a stamp that no page
-- has.
use Rattle.std.proofs.Common.{◌≡◌, ◌∙◌, ℕ, zero, suc, ◌+◌, ◌<◌, ◌⊎◌, true, true≢false, inl, inr, List, length, map, Option, None, Some, refl, sym, subst, arith}
use Rattle.heap_layout.specs.Heap.{Heap}
use Rattle.comp_dump.specs.Entry.{Entry}
use Rattle.comp_dump.specs.Dumped.{BuiltPage, Dumped}
use Rattle.comp_dump.specs.Lists.{times}
use Rattle.comp_dump.specs.Merged.{entries_below, stamp_of}
use Rattle.comp_dump.specs.declared.fault.AuditFault.TheVariants as fault
use Rattle.comp_audit.specs.Checks.{all_stamps, journals_in}
use Rattle.comp_audit.specs.EntryCauses.{fits_after, setup_of, HasNoCause, IsAbove, IsCauseOf, IsLate, IsMisfit}
use Rattle.comp_audit.specs.Explained.{stamped_on, HasFault, IsEntryExplained, IsFirstUse}
use Rattle.comp_audit.specs.declared.explanation.BadEntryAt.{BadEntryAt}
use Rattle.comp_audit.specs.declared.explanation.EntryCause.{EntryCause}
use Rattle.comp_audit.specs.declared.explanation.EntryCause.TheVariants as why
use Rattle.comp_audit.proofs.Told.{uses_next}

-- a cause other than the stamp
other_holds : (heap : Heap) (dump : Dumped) (p : ℕ) (stamp_before : Option ℕ) (before : List Entry) (e : Entry) (cause : EntryCause)
    → (IsMisfit (setup_of heap dump) p before e cause ⊎ ((fits_after (setup_of heap dump) p before e ≡ true) × IsLate heap dump e cause))
    → HasNoCause heap dump p stamp_before before e → ⊥
other_holds heap dump p stamp_before before e cause (inl misfit) none = true≢false (sym none.fits ∙ misfit.0)
other_holds heap dump p stamp_before before e cause (inr late) none = true≢false (sym none.back ∙ late.1.0)

-- the cause that is the stamp
stamp_holds : (stamp_before : Option ℕ) (stamp : ℕ) (e : Entry) → stamp_before ≡ Some stamp → IsAbove stamp_before e → stamp < e.stamp
stamp_holds stamp_before stamp e is above = subst (λ (o : Option ℕ). IsAbove o e) is above

-- of an entry of which a cause holds not none holds
cause_holds : (heap : Heap) (dump : Dumped) (p : ℕ) (stamp_before : Option ℕ) (before : List Entry) (e : Entry) (cause : EntryCause)
    → IsCauseOf heap dump p stamp_before before e cause → HasNoCause heap dump p stamp_before before e → ⊥
cause_holds heap dump p stamp_before before e (why.StampNotAbove stamp) is none =
    let above = stamp_holds stamp_before stamp e is.0 none.above in absurd (omega (arith, is.1, above))
cause_holds heap dump p stamp_before before e why.NoFreshPage is none = other_holds heap dump p stamp_before before e why.NoFreshPage is.1 none
cause_holds heap dump p stamp_before before e (why.OtherMaker maker) is none = other_holds heap dump p stamp_before before e (why.OtherMaker maker) is.1 none
cause_holds heap dump p stamp_before before e (why.NotNext end) is none = other_holds heap dump p stamp_before before e (why.NotNext end) is.1 none
cause_holds heap dump p stamp_before before e (why.PastPage end) is none = other_holds heap dump p stamp_before before e (why.PastPage end) is.1 none
cause_holds heap dump p stamp_before before e (why.OtherWord found) is none = other_holds heap dump p stamp_before before e (why.OtherWord found) is.1 none
cause_holds heap dump p stamp_before before e why.LeadsNowhere is none = other_holds heap dump p stamp_before before e why.LeadsNowhere is.1 none
cause_holds heap dump p stamp_before before e (why.LeadsAhead stamp) is none = other_holds heap dump p stamp_before before e (why.LeadsAhead stamp) is.1 none

-- an entry that is explained is a bad one
pub explained_is_there : (heap : Heap) (dump : Dumped) (p k : ℕ) (bad : BadEntryAt) → IsEntryExplained heap dump p k bad → HasFault heap dump (fault.BadEntry p k)
explained_is_there heap dump p k bad is = (bad.entry, is.entry, λ none. cause_holds heap dump p _ _ bad.entry bad.cause is.cause none)

-- if no page has an entry of stamp s, the first n pages have none
none_below : (records : List (Option BuiltPage)) (s n : ℕ) → ((p : ℕ) → times s (map (λ (e : Entry). e.stamp) (journals_in records p)) ≡ 0)
    → times s (map stamp_of (entries_below (journals_in records) n)) ≡ 0
none_below records s zero none = refl
none_below records s (suc n) none =
    let next : n + 1 ≡ suc n = omega arith in
    subst (λ (m : ℕ). times s (map stamp_of (entries_below (journals_in records) m)) ≡ 0) next (omega (arith, uses_next records s n, none_below records s n none, none n))

-- a stamp that no page has stands not twice
pub unused : (dump : Dumped) (s : ℕ) (first : Option ℕ) → first ≡ None → IsFirstUse dump s first → 1 < times s (all_stamps dump.pages) → ⊥
unused dump s first is found more =
    let none : (p : ℕ) → stamped_on dump s p ≡ 0 = subst (λ (o : Option ℕ). IsFirstUse dump s o) is found in
    absurd (omega (arith, more, none_below dump.pages s (length dump.pages) none))
