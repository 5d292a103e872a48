-- What the audit keeps beside the dump: the starts of new objects, each with the least stamp of a header there; and the
-- earliest of the late entries so far.
use Rattle.std.specs.Prelude.{◌≡◌, ℕ, ◌<◌, ◌||◌, Bool, false, nat_lt, is_some, List, [], Option, Some, None}
use Rattle.std.specs.List.{list_any}
use Rattle.core.specs.Ordering.{nat_cmp}
use Rattle.std_collections.specs.Map.{lookup}
use Rattle.std_collections.specs.BTreeMap.{is_at}
use Rattle.heap_layout.specs.Heap.{Heap}
use Rattle.comp_journal.specs.declared.entry.Entry.{Entry}
use Rattle.comp_history.specs.Setup.{Setup}
use Rattle.comp_audit.specs.Checks.{setup_for, is_forwarding_address, makes, is_made_before}
use Rattle.comp_audit.specs.Reported.{IsFirst}
use Rattle.comp_dump.specs.declared.fault.AuditFault.{AuditFault}
use Rattle.comp_dump.specs.declared.fault.AuditFault.TheVariants.{BadEntry}
use Rattle.comp_audit.specs.declared.checks.late.Late.{Late}
use Rattle.comp_audit.specs.declared.checks.setting.Setting.{Setting}

-- to-space as the heap defines it, with the fresh pages and mutators of the dump
abbrev pub setup_at : Setting → Setup
setup_at setting = setup_for setting.plan.now setting.dump.now.fresh setting.dump.now.mutators

-- the addresses at which headers were written, rising, each with the least stamp of a header there
pub record Stamped : Type 0 where
  pub stamps : List (ℕ × ℕ)

-- the stamp at an address; None if no header is there
abbrev pub stamp_at : Stamped → ℕ → Option ℕ
stamp_at starts a = lookup (is_at (nat_cmp a)) starts.stamps

abbrev pub is_below : Option ℕ → ℕ → Bool
is_below None n = false
is_below (Some stamp) n = nat_lt stamp n

-- an object starts at the address
abbrev pub leads : Heap → Stamped → ℕ → Bool
leads heap starts a = is_forwarding_address heap a || is_some (stamp_at starts a)

-- a header with a smaller stamp was written at the address
abbrev pub is_noted_before : Stamped → ℕ → ℕ → Bool
is_noted_before starts a n = is_below (stamp_at starts a) n

-- the starts are those of the headers that these entries write
pub record Notes (starts : Stamped) (all : List (ℕ × Entry)) : Type 0 where
  pub some : (a : ℕ) → is_some (stamp_at starts a) ≡ list_any (makes a) all
  pub older : (a n : ℕ) → is_noted_before starts a n ≡ is_made_before all a n

-- Each stamp has a list of faults. The stamp of this entry is the least with a fault, and its list begins with the
-- fault of this entry. None if no stamp has a fault.
pub record IsEarliestOf (faults : ℕ → List AuditFault) (late : Late) : Type 0 where
  pub before : (s : ℕ) → s < late.stamp → faults s ≡ []
  pub here : IsFirst (faults late.stamp) (BadEntry late.page late.number)

abbrev pub IsEarliest : (ℕ → List AuditFault) → Option Late → Type 0
IsEarliest faults None = (s : ℕ) → faults s ≡ []
IsEarliest faults (Some late) = IsEarliestOf faults late
