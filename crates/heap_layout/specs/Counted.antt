-- What clauses say of a `Counted`.
use Rattle.std.specs.Prelude.{◌≡◌, ℕ, ◌+◌, ◌-◌, ◌^◌, ◌<◌, min, List, length, take, Bool, false, Option, Result, Ok, Err}
use Rattle.std.specs.Borrow.{MutBor}
use Rattle.std.specs.Io.KnownBytes.{Appends}
use Rattle.heap_layout.specs.declared.counted.Counted.{Counted}
use Rattle.heap_layout.specs.declared.fault.LayoutFault.{LayoutFault}
use Rattle.heap_layout.specs.declared.fault.LayoutFault.TheVariants.{Device}

-- the reader or writer inside
abbrev pub inner_of : {R : Type 0} → Counted R → R
inner_of counted = counted.inner

-- the ghost name of the writer that it borrows
abbrev pub writer_of : {W : Type 0} → Counted (MutBor W) → ℕ
writer_of counted = counted.inner.ghost_name

-- how many of its calls have failed
abbrev pub failures_of : {R : Type 0} → Counted R → ℕ
failures_of counted = counted.failures

-- whether all bytes that were taken through this counter have been flushed since; of what the writer took before
-- nothing is said
abbrev pub is_flushed_of : {R : Type 0} → Counted R → Bool
is_flushed_of counted = counted.flushed

-- one more than a count of failed calls, saturating at 2^64 - 1
abbrev pub one_more : ℕ → ℕ
one_more failures = min (failures + 1) (2 ^ 64 - 1)

-- The known bytes grew by a beginning of a part, but not by all of it. If that beginning is not empty, it is left to
-- flush.
pub record AppendsBeginning (before after : Option (List ℕ)) (was_flushed is_flushed : Bool) (part : List ℕ) : Type 0 where
  pub taken : ℕ
  pub not_all : taken < length part
  pub bytes : Appends before after (take taken part)
  pub nothing : taken ≡ 0 → is_flushed ≡ was_flushed
  pub something : 0 < taken → is_flushed ≡ false

-- one more call of the device has failed if the answer is `Device`, and otherwise none
abbrev pub CountsFailure : {T : Type 0} → ℕ → ℕ → Result T LayoutFault → Type 0
CountsFailure before after (Ok _) = after ≡ before
CountsFailure before after (Err Device) = after ≡ before + 1
CountsFailure before after (Err _) = after ≡ before
