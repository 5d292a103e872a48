-- Lanes that give objects, take them, and are joined.
use Rattle.std.specs.Prelude.{◌≡◌, ℕ, ◌<◌, ◌≤◌, ◌||◌, ◌++◌, true, false, cond, List, [], ◌∷◌, fold, length, take, drop, slice_index}
use Rattle.heap_layout.specs.Bits.{bit}
use Rattle.reachability.specs.Queue.{has}
use Rattle.rest_marks.specs.Lanes.{Laned}
use Rattle.rest_marks.specs.declared.fault.Missing.{Missing}
use Rattle.rest_marks.specs.declared.fault.MeetFault.{MeetFault}
use Rattle.rest_marks.specs.declared.fault.MeetFault.TheVariants.{BadValue, OutOfMemory}

-- the bits that are set are those of both
abbrev pub AreBoth : List ℕ → List ℕ → List ℕ → Type 0
AreBoth one other bits = (i : ℕ) → bit bits i ≡ (bit one i || bit other i)

-- the objects at which both looked, then those that wait in either
abbrev pub joined_met : List ℕ → ℕ → List ℕ → ℕ → List ℕ
joined_met met looked other_met other_looked = take looked met ++ take other_looked other_met ++ drop looked met ++ drop other_looked other_met

-- the objects that were met, and behind them the one at this index, if it was not met
abbrev pub with_one : List ℕ → ℕ → List ℕ
with_one met i = cond (has met i) met (met ++ i ∷ [])

-- the objects that were met, and behind them those at these indices that were not met
abbrev pub met_at : List ℕ → List ℕ → List ℕ
met_at met indices = fold with_one met indices

-- index i is one of these
abbrev pub IsOneOf : List ℕ → ℕ → Type 0
IsOneOf indices i = (k : ℕ) × (k < length indices) × (slice_index indices k ≡ i)

-- no bit is set in both
abbrev pub AreDisjoint : List ℕ → List ℕ → Type 0
AreDisjoint one other = (i : ℕ) → bit one i ≡ true → bit other i ≡ false

-- Why a lane of `count` words does not take over the objects at these indices: one is past the words; or memory ran
-- out, and the lane has not all of them.
abbrev pub IsTakeFault : ℕ → List ℕ → List ℕ → MeetFault → Type 0
IsTakeFault count heads indices (BadValue k) = (k < length indices) × (count ≤ slice_index indices k)
IsTakeFault count heads indices OutOfMemory =
    (k : ℕ) × (k < length indices) × (slice_index indices k < count) × (bit heads (slice_index indices k) ≡ false)

-- the lane knows this object, and has not met it itself
abbrev pub IsMissingOf : Laned → Missing → Type 0
IsMissingOf lane missing = (bit lane.known missing.0 ≡ true) × (bit lane.own.heads missing.0 ≡ false)
