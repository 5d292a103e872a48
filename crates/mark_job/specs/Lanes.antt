-- The lanes as a table of atomic words, a lane for each: the word is 0 while the lane is at home, and 1 while a helper
-- has it.
use Rattle.std.specs.Prelude.{◌≡◌, ℕ, ◌<◌, List, [], ◌∷◌, length, slice_index}
use mathlib.Core.Option.{some}
use lib.ListN.{get_elem?}
use Rattle.atomic_table.specs.Seated.{TableId}
use Rattle.atomic_table.specs.Table.{Me, State, Step}
use Rattle.mark_job.specs.Asked.{Asked, AreMetIn}
use Rattle.mark_job.specs.declared.view.View.{View}

-- a lane is at home there
abbrev pub IsHome : {V : Type 0} → State (List ℕ) V → ℕ → Type 0
IsHome s k = (lane : List ℕ) × (get_elem? s.homes k ≡ some (some lane))

-- The lanes that are at home are such lanes, and those whose word is 0 are at home.
pub record HoldsOf {V : Type 0} (Fits : List ℕ → Type 0) (s : State (List ℕ) V) : Type 0 where
  pub many : length s.words ≡ length s.homes
  pub reached : (k : ℕ) (lane : List ℕ) → get_elem? s.homes k ≡ some (some lane) → Fits lane
  pub home : (k : ℕ) → k < length s.homes → slice_index s.words k ≡ 0 → IsHome s k

-- The rule of a job: the lanes are lanes of this heap.
abbrev pub Holds : Asked → State (List ℕ) View → Type 0
Holds asked = HoldsOf (AreMetIn asked)

-- what every helper knows
abbrev pub first_view : Asked → View
first_view asked = record { about = asked }

-- a helper that finds 0 takes the lane, which is such a lane
abbrev pub takes_of : {V : Type 0} → (V → List ℕ → Type 0) → Step (List ℕ) → Me (List ℕ) V → ℕ → Me (List ℕ) V → Type 0
takes_of Fits step before found after = found ≡ 0 → (lane : List ℕ) × (after.1 ≡ (step.word, lane) ∷ []) × Fits before.0 lane

-- a helper of a job
abbrev pub takes : Step (List ℕ) → Me (List ℕ) View → ℕ → Me (List ℕ) View → Type 0
takes = takes_of (λ (view : View). AreMetIn view.about)

-- nothing is said of a helper that puts its lane back
abbrev pub puts : {V : Type 0} → Step (List ℕ) → Me (List ℕ) V → ℕ → Me (List ℕ) V → Type 0
puts step before found after = Unit {0}

-- a seat of the table of this name has taken lane k
pub record IsOut {V : Type 0} (table own : TableId) (me : Me (List ℕ) V) (k : ℕ) : Type 0 where
  pub same : own ≡ table
  pub lane : List ℕ
  pub out : me.1 ≡ (k, lane) ∷ []
