-- The bits of the objects that were met, as a table of atomic words without slots. They only grow.
use Rattle.std.specs.Prelude.{◌≡◌, ℕ, ◌/◌, ◌%◌, true, List, length, bit_or}
use Rattle.std.specs.Int.{bit_at}
use mathlib.Core.Option.{some}
use lib.ListN.{get_elem?}
use Rattle.atomic_table.specs.Table.{Me, State, Step}
use Rattle.heap_layout.specs.Bits.{bit}
use Rattle.mark_job.specs.declared.met_view.MetView.{MetView}

-- each bit of the first that is set is set in the second too
abbrev pub AreAmong : List ℕ → List ℕ → Type 0
AreAmong old new = (i : ℕ) → bit old i ≡ true → bit new i ≡ true

-- The rule: the bits that were set at the beginning are set, and so are those of which a thread knows.
pub record Grows (first : List ℕ) (s : State (Unit {0}) MetView) : Type 0 where
  pub many : length s.words ≡ length first
  pub begun : AreAmong first s.words
  pub known : (id : ℕ) (v : MetView) → get_elem? s.views id ≡ some v → AreAmong v.bits s.words

-- who knows the bits of the beginning
abbrev pub knows_first : List ℕ → MetView
knows_first first = record { bits = first }

-- who found these bits of a block, and has set these, knows of both, and of all of which it knew before
abbrev pub sees : Step (Unit {0}) → Me (Unit {0}) MetView → ℕ → Me (Unit {0}) MetView → Type 0
sees step before found after =
    AreAmong before.0.bits after.0.bits
    × ((i : ℕ) → i / 64 ≡ step.word → bit_at (bit_or found step.first) (i % 64) ≡ 1 → bit after.0.bits i ≡ true)
