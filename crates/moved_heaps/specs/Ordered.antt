-- The places with their numbers, in a row.
use Rattle.std.specs.Prelude.{◌≡◌, ℕ, ◌^◌, ◌<◌, ◌≤◌, ◌⊎◌, List, length, slice_index, slice_index_or}
use Rattle.moved_heaps.specs.Moved.{Moved}

-- pair i of a row
abbrev pub pair_at : List (ℕ × ℕ) → ℕ → ℕ × ℕ
pair_at row i = slice_index_or row i (0, 0)

-- the row has each place with its number, in the order of the numbers; there are not many
pub record IsListed (places : List ℕ) (row : List (ℕ × ℕ)) : Type 0 where
  pub long : length row ≡ length places
  pub few : length places ≤ 2 ^ 31
  pub each : (k : ℕ) → k < length row → pair_at row k ≡ (slice_index places k, k)

-- the row has each place with its number, once, and the places rise; of equal places the lower number comes first
pub record AreByPlace (moved : Moved) (row : List (ℕ × ℕ)) : Type 0 where
  pub long : length row ≡ length moved.places
  pub numbers : (i : ℕ) → i < length row → ((pair_at row i).1 < length moved.places) × ((pair_at row i).0 ≡ slice_index moved.places (pair_at row i).1)
  pub all : (k : ℕ) → k < length moved.places → (i : ℕ) × (i < length row) × ((pair_at row i).1 ≡ k)
  pub rising : (i j : ℕ) → i < j → j < length row
      → ((pair_at row i).0 < (pair_at row j).0) ⊎ (((pair_at row i).0 ≡ (pair_at row j).0) × ((pair_at row i).1 < (pair_at row j).1))
