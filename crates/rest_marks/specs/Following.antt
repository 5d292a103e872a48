-- The headers of objects that wait in the queue, copied before their turn.
use Rattle.std.specs.Prelude.{◌≡◌, ℕ, ◌+◌, ◌-◌, ◌<◌, ◌≤◌, List, length, slice_index}
use Rattle.rest_marks.specs.declared.following.Ahead.{Ahead}

-- these are the headers of the objects in the queue from place `from` up to `to`, of those that lie within the words
pub record IsAhead (words queue headers : List ℕ) (ahead : Ahead) : Type 0 where
  pub room : ahead.to ≤ ahead.from + 32
  pub within : ahead.to ≤ length queue
  pub copied : (k : ℕ) → ahead.from ≤ k → k < ahead.to → slice_index queue k < length words
      → slice_index headers (k - ahead.from) ≡ slice_index words (slice_index queue k)
