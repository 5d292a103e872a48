-- Where the live objects start once all live words slide: each object follows those before it.
use Rattle.std.specs.Prelude.{◌≡◌, ℕ, ◌+◌, ◌/◌, ◌<◌, true, List, length, take}
use Rattle.heap_layout.specs.Bits.{bit}
use Rattle.heap_layout.specs.Heap.{Object}
use Rattle.mark_tables.specs.LiveWords.{live_words}

-- the object-start bits: one bit for each live word at its to-space index, in blocks of 64; a bit is set if an object
-- starts there
pub record AreStarts (objects : List Object) (bits : List ℕ) : Type 0 where
  pub long : length bits ≡ (live_words objects + 63) / 64
  pub there : (k : ℕ) → k < length objects → bit bits (live_words (take k objects)) ≡ true
  pub only : (i : ℕ) → bit bits i ≡ true → (k : ℕ) × (k < length objects) × (i ≡ live_words (take k objects))
