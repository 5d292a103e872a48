-- Where the last object before each block of words starts.
use Rattle.std.specs.Prelude.{◌≡◌, ℕ, ◌-◌, ◌*◌, ◌<◌, ◌≤◌, true, false, List, length, slice_index}
use Rattle.heap_layout.specs.Bits.{bit}

-- the last bit that is set before block b, the 64 bits from bit 64 * b on; 0 if none is
pub record IsStart (heads : List ℕ) (b start : ℕ) : Type 0 where
  pub before : start ≤ 64 * b - 1
  pub here : (j : ℕ) → j < 64 * b → bit heads j ≡ true → bit heads start ≡ true
  pub last : (j : ℕ) → start < j → j < 64 * b → bit heads j ≡ false

-- that of each block
pub record AreStarts (heads starts : List ℕ) : Type 0 where
  pub long : length starts ≡ length heads
  pub each : (b : ℕ) → b < length heads → IsStart heads b (slice_index starts b)
