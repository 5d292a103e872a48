-- Files of which it is known how many calls failed.
use Rattle.std.specs.Prelude.{◌≡◌, ℕ, ◌+◌, ◌-◌, ◌^◌, min, None}
use Rattle.heap_layout.specs.Counted.{failures_of}
use Rattle.command_io.specs.Disk.{Disk}

-- this count, and so many more; it saturates at 2^64 - 1
abbrev pub more_by : ℕ → ℕ → ℕ
more_by failures n = min (failures + n) (2 ^ 64 - 1)

-- files of which nothing is known but the number of calls that failed
abbrev pub counting : {F W : Type 0} → (F → ℕ) → F → Disk F W
counting failures files = record {
  holds = λ _ _ _. Unit {0};
  lacks = λ _ _. Unit {0};
  makes = λ _ _ _. Unit {0};
  bars = λ _ _. Unit {0};
  contents = λ _. None;
  begins = λ to. failures to ≡ failures files;
  puts = λ _ _ written to. failures to ≡ more_by (failures files) (failures_of written);
  counts = λ n to. failures to ≡ more_by (failures files) n;
}
