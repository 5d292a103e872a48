-- Walks over parts of a row.
use Rattle.std.specs.Prelude.{◌≡◌, ℕ, ◌+◌, ◌≤◌, ◌&&◌, nat_lt, List, length, IfSome, Result, IfOk}
use Rattle.std.specs.List.{flat_map}
use Rattle.heap_layout.specs.declared.edition.Edition.{Edition}
use Rattle.heap_layout.specs.Bits.{bit}
use Rattle.heap_layout.specs.Faults.{object_faults}
use Rattle.heap_layout.specs.Heap.{starts_at, is_start}
use Rattle.reachability.specs.declared.walks.Part.{Part}

-- A walk from word `entry` came to word `end`: the objects from `entry` on are those that it met, and then those from
-- `end` on, and the ones that it met have no fault. Their bits are set, and no others; the first bit is that of word
-- `base`.
pub record IsWalkedFrom (edition : Edition) (words : List ℕ) (base : ℕ) (bits : List ℕ) (entry end : ℕ) : Type 0 where
  pub from : base ≤ entry
  pub above : entry ≤ end
  pub within : end ≤ length words
  pub faults : flat_map (object_faults edition words) (starts_at edition words end) ≡ flat_map (object_faults edition words) (starts_at edition words entry)
  pub same : (k : ℕ) → end ≤ k → is_start (starts_at edition words entry) k ≡ is_start (starts_at edition words end) k
  pub below : (j : ℕ) → bit bits j ≡ (nat_lt (base + j) end && is_start (starts_at edition words entry) (base + j))

-- The same of a walk from the first word.
abbrev pub IsRowOf : Edition → List ℕ → List ℕ → ℕ → Type 0
IsRowOf edition words bits end = IsWalkedFrom edition words 0 bits 0 end

-- a part, if no object in it has a fault, was walked from its entry
abbrev pub IsPart : Edition → List ℕ → Part → Type 0
IsPart edition words part = IfSome part.end (IsWalkedFrom edition words part.base part.bits.items part.entry)

abbrev pub IsPartIfOk : {E : Type 0} → Edition → List ℕ → Result Part E → Type 0
IsPartIfOk edition words result = IfOk result (IsPart edition words)
