-- A moved heap in object numbers.
use Rattle.std.specs.Prelude.{◌≡◌, ℕ, ◌<◌, ◌≤◌, false, List, All, length, map}
use Rattle.heap_layout.specs.declared.edition.Edition.{Edition}
use Rattle.heap_layout.specs.Values.{is_immediate}
use Rattle.heap_layout.specs.Heap.{object_at}
use Rattle.page_plan.specs.Sliding.{to_address}
use Rattle.comp_cycles.specs.NumberedHeaps.{Names, number_at, numbered_object}
use Rattle.comp_cycles.specs.Stable.{StableHeap}
use Rattle.moved_heaps.specs.Moved.{Moved}
use Rattle.moved_heaps.specs.Ordered.{pair_at}

-- the to-space addresses of objects at these places, each with its object's number
abbrev pub pairs_at : List (ℕ × ℕ) → List (ℕ × ℕ)
pairs_at row = map (λ (x : ℕ × ℕ). (to_address x.0, x.1)) row

-- the same, for a heap of this edition
abbrev pub names_at : Edition → List (ℕ × ℕ) → Names
names_at edition row = record { edition = edition; numbers = pairs_at row }

-- the numbers of a row
abbrev pub numbers_in : List (ℕ × ℕ) → List ℕ
numbers_in row = map (λ (x : ℕ × ℕ). x.1) row

-- The row has places of the moved heap, each with the number of the object there. The stable heap has exactly these
-- objects, in the order of the row, and the roots of the moved heap.
pub record IsNumberedAt (moved : Moved) (row : List (ℕ × ℕ)) (stable : StableHeap) : Type 0 where
  pub edition : stable.edition ≡ moved.edition
  pub there : stable.there ≡ numbers_in row
  pub words : All (λ (x : ℕ × ℕ). stable.words x.1 ≡ numbered_object (names_at moved.edition row) (object_at moved.edition moved.words x.0)) row
  pub roots : stable.roots ≡ map (number_at (names_at moved.edition row)) moved.roots
  -- the numbers have been given out, each once
  pub given : All (λ (x : ℕ × ℕ). (1 ≤ x.1) × (x.1 ≤ stable.given)) row
  pub once : (i j : ℕ) → i < length row → j < length row → (pair_at row i).1 ≡ (pair_at row j).1 → i ≡ j

-- the stable heap with its objects listed in the order of the row
abbrev pub listed_by : List (ℕ × ℕ) → StableHeap → StableHeap
listed_by row stable = record stable { there = numbers_in row }

-- No address of the moved heap is an immediate. In editions one to three that is always so, in edition four below 2^63.
abbrev pub IsLow : Moved → Type 0
IsLow moved = (a : ℕ) → a ≤ to_address (length moved.words) → is_immediate moved.edition a ≡ false
