-- Why a moved heap is not lawful. The checks have an order; of each check the least numbers count.
use Rattle.std.specs.Prelude.{◌≡◌, ◌≢◌, ℕ, ◌<◌, ◌⊎◌, length, Result, Ok, Err}
use Rattle.heap_layout.specs.Heap.{Heap, live}
use Rattle.page_plan.specs.Sliding.{live_words}
use Rattle.moved_heaps.specs.Moved.{Moved, IsInside, IsRoot, IsWhole, IsWord, HasHead, IsLawful, end, place, size_at}
use Rattle.moved_heaps.specs.declared.fault.HeadPart.TheVariants.{Edition, Places, Roots}
use Rattle.moved_heaps.specs.declared.fault.MovedFault.{MovedFault}
use Rattle.moved_heaps.specs.declared.fault.MovedFault.TheVariants.{WrongHead, PlaceOutside, Overlap, WrongRoot, WrongWord, OutOfMemory}
use Rattle.moved_heaps.specs.declared.judging.Moves.{Moves}

-- k is the least number below the count for which something does not hold
pub record IsLeast (Holds : ℕ → Type 0) (count k : ℕ) : Type 0 where
  pub below : k < count
  pub fails : Holds k → ⊥
  pub before : (j : ℕ) → j < k → Holds j

-- an object comes before another one: by its new place, or by its number if the places are equal
abbrev pub ComesBefore : Moved → ℕ → ℕ → Type 0
ComesBefore moved k l = (place moved k < place moved l) ⊎ ((place moved k ≡ place moved l) × (k < l))

-- of two marked objects the first comes before the second, and the second begins inside the first
pub record Overlaps (heap : Heap) (moved : Moved) (k l : ℕ) : Type 0 where
  pub first : k < length heap.marks
  pub second : l < length heap.marks
  pub order : ComesBefore moved k l
  pub inside : place moved l < end heap moved k

-- Of all pairs that overlap this is the least: the first of no other one comes before k, and of those with k the second
-- of no other one comes before l.
pub record IsLeastOverlap (heap : Heap) (moved : Moved) (k l : ℕ) : Type 0 where
  pub overlaps : Overlaps heap moved k l
  pub first : (a b : ℕ) → Overlaps heap moved a b → ComesBefore moved a k → ⊥
  pub second : (b : ℕ) → Overlaps heap moved k b → ComesBefore moved b l → ⊥

-- the checks that come before a fault have passed
pub record PassesPlaces (heap : Heap) (moved : Moved) : Type 0 where
  pub head : HasHead heap moved
  pub inside : (k : ℕ) → k < length heap.marks → IsInside heap moved k

pub record PassesOverlaps (heap : Heap) (moved : Moved) : Type 0 where
  pub places : PassesPlaces heap moved
  pub none : (k l : ℕ) → Overlaps heap moved k l → ⊥

pub record PassesRoots (heap : Heap) (moved : Moved) : Type 0 where
  pub overlaps : PassesOverlaps heap moved
  pub roots : (i : ℕ) → i < length heap.roots → IsRoot heap moved i

-- this is the first fault; memory may run out once the places have passed
abbrev pub IsFirstFault : Heap → Moved → MovedFault → Type 0
IsFirstFault heap moved (WrongHead Edition) = moved.edition ≢ heap.edition
IsFirstFault heap moved (WrongHead Places) = (moved.edition ≡ heap.edition) × (length moved.places ≢ length heap.marks)
IsFirstFault heap moved (WrongHead Roots) =
    (moved.edition ≡ heap.edition) × (length moved.places ≡ length heap.marks) × (length moved.roots ≢ length heap.roots)
IsFirstFault heap moved (PlaceOutside k) = HasHead heap moved × IsLeast (IsInside heap moved) (length heap.marks) k
IsFirstFault heap moved (Overlap k l) = PassesPlaces heap moved × IsLeastOverlap heap moved k l
IsFirstFault heap moved (WrongRoot i) = PassesOverlaps heap moved × IsLeast (IsRoot heap moved) (length heap.roots) i
IsFirstFault heap moved (WrongWord k offset) =
    PassesRoots heap moved × IsLeast (IsWhole heap moved) (length heap.marks) k × IsLeast (IsWord heap moved k) (size_at heap k) offset
IsFirstFault heap moved OutOfMemory = PassesPlaces heap moved

-- the answer: what moved, if the heap is lawful, or else the first fault
abbrev pub Judges : Heap → Moved → Result Moves MovedFault → Type 0
Judges heap moved (Ok moves) = IsLawful heap moved × (moves.objects ≡ length heap.marks) × (moves.words ≡ live_words (live heap))
Judges heap moved (Err fault) = IsFirstFault heap moved fault
