-- Which objects of the stable heap its roots reach. A root is the number of an object, or 0, or in edition four an
-- immediate.
use Rattle.std.specs.Prelude.{◌≡◌, ◌↔◌, ℕ, ◌+◌, ◌<◌, ◌≤◌, false, List, [], ◌∷◌, ◌++◌, slice_index}
use Rattle.heap_layout.specs.Header.{refs_of}
use Rattle.heap_layout.specs.Values.{is_immediate}
use Rattle.comp_history.specs.OneThread.{first_heap}
use Rattle.comp_cycles.specs.Cycles.{Cycle, entries_of, heap_after, names_of, rooted}
use Rattle.comp_cycles.specs.NumberedHeaps.{numbered}
use Rattle.comp_cycles.specs.Stable.{StableHeap, Step, Makes, Writes, Roots, Keeps, IsAmong, head_of, lived, stepped}
use Rattle.reachability.specs.Reachable.{AreReachable}

-- a reference of the object m leads to the object n
pub record LeadsTo (stable : StableHeap) (m n : ℕ) : Type 0 where
  pub field : ℕ
  pub inside : field < refs_of (head_of stable m)
  pub value : slice_index (stable.words m) (1 + field) ≡ n

-- The roots reach an object: its number is a root, or a reference of an object that they reach leads to it. Weak words
-- and immediates reach nothing.
pub data IsReachableIn (stable : StableHeap) (roots : List ℕ) : ℕ → Type 0 where
  by_root : (n : ℕ) → 1 ≤ n → is_immediate stable.edition n ≡ false → IsAmong roots n → IsReachableIn stable roots n
  by_reference : (m n : ℕ) → IsReachableIn stable roots m → 1 ≤ n → is_immediate stable.edition n ≡ false → LeadsTo stable m n → IsReachableIn stable roots n

-- these are the objects that the roots of the stable heap reach
abbrev pub KeepsExactly : StableHeap → List ℕ → Type 0
KeepsExactly stable objects = (n : ℕ) → IsAmong objects n ↔ IsReachableIn stable stable.roots n

-- each step that keeps objects keeps those that the roots reach in the heap before the step, and drops all others
abbrev pub KeepsReachable : StableHeap → List Step → Type 0
KeepsReachable stable [] = Unit {0}
KeepsReachable stable (Makes header ∷ steps) = KeepsReachable (stepped stable (Makes header)) steps
KeepsReachable stable (Writes kind object field value ∷ steps) = KeepsReachable (stepped stable (Writes kind object field value)) steps
KeepsReachable stable (Roots objects ∷ steps) = KeepsReachable (stepped stable (Roots objects)) steps
KeepsReachable stable (Keeps objects ∷ steps) = KeepsExactly stable objects × KeepsReachable (stepped stable (Keeps objects)) steps

-- the steps of the cycle before objects are dropped: what was written, then where the roots lead if they change
abbrev pub written_in : Cycle → List ℕ → ℕ → List Step
written_in c numbers given = numbered (names_of c numbers given) (first_heap c.setup) (entries_of c) ++ rooted (names_of c numbers given) c.new_roots []

-- the stable heap before objects are dropped
abbrev pub written : Cycle → List ℕ → StableHeap → StableHeap
written c numbers stable = lived stable (written_in c numbers stable.given)

-- the marks at the end of the cycle are those of the objects that the roots of the next heap reach
abbrev pub AreMarkedReachable : Cycle → Type 0
AreMarkedReachable c = AreReachable (heap_after c).edition (heap_after c).words (heap_after c).roots c.marks
