-- Which objects the roots of a heap reach.
use Rattle.std.specs.Prelude.{◌≡◌, ℕ, true, List, Contains}
use Rattle.std.specs.List.Sorted.{IsStrictlyIncreasing}
use Rattle.heap_layout.specs.declared.edition.Edition.{Edition}
use Rattle.heap_layout.specs.declared.fault.LayoutFault.{LayoutFault}
use Rattle.heap_layout.specs.declared.fault.LayoutFault.TheVariants.{OutOfMemory}
use Rattle.heap_layout.specs.Faults.{IsFirst}
use Rattle.heap_layout.specs.Heap.{from_address, is_start, object_at, starts}

-- One of these words is the address of the object that starts at index i.
pub record LeadTo (edition : Edition) (words : List ℕ) (from : List ℕ) (i : ℕ) : Type 0 where
  pub start : is_start (starts edition words) i ≡ true
  pub address : Contains from (from_address i)

-- The roots reach the object at an index: a root leads to it, or a reference of an object that they reach. Weak words
-- reach nothing.
pub data IsReachable (edition : Edition) (words roots : List ℕ) : ℕ → Type 0 where
  by_root : (i : ℕ) → LeadTo edition words roots i → IsReachable edition words roots i
  by_reference : (i j : ℕ) → IsReachable edition words roots i → LeadTo edition words (object_at edition words i).references j → IsReachable edition words roots j

-- These are the indices of the objects that the roots reach, rising.
pub record AreReachable (edition : Edition) (words roots marks : List ℕ) : Type 0 where
  pub rising : IsStrictlyIncreasing marks
  pub reachable : (i : ℕ) → Contains marks i → IsReachable edition words roots i
  pub all : (i : ℕ) → IsReachable edition words roots i → Contains marks i

-- the first fault of the list, or out of memory
abbrev pub RefusesFor : List LayoutFault → LayoutFault → Type 0
RefusesFor list OutOfMemory = Unit {0}
RefusesFor list fault = IsFirst list fault
