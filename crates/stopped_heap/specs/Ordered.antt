-- Objects that wait for their finalizers, in order; and weak words that become null before these see their objects.
use Rattle.std.specs.Prelude.{◌≡◌, ℕ, ◌-◌, ◌^◌, ◌<◌, ◌≤◌, if◌then◌else◌, List, ◌++◌, length, filter, slice_index}
use Rattle.std.specs.List.{flat_map}
use Rattle.heap_layout.specs.declared.edition.Edition.{Edition}
use Rattle.heap_layout.specs.Heap.{is_value, object_at}
use Rattle.rest_marks.specs.Growing.{roots_on}
use Rattle.stopped_heap.specs.Guarded.{is_lost}
use Rattle.rest_marks.specs.Reached.{AreReached, IsReachedFrom}

-- the references of the objects to which these words lead, but not the objects
abbrev pub references_of_all : Edition → List ℕ → List ℕ → List ℕ
references_of_all edition words waiting = flat_map (λ word. (object_at edition words (word - 2 ^ 32)).references) waiting

-- a word is the address of one of the words
abbrev pub IsAddress : List ℕ → ℕ → Type 0
IsAddress words word = (2 ^ 32 ≤ word) × (word - 2 ^ 32 < length words)

-- roots reach each object to which these words lead
abbrev pub ReachEach : Edition → List ℕ → List ℕ → List ℕ → Type 0
ReachEach edition words roots waiting = (k : ℕ) → k < length waiting → IsReachedFrom edition words roots (slice_index waiting k - 2 ^ 32)

-- The words of objects that wait stand in another order: first those of the `ready` ones, then the other ones, both in
-- the order that they had. An object waits if it is not among those at `marks`, which are kept already. It is ready if
-- it is not among those at `led`: these are kept already, or a reference of an object that waits leads there.
pub record IsOrdering (edition : Edition) (words marks before after : List ℕ) (ready : ℕ) (led : List ℕ) : Type 0 where
  pub reached : AreReached edition words (roots_on marks (references_of_all edition words (filter (is_lost edition marks) before))) led
  pub order : after ≡ filter (is_lost edition led) before ++ filter (is_value edition led) before
  pub count : ready ≡ length (filter (is_lost edition led) before)

-- there are such objects at `led`, and only these
abbrev pub AreOrdered : Edition → List ℕ → List ℕ → List ℕ → List ℕ → ℕ → Type 0
AreOrdered edition words marks before after ready = (led : List ℕ) × IsOrdering edition words marks before after ready led

-- a weak word that leads to no marked object is null, any other one is as it was
abbrev pub or_null : Edition → List ℕ → ℕ → ℕ
or_null edition marks word = (if is_value edition marks word then word else 0)
