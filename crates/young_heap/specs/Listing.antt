-- Why words that the mutator lists are not remembered.
use Rattle.std.specs.Prelude.{◌≡◌, ℕ, ◌+◌, ◌<◌, ◌≤◌, ◌⊎◌, true, List}
use Rattle.heap_layout.specs.declared.edition.Edition.{Edition}
use Rattle.heap_layout.specs.Bits.{bit}
use Rattle.heap_layout.specs.Header.{refs_of, weak_of}
use Rattle.heap_layout.specs.Heap.{header_at}
use Rattle.reachability.specs.Queue.{has}
use Rattle.young_heap.specs.Young.{AreOld}
use Rattle.young_heap.specs.declared.listing.Misfit.{Misfit}
use Rattle.young_heap.specs.declared.listing.Misfit.TheVariants.{Memory, NotAField}

-- word k is a reference or a weak word of an old object
abbrev pub IsField : Edition → List ℕ → List ℕ → ℕ → ℕ → Type 0
IsField edition words starts old k = (i : ℕ) × (i < old) × (bit starts i ≡ true) × (i < k)
    × (k ≤ i + refs_of (header_at edition words i) + weak_of (header_at edition words i))

-- each that is listed is one
abbrev pub AreFields : Edition → List ℕ → List ℕ → ℕ → List ℕ → Type 0
AreFields edition words starts old list = (k : ℕ) → has list k ≡ true → IsField edition words starts old k

-- word k is listed, and if the words below are a row of objects, it is no reference and no weak word of one
abbrev pub IsListedAmiss : Edition → List ℕ → List ℕ → ℕ → List ℕ → ℕ → Type 0
IsListedAmiss edition words starts old list k =
    (has list k ≡ true) × (AreOld edition words starts old → IsField edition words starts old k → ⊥)

-- the word is one of the list
abbrev pub IsMisfitOf : Edition → List ℕ → List ℕ → ℕ → List ℕ → Misfit → Type 0
IsMisfitOf edition words starts old list Memory = Unit {0}
IsMisfitOf edition words starts old list (NotAField k) = IsListedAmiss edition words starts old list k

-- memory ran out only because there was room for fewer fields, or for fewer weak words, than there are words below
abbrev pub IsMisfitShort : ℕ → ℕ → ℕ → Misfit → Type 0
IsMisfitShort old fields weaks Memory = (fields < old) ⊎ (weaks < old)
IsMisfitShort old fields weaks (NotAField k) = Unit {0}
