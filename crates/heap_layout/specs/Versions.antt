-- The version numbers in images and dumps, and which of them are read.
use Rattle.std.specs.Prelude.{ℕ, Bool, true, false}
use Rattle.heap_layout.specs.declared.edition.Edition.{Edition}
use Rattle.heap_layout.specs.declared.edition.Edition.TheVariants.{One, Two, Three, Four}

abbrev pub version_of : Edition → ℕ
version_of One = 1
version_of Two = 2
version_of Three = 3
version_of Four = 4

-- A call that reads reads images or dumps of this edition. The calls for large heaps read those of all editions, the
-- others read those of editions one and two.
abbrev pub IsRead : Bool → Edition → Type 0
IsRead large One = Unit {0}
IsRead large Two = Unit {0}
IsRead true Three = Unit {0}
IsRead false Three = ⊥
IsRead true Four = Unit {0}
IsRead false Four = ⊥
