-- The code of a kind in a dump.
use Rattle.std.specs.Prelude.{ℕ}
use Rattle.heap_layout.specs.declared.edition.Edition.{Edition}
use Rattle.heap_layout.specs.declared.edition.Edition.TheVariants.{One, Two, Three, Four}
use Rattle.heap_layout.specs.declared.kind.Kind.{Kind}
use Rattle.heap_layout.specs.declared.kind.Kind.TheVariants.{Header, Reference, Weak, Data}

abbrev pub kind_code : Kind → ℕ
kind_code Header = 0
kind_code Reference = 1
kind_code Data = 2
kind_code Weak = 3

-- the greatest code that an entry may have: edition one has no weak words
abbrev pub last_code : Edition → ℕ
last_code One = 2
last_code Two = 3
last_code Three = 3
last_code Four = 3
