-- What a marking began with, and what is known of the objects that were met.
use Rattle.std.specs.Prelude.{ℕ, List}
use Rattle.atomic_table.specs.Seated.{TableId}
use Rattle.heap_layout.specs.declared.edition.Edition.{Edition}

-- A marking of so many words: the objects whose bits are set here were met at the beginning, and the table of the bits
-- has this name.
pub record Begun : Type 0 where
  pub edition : Edition
  pub count : ℕ
  pub met : List ℕ
  pub table : TableId

-- the objects of the table of this name of which is known that they were met, by their bits
pub record KnownMet : Type 0 where
  pub table : TableId
  pub bits : List ℕ
