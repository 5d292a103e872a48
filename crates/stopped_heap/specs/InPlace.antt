-- Collections of the same heap into different memories, one of which may be that of the heap.
use Rattle.std.specs.Prelude.{◌≡◌, ℕ, List, take}

-- Two collections left the same: as many live words, the same roots and the same live words, and if both memories held
-- the same words before, the same words.
pub record HaveLeftTheSame (count other : ℕ) (roots other_roots before other_before after other_after : List ℕ) : Type 0 where
  pub live : count ≡ other
  pub roots_are : roots ≡ other_roots
  pub words : take count after ≡ take other other_after
  pub whole : before ≡ other_before → after ≡ other_after
