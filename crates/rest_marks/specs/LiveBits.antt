-- The bits of live words, set in parts.
use Rattle.std.specs.Prelude.{◌≡◌, ℕ, ◌+◌, ◌*◌, ◌<◌, true, List, length}
use Rattle.std.specs.Int.{bit_at}
use Rattle.heap_layout.specs.declared.edition.Edition.{Edition}
use Rattle.heap_layout.specs.Bits.{bit}
use Rattle.rest_marks.specs.Reached.{IsWordOf}

-- The bits of a part that begins at word `base`: those of the words of the marked objects before index `next`, and no
-- others.
pub record AreLiveTo (edition : Edition) (words heads : List ℕ) (base next : ℕ) (part : List ℕ) : Type 0 where
  pub set : (n : ℕ) → bit part n ≡ true → (i : ℕ) × (i < next) × (bit heads i ≡ true) × IsWordOf edition words i (base + n)
  pub all : (i n : ℕ) → i < next → bit heads i ≡ true → n < 64 * length part → IsWordOf edition words i (base + n) → bit part n ≡ true

-- the bits of block b: those of the words of the marked objects, and no others
pub record IsLiveBlock (edition : Edition) (words heads : List ℕ) (b block : ℕ) : Type 0 where
  pub set : (n : ℕ) → n < 64 → bit_at block n ≡ 1 → (i : ℕ) × (bit heads i ≡ true) × IsWordOf edition words i (64 * b + n)
  pub all : (i n : ℕ) → n < 64 → bit heads i ≡ true → IsWordOf edition words i (64 * b + n) → bit_at block n ≡ 1
