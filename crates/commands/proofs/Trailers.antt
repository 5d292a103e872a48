-- What trailers say.
use Rattle.std.proofs.Common.{◌≡◌, ℕ, List, ◌++◌, inr, refl}
use Rattle.commands.specs.LongVersion.{trailer, trailer_head, unpacked, IsTold}

-- a file whose last bytes begin otherwise says nothing
pub no_head : (bytes : List ℕ) → ((rest : List ℕ) → trailer bytes ≡ trailer_head ++ rest → ⊥) → IsTold bytes unpacked
no_head bytes none = inr ((λ other says. none other says.0), refl)
