-- What a call that writes does to the bytes of a writer, if these are known.
use Rattle.std.specs.Prelude.{◌≡◌, ℕ, List, take, Option, Result, Ok, Err}
use Rattle.std.specs.Io.KnownBytes.{Appends}
use Rattle.heap_layout.specs.Counted.{one_more}

-- the bytes grew by a beginning of a part
pub record AppendsSome (before after : Option (List ℕ)) (part : List ℕ) : Type 0 where
  pub taken : ℕ
  pub bytes : Appends before after (take taken part)

-- an Ok call wrote the whole part, and a failed call wrote a beginning of it
abbrev pub Writes : {E : Type 0} → Option (List ℕ) → Option (List ℕ) → List ℕ → Result (Unit {0}) E → Type 0
Writes before after part (Ok _) = Appends before after part
Writes before after part (Err _) = AppendsSome before after part

-- one more call of the device has failed if the answer is an error, and otherwise none
abbrev pub CountsOne : {T E : Type 0} → ℕ → ℕ → Result T E → Type 0
CountsOne before after (Ok _) = after ≡ before
CountsOne before after (Err _) = after ≡ one_more before
