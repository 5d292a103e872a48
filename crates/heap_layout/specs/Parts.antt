-- The answers of a call that reads a whole part, if it fails.
use Rattle.std.specs.Prelude.{◌≡◌, ℕ, ◌+◌, ◌<◌, List, length, Result, Ok, Err}
use Rattle.heap_layout.specs.declared.parts.Cut.{Cut}
use Rattle.heap_layout.specs.declared.parts.Cut.TheVariants.{Ended, Failed}

-- why reading n bytes was cut short: there are fewer, or a call of the device failed
abbrev pub CutsBefore : ℕ → Cut → List ℕ → Type 0
CutsBefore n Ended bytes = length bytes < n
CutsBefore n Failed bytes = Unit {0}

-- one more call of the device has failed if the answer is `Failed`, and otherwise none
abbrev pub CountsCut : {T : Type 0} → ℕ → ℕ → Result T Cut → Type 0
CountsCut before after (Ok _) = after ≡ before
CountsCut before after (Err Ended) = after ≡ before
CountsCut before after (Err Failed) = after ≡ before + 1
