-- The immediates that lines put into registers.
use Rattle.std.specs.Prelude.{◌≡◌, ℕ, ◌+◌, ◌^◌, false}
use Rattle.heap_layout.specs.Values.{is_immediate, IsImmediate}
use Rattle.comp_mutator.specs.Setup.{Setup}
use Rattle.comp_mutator.specs.Refusal.{Refusal}
use Rattle.comp_mutator.specs.Refusal.TheVariants.{NotInEdition}

-- the word with this payload and its top bit set; payloads are below 2 ^ 63
abbrev pub immediate : ℕ → ℕ
immediate payload = 2 ^ 63 + payload

-- the word is the immediate with this payload, and the heap's edition has immediates
abbrev pub IsImmediateWith : Setup → ℕ → ℕ → Type 0
IsImmediateWith u payload word = (word ≡ immediate payload) × IsImmediate u.heap.edition word

-- a line is refused the immediate with this payload, since the heap's edition has no immediates
abbrev pub HasNoImmediate : Setup → ℕ → Refusal → Type 0
HasNoImmediate u payload refusal = (refusal ≡ NotInEdition) × (is_immediate u.heap.edition (immediate payload) ≡ false)
