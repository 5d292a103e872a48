-- The roots with which the next cycle begins, if they are named at the end of a run.
use Rattle.std.specs.Prelude.{ℕ, List, Option, map, option_map, slice_index}
use Rattle.comp_trace.specs.declared.text.roots.NewRoot.{NewRoot}
use Rattle.comp_trace.specs.declared.text.roots.NewRoot.TheVariants.{Address, Register}

-- the word that a root names, where the registers of the mutators hold these words: an address, or what the register
-- holds
abbrev pub word_named : (ℕ → List ℕ) → NewRoot → ℕ
word_named registers (Address address) = address
word_named registers (Register mutator register) = slice_index (registers mutator) register

-- the words that the roots name, if roots are named
abbrev pub words_named : (ℕ → List ℕ) → Option (List NewRoot) → Option (List ℕ)
words_named registers named = option_map (map (word_named registers)) named
