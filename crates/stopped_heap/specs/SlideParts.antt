-- Parts of the memory into which a heap slides.
use Rattle.std.specs.Prelude.{ℕ, ◌+◌, List, [], ◌∷◌, ◌++◌, take, drop}

-- parts of these lengths, one behind the other from word `first` on, each filled with the words that stand there, and
-- then joined
abbrev pub joined_parts : List ℕ → ℕ → List ℕ → List ℕ
joined_parts words first [] = []
joined_parts words first (count ∷ counts) = take count (drop first words) ++ joined_parts words (first + count) counts
