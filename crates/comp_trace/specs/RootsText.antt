-- What the text of roots says, line by line.
use Rattle.std.specs.Prelude.{◌≡◌, ℕ, ◌+◌, ◌^◌, ◌<◌, ◌==◌, ◌||◌, List, [], ◌∷◌, Option, None, Some, Result, Ok, Err, length, nat_le, option_and_then, if◌then◌else◌}
use Rattle.comp_trace.specs.Grammar.{numbers_of, parts}
use Rattle.comp_trace.specs.Fronts.{NumbersOfLine}
use Rattle.comp_trace.specs.declared.text.roots.NewRoot.{NewRoot}
use Rattle.comp_trace.specs.declared.text.roots.NewRoot.TheVariants.{Address, Register}
use Rattle.comp_trace.specs.declared.text.roots.RootsFault.{RootsFault}
use Rattle.comp_trace.specs.declared.text.roots.RootsFault.TheVariants.{BadRoots, OutOfMemory}

-- the root that the numbers of a line name: an address of 64 bits, or a register of a mutator
abbrev pub root_named : ℕ → List ℕ → Option NewRoot
root_named mutators (address ∷ []) = if nat_le (2 ^ 64) address then None else Some (Address address)
root_named mutators (mutator ∷ register ∷ []) = if nat_le mutators mutator || nat_le 16 register then None else Some (Register mutator register)
root_named mutators _ = None

-- the root of a line, whose numbers have blanks between them
abbrev pub new_root_of : ℕ → List ℕ → Option NewRoot
new_root_of mutators line = option_and_then (root_named mutators) (numbers_of (parts 32 line))

-- the text begins with the root, then a line feed, then the rest
abbrev pub RootBefore : ℕ → List ℕ → NewRoot → List ℕ → Type 0
RootBefore mutators text root rest = (ns : List ℕ) × NumbersOfLine text ns rest × (root_named mutators ns ≡ Some root)

-- the root of line n and the roots that were read after it; or n, if the line is not a root
abbrev pub root_before : ℕ → Option NewRoot → Result (List NewRoot) ℕ → Result (List NewRoot) ℕ
root_before n None read = Err n
root_before n (Some root) (Ok roots) = Ok (root ∷ roots)
root_before n (Some root) (Err line) = Err line

-- the roots from line n on, or the number of the first line that is not a root
abbrev pub new_roots_from : ℕ → ℕ → List (List ℕ) → Result (List NewRoot) ℕ
new_roots_from mutators n [] = Ok []
new_roots_from mutators n (last ∷ []) = if length last == 0 then Ok [] else Err n
new_roots_from mutators n (line ∷ next ∷ more) = root_before n (new_root_of mutators line) (new_roots_from mutators (n + 1) (next ∷ more))

-- the roots of a text, for this number of mutators: one a line, each line ended by a line feed
abbrev pub new_roots_of : ℕ → List ℕ → Result (List NewRoot) ℕ
new_roots_of mutators text = new_roots_from mutators 1 (parts 10 text)

-- if the root is a register, it is one of a mutator that there is
abbrev pub IsRootWithin : ℕ → NewRoot → Type 0
IsRootWithin mutators (Address address) = Unit {0}
IsRootWithin mutators (Register mutator register) = (mutator < mutators) × (register < 16)

-- why there are no roots: the first line that is not a root, or out of memory
abbrev pub RefusesRoots : RootsFault → Result (List NewRoot) ℕ → Type 0
RefusesRoots (BadRoots n) read = read ≡ Err n
RefusesRoots OutOfMemory read = Unit {0}
