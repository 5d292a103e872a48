-- What a text begins with.
use Rattle.std.specs.Prelude.{◌≡◌, ℕ, ◌^◌, List, [], ◌∷◌, ◌++◌, length, map, codes, None, Some, Result, Ok}
use Rattle.comp_trace.specs.Grammar.{◌>>=◌, action_of, clipped, judged, line_with, number_of}
use Rattle.comp_trace.specs.declared.text.fault.TraceFault.{TraceFault}
use Rattle.comp_trace.specs.declared.text.line.Line.{Line}
use Rattle.comp_trace.specs.declared.text.name.Name.{Name}
use Rattle.comp_trace.specs.declared.text.name.Name.TheVariants.{Root, Load, Get, Store, Put, New, Nil, Immediate, WeakLoad, WeakStore, WeakNew}
use Rattle.comp_trace.specs.declared.text.numbers.Number.{Number}
use Rattle.comp_trace.specs.declared.text.numbers.Number.TheVariants.{Small, Large}

-- the size of a number; 2 ^ 64 stands for all numbers that do not fit 64 bits
abbrev pub size : Number → ℕ
size (Small n) = n
size Large = 2 ^ 64

-- the text begins with n, then this byte, then the rest
abbrev pub NumberBefore : ℕ → List ℕ → ℕ → List ℕ → Type 0
NumberBefore byte text n rest = (word : List ℕ) × (text ≡ word ++ byte ∷ rest) × (number_of word ≡ Some n)

-- the text begins with these numbers, with blanks between them, then a line feed, then the rest
abbrev pub NumbersOfLine : List ℕ → List ℕ → List ℕ → Type 0
NumbersOfLine text [] rest = ⊥
NumbersOfLine text (n ∷ []) rest = NumberBefore 10 text n rest
NumbersOfLine text (n ∷ next ∷ more) rest = (behind : List ℕ) × NumberBefore 32 text n behind × NumbersOfLine behind (next ∷ more) rest

-- the text begins with the numbers of a line, and these are the numbers clipped
abbrev pub ReadsNumbers : List ℕ → List ℕ → List ℕ → Type 0
ReadsNumbers text numbers rest = (ns : List ℕ) × (numbers ≡ map clipped ns) × NumbersOfLine text ns rest

-- the text does not begin with a line of this count of numbers
abbrev pub HasNone : ℕ → List ℕ → Type 0
HasNone count text = (ns rest : List ℕ) → length ns ≡ count → NumbersOfLine text ns rest → ⊥

-- the text after a name begins with the numbers of a line, and this is the line, judged with its numbers clipped
abbrev pub ReadsLine : ℕ → ℕ → ℕ → ℕ → List ℕ → List ℕ → Result Line TraceFault → List ℕ → Type 0
ReadsLine mutators roots n mutator name text line rest = (ns : List ℕ) × (line ≡ judged mutators roots n (line_with mutator name (map clipped ns))) × NumbersOfLine text ns rest

-- whatever numbers of a line the text begins with, the name has no action with them
abbrev pub HasNoAction : List ℕ → List ℕ → Type 0
HasNoAction name text = (ns rest : List ℕ) → NumbersOfLine text ns rest → action_of name ns ≡ None

-- a line, and the lines that are read after it
abbrev pub line_before : Line → Result (List Line) TraceFault → Result (List Line) TraceFault
line_before line read = read >>= λ lines. Ok (line ∷ lines)

-- how a name is written
abbrev pub written : Name → List ℕ
written Root = codes "root"
written Load = codes "load"
written Get = codes "get"
written Store = codes "store"
written Put = codes "put"
written New = codes "new"
written Nil = codes "nil"
written Immediate = codes "imm"
written WeakLoad = codes "wload"
written WeakStore = codes "wstore"
written WeakNew = codes "wnew"
