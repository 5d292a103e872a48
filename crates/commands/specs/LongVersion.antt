-- The long version: what the program's own file says of what it was made of and proved by.
use Rattle.std.specs.Prelude.{◌≡◌, ◌⊎◌, ◌-◌, ℕ, List, [], ◌∷◌, ◌++◌, codes, drop, length, IsUtf8}
use Rattle.command_io.specs.Printing.{help_lines, version_line}
use Rattle.command_io.specs.declared.refusal.CommandRefusal.TheVariants.{OutOfMemory}
use Rattle.commands.specs.Outcome.{prints, stops, Outcome}

-- where the system has the program's own file
abbrev pub program_path : List ℕ
program_path = codes "/proc/self/exe"

-- the last 1,024 bytes of a file, or all if there are fewer
abbrev pub trailer : List ℕ → List ℕ
trailer bytes = drop (length bytes - 1024) bytes

-- the first line of a trailer
abbrev pub trailer_head : List ℕ
trailer_head = codes "compressor: made of and proved by" ++ 10 ∷ []

-- what is said if there is no trailer
abbrev pub unpacked : List ℕ
unpacked = codes "not packed: nothing here says what it was proved by"

-- the file ends with a trailer, which says this behind its first line, as a text
abbrev pub Says : List ℕ → List ℕ → Type 0
Says bytes text = (trailer bytes ≡ trailer_head ++ text) × IsUtf8 text

-- this is what the file says; or it says nothing
abbrev pub IsTold : List ℕ → List ℕ → Type 0
IsTold bytes text = Says bytes text ⊎ (((other : List ℕ) → ¬ (Says bytes other)) × (text ≡ unpacked))

-- the version's line is printed, and then what these bytes say, without white space at its end; or memory ran out
abbrev pub IsSaid : List ℕ → Outcome → Type 0
IsSaid bytes outcome = ((text : List ℕ) × IsTold bytes text × (outcome ≡ prints (help_lines (version_line ++ text)))) ⊎ (outcome ≡ stops [] OutOfMemory)
