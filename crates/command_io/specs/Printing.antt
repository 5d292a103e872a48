-- What is printed, and what a refusal leaves of the output.
use Rattle.std.specs.Prelude.{◌≡◌, ℕ, ◌+◌, Bool, true, List, ◌∷◌, [], ◌++◌, Result, Ok, Err, codes}
use Rattle.std.specs.Fmt.{decimal}
use Rattle.std.specs.Str.{trim_end}
use Rattle.command_io.specs.declared.refusal.CommandRefusal.{CommandRefusal}
use Rattle.command_io.specs.declared.refusal.CommandRefusal.TheVariants.{CannotPrint}

-- a number as it is printed: its decimal digits and a line feed
abbrev pub line_of : ℕ → List ℕ
line_of number = decimal number ++ 10 ∷ []

-- a name, a number and a line feed
abbrev pub named : List ℕ → ℕ → List ℕ
named name number = name ++ line_of number

-- a name and a number, then a second name, a second number and a line feed
abbrev pub numbered : List ℕ → ℕ → List ℕ → ℕ → List ℕ
numbered name number second value = name ++ decimal number ++ named second value

-- a text of help as it is printed: without white space at its end, and with a line feed
abbrev pub help_lines : List ℕ → List ℕ
help_lines text = trim_end text ++ 10 ∷ []

-- the program's name and version as they are printed, with a line feed
abbrev pub version_line : List ℕ
version_line = codes "compressor 1.0.0" ++ 10 ∷ []

-- a call answers `CannotPrint` if and only if one more call of the output failed
abbrev pub CountsPrint : {T : Type 0} → ℕ → ℕ → Result T CommandRefusal → Type 0
CountsPrint before after (Ok _) = after ≡ before
CountsPrint before after (Err CannotPrint) = after ≡ before + 1
CountsPrint before after (Err _) = after ≡ before

-- a refusal for another cause than the output leaves an output flushed that was flushed before: whatever was printed
-- for it was flushed
abbrev pub LeavesFlushed : Bool → Bool → CommandRefusal → Type 0
LeavesFlushed before after refusal = (refusal ≡ CannotPrint → ⊥) → before ≡ true → after ≡ true
