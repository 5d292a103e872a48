-- What the text of marks says, line by line.
use Rattle.std.specs.Prelude.{◌≡◌, ℕ, ◌+◌, ◌^◌, ◌<◌, ◌==◌, List, [], ◌∷◌, Option, None, Some, Result, Ok, Err, length, nat_le, option_and_then, if◌then◌else◌}
use Rattle.comp_trace.specs.Grammar.{number_of, parts}
use Rattle.comp_trace.specs.Fronts.{NumberBefore}
use Rattle.comp_trace.specs.declared.text.marks.MarksFault.{MarksFault}
use Rattle.comp_trace.specs.declared.text.marks.MarksFault.TheVariants.{BadMarks, OutOfMemory}

-- the number, if it fits 32 bits
abbrev pub short_number : ℕ → Option ℕ
short_number n = if nat_le (2 ^ 32) n then None else Some n

-- the mark of a line
abbrev pub mark_of : List ℕ → Option ℕ
mark_of line = option_and_then short_number (number_of line)

-- the text begins with the mark, then a line feed, then the rest
abbrev pub MarkBefore : List ℕ → ℕ → List ℕ → Type 0
MarkBefore text mark rest = (mark < 2 ^ 32) × NumberBefore 10 text mark rest

-- the mark of line n and the marks that were read after it; or n, if the line is not a mark
abbrev pub mark_before : ℕ → Option ℕ → Result (List ℕ) ℕ → Result (List ℕ) ℕ
mark_before n None read = Err n
mark_before n (Some mark) (Ok marks) = Ok (mark ∷ marks)
mark_before n (Some mark) (Err line) = Err line

-- the marks from line n on, or the number of the first line that is not a mark
abbrev pub marks_from : ℕ → List (List ℕ) → Result (List ℕ) ℕ
marks_from n [] = Ok []
marks_from n (last ∷ []) = if length last == 0 then Ok [] else Err n
marks_from n (line ∷ next ∷ more) = mark_before n (mark_of line) (marks_from (n + 1) (next ∷ more))

-- the marks of a text, one a line, each line ended by a line feed
abbrev pub marks_of : List ℕ → Result (List ℕ) ℕ
marks_of text = marks_from 1 (parts 10 text)

-- why there are no marks: the first line that is not a mark, or out of memory
abbrev pub RefusesMarks : MarksFault → Result (List ℕ) ℕ → Type 0
RefusesMarks (BadMarks n) read = read ≡ Err n
RefusesMarks OutOfMemory read = Unit {0}
