-- Lines that are too long: longer than any line of a trace, of marks or of roots without a fault.
use Rattle.std.specs.Prelude.{ℕ, ◌-◌, ◌==◌, List, [], ◌∷◌, if◌then◌else◌}

-- the greatest number of bytes of a line, its line feed not counted
abbrev pub longest : ℕ
longest = 1024

-- what is read of a text in whose first line there is room for this many bytes, and in each later one for `most`: all
-- of it, or the text up to the first byte for which its line has no room
unfoldable pub read_by : ℕ → ℕ → List ℕ → List ℕ
read_by most room [] = []
read_by most room (byte ∷ text) =
    if byte == 10 then byte ∷ read_by most most text
    else if room == 0 then byte ∷ []
    else byte ∷ read_by most (room - 1) text

-- what is read of a text: all of it, or the text up to the byte by which a line is too long
unfoldable pub read_of : List ℕ → List ℕ
read_of text = read_by longest longest text
