-- What the words give to the arguments, options and switches of a command.
use Rattle.std.specs.Prelude.{◌≡◌, ℕ, ◌<◌, ◌≤◌, ◌^◌, ◌==◌, ◌&&◌, Bool, true, false, not, List, [], ◌∷◌, ◌++◌, Option, Some, None, codes, find, is_some, length, nat_lt, option_and_then, slice_index, IfSome, MatchOption}
use Rattle.std.specs.List.{All, list_all, list_any}
use Rattle.std.specs.Str.{bytes_eq}
use Rattle.std.specs.Str.Parse.{IsNumeral, digits_value, without_leading_plus}
use Rattle.command_line.specs.Forms.{Choice, Form, Parameter}

-- a flag: a hyphen, and at least one byte more
abbrev pub is_flag : List ℕ → Bool
is_flag word = slice_index word 0 == 45 && nat_lt 1 (length word)

-- the text is a number of 64 bits, in decimal digits, perhaps with a plus before them
pub record IsNumber (text : List ℕ) (number : ℕ) : Type 0 where
  pub numeral : IsNumeral 10 (without_leading_plus text)
  pub value : number ≡ digits_value 10 (without_leading_plus text)
  pub fits : number < 2 ^ 64

-- an argument or an option takes this text
abbrev pub Takes : Parameter → List ℕ → Type 0
Takes p text = IfSome p.bounds (λ b. (n : ℕ) × IsNumber text n × (b.0 ≤ n) × (n ≤ b.1))

-- a use of an argument or an option, with its text, or of a switch, which has none
abbrev pub Use : Type 0
Use = Parameter × Option (List ℕ)

-- the command has this option, and it is the first of its name
abbrev pub HasOption : Form → Choice → Type 0
HasOption form o = find (λ (other : Choice). bytes_eq other.takes.id o.takes.id) form.options ≡ Some o

-- the command has this switch, and it is the first of its name
abbrev pub HasSwitch : Form → Parameter → Type 0
HasSwitch form s = find (λ (other : Parameter). bytes_eq other.id s.id) form.switches ≡ Some s

-- The words after a command's name give these uses, if these arguments are still to come. Options and switches stand
-- anywhere before a first `--`. The text of an option is the next word, or follows its `=`. A switch is its name alone.
-- A word that is no flag goes to the next argument, and so does each word after `--` (`ended`).
pub data Gives (form : Form) : Bool → List Parameter → List (List ℕ) → List Use → Type 0 where
  no_word : {ended : Bool} {ahead : List Parameter} → Gives form ended ahead [] []
  then_values : {ahead : List Parameter} {word : List ℕ} {rest : List (List ℕ)} {given : List Use}
      → word ≡ codes "--" → Gives form true ahead rest given → Gives form false ahead (word ∷ rest) given
  to_next : {ended : Bool} {a : Parameter} {ahead : List Parameter} {word : List ℕ} {rest : List (List ℕ)} {given : List Use}
      → (ended ≡ false → is_flag word ≡ false) → Gives form ended ahead rest given → Gives form ended (a ∷ ahead) (word ∷ rest) ((a, Some word) ∷ given)
  apart : {o : Choice} {ahead : List Parameter} {word text : List ℕ} {rest : List (List ℕ)} {given : List Use}
      → HasOption form o → word ≡ codes "--" ++ o.takes.id → is_flag text ≡ false
      → Gives form false ahead rest given → Gives form false ahead (word ∷ text ∷ rest) ((o.takes, Some text) ∷ given)
  joined : {o : Choice} {ahead : List Parameter} {word text : List ℕ} {rest : List (List ℕ)} {given : List Use}
      → HasOption form o → word ≡ codes "--" ++ (o.takes.id ++ (codes "=" ++ text))
      → Gives form false ahead rest given → Gives form false ahead (word ∷ rest) ((o.takes, Some text) ∷ given)
  switched : {s : Parameter} {ahead : List Parameter} {word : List ℕ} {rest : List (List ℕ)} {given : List Use}
      → HasSwitch form s → word ≡ codes "--" ++ s.id → Gives form false ahead rest given → Gives form false ahead (word ∷ rest) ((s, None) ∷ given)

-- something is given under this name
abbrev pub is_among : List ℕ → List Use → Bool
is_among id given = list_any (λ (u : Use). bytes_eq id u.0.id) given

-- nothing is given twice
abbrev pub are_once : List Use → Bool
are_once [] = true
are_once (u ∷ rest) = not (is_among u.0.id rest) && are_once rest

-- the text that is given under a name; a switch has none
abbrev pub text_given : List ℕ → List Use → Option (List ℕ)
text_given id given = option_and_then (λ (u : Use). u.1) (find (λ (u : Use). bytes_eq u.0.id id) given)

-- the words are this command: each argument is given once, each option and each switch at most once, and each takes the
-- text that it is given
pub record IsCommandWith (form : Form) (words : List (List ℕ)) (given : List Use) : Type 0 where
  pub rest : List (List ℕ)
  pub begin : words ≡ form.name ∷ rest
  pub gives : Gives form false form.arguments rest given
  pub once : are_once given ≡ true
  pub fit : All (λ u. IfSome u.1 (Takes u.0)) given
  pub whole : list_all (λ (a : Parameter). is_some (text_given a.id given)) form.arguments ≡ true

-- the number that a text spells, or the default if there is no text
abbrev pub IsNumberOr : ℕ → Option (List ℕ) → ℕ → Type 0
IsNumberOr default text n = MatchOption text (n ≡ default) (λ digits. IsNumber digits n)

-- the number of an option: the one that is given, or its default
abbrev pub IsChosen : Choice → List Use → ℕ → Type 0
IsChosen o given n = IsNumberOr o.default (text_given o.takes.id given) n
