-- The steps by which a command takes its words, if no argument takes several values.
use Rattle.std.proofs.Common.{◌≡◌, ◌∙◌, ℕ, Bool, refl, sym, ap, true, false, List, [], ◌∷◌, Option, Some, None, codes, true≢false}
use Rattle.std.specs.List.{fold}
use Rattle.std.specs.Str.{bytes_eq}
use Rattle.std.proofs.lemmas.Slice.Eq.{bytes_eq-Decides}
use Rattle.clap.specs.Lexer.{long_of}
use Rattle.clap.specs.Walk.{Held, Names, Row, Rule, Text, Walk, idle, option, value}
use Rattle.clap.specs.Walk.{arg_by_id, arg_by_index, arg_by_long, finished, most_values, settled, settled_rows, subcommand_met, takes_values, to_positional, used, walked}
use Rattle.clap.specs.Kinds.{Kinds, or_else}
use Rattle.clap.specs.Simple.{Shape, filled, help_rule}
use Rattle.clap.specs.Faults.{check_fault, defaults_fault, settle_fault, step_fault, turn_fault, use_fault, walk_fault}
use Rattle.command_line.specs.Given.{is_flag}
use Rattle.command_line.proofs.KindLists.{or_else_in, or_else_nil}
use Rattle.command_line.proofs.Levels.{level}
use Rattle.command_line.proofs.Lexed.{plain_read}

-- ---- positions of a walk

-- what is held if no bundle is cut short
abbrev pub holding : List Row → Option (Text × List Text) → Held
holding rows pending = record { rows = rows; pending = pending; skip = 0 }

-- between two words, while nothing waits for a value
abbrev pub at : List Row → Option (Text × List Text) → ℕ → Bool → Walk
at rows pending position is_trailing = record {
  held = holding rows pending;
  waiting = idle;
  position = position;
  is_trailing = is_trailing;
  stopped = None;
}

-- what is held after the words
abbrev pub end_from : Shape → Walk → List Text → Held
end_from s w words = (fold (walked s.rules []) w words).held

-- what is wrong at the end of the words
abbrev pub end_fault : Shape → Held → Kinds
end_fault s end =
    or_else (settle_fault s.rules s.args_override_self end)
    (or_else (defaults_fault (settled s.rules end).rows s.rules) (check_fault s (finished s.rules end) false))

-- what is wrong with the words that are still to come
unfoldable pub fault_from : Shape → Walk → List Text → Kinds
fault_from s w words = or_else (walk_fault s [] w words) (end_fault s (end_from s w words))

-- what is wrong with all the words is what is wrong from the first position on
pub level_is : (s : Shape) (rest : List Text) → level s rest ≡ fault_from s (at [] None 1 false) rest
unfolding fault_from
level_is s rest = refl

-- with no word left it is what is wrong at the end
pub fault_at_end : (s : Shape) (w : Walk) → fault_from s w [] ≡ end_fault s w.held
unfolding fault_from walk_fault
fault_at_end s w = refl

-- with one more word it is what is wrong with that word, or else with those after it
pub fault_after : (s : Shape) (w : Walk) (word : Text) (rest : List Text)
    → fault_from s w (word ∷ rest) ≡ or_else (turn_fault s [] w word) (fault_from s (walked s.rules [] w word) rest)
unfolding fault_from walk_fault
fault_after s w word rest = or_else_in (turn_fault s [] w word) (walk_fault s [] (walked s.rules [] w word) rest) (end_fault s (end_from s w (word ∷ rest)))

-- ---- what a word that is a value does

-- what is wrong with a value at a position
abbrev pub value_fault : Shape → List Row → Option (Text × List Text) → ℕ → Kinds
value_fault s rows pending position = step_fault s position (holding rows pending) value

-- the position after a value
abbrev pub behind : Shape → List Row → Option (Text × List Text) → ℕ → Bool → Text → Walk
behind s rows pending position is_trailing word =
    to_positional s.rules (arg_by_index s.rules position) word (at rows pending position is_trailing) (holding rows pending)

module _ (s : Shape) (rows : List Row) (pending : Option (Text × List Text)) (position : ℕ) where
  -- after a first `--` each word is a value, and the next position is the one after that value
  pub trailing_place : (word : Text) → walked s.rules [] (at rows pending position true) word ≡ behind s rows pending position true word
  unfolding walked
  trailing_place word = refl

  -- before it a word that is neither a flag nor `--` is a value, and has the faults of that value
  pub plain_turn : (word : Text) → bytes_eq word (codes "--") ≡ false → is_flag word ≡ false
      → turn_fault s [] (at rows pending position false) word ≡ value_fault s rows pending position
  plain_turn word dashes flag = rw (dashes, (plain_read word flag).0, (plain_read word flag).1)

  -- and the next position is the one after that value
  pub plain_place : (word : Text) → bytes_eq word (codes "--") ≡ false → is_flag word ≡ false
      → walked s.rules [] (at rows pending position false) word ≡ behind s rows pending position false word
  unfolding walked
  plain_place word dashes flag = rw (dashes, (plain_read word flag).0, (plain_read word flag).1)

  -- a first `--` is no fault
  pub dashes_turn : (word : Text) → bytes_eq word (codes "--") ≡ true → turn_fault s [] (at rows pending position false) word ≡ []
  dashes_turn word dashes = rw dashes

  -- and says that values alone follow
  pub dashes_place : (word : Text) → bytes_eq word (codes "--") ≡ true → walked s.rules [] (at rows pending position false) word ≡ at rows pending position true
  unfolding walked
  dashes_place word dashes = rw dashes

  -- a word that names no command has the faults that it has if there are no commands
  pub unnamed_turn : (names : Names) (word : Text) → subcommand_met names idle word ≡ None
      → turn_fault s names (at rows pending position false) word ≡ turn_fault s [] (at rows pending position false) word
  unnamed_turn names word none = rw none refl

-- the help flag of a built command
abbrev pub built_help : Rule
built_help = filled help_rule

-- ---- what an option does

-- an option was met, and waits for its text
abbrev pub waiting_for : List Row → Text → ℕ → Walk
waiting_for rows id position = record (at rows (Some (id, [])) position false) { waiting = option id }

-- a word that is no flag is not `--`
pub plain_ends_nothing : (word : Text) → is_flag word ≡ false → bytes_eq word (codes "--") ≡ false
plain_ends_nothing word flag = go (bytes_eq word (codes "--")) refl
  where
    go : (t : Bool) → bytes_eq word (codes "--") ≡ t → t ≡ false
    go false e = refl
    go true e = absurd (true≢false (sym (ap is_flag ((bytes_eq-Decides word (codes "--")).0 e)) ∙ flag))

module _ (s : Shape) (rows : List Row) (pending : Option (Text × List Text)) (position : ℕ) (word : Text) (dashes : bytes_eq word (codes "--") ≡ false) (a : Rule) where
  -- an option with its text in the same word is used at once, after what is pending
  pub joined_turn : (name text : Text) → long_of word ≡ Some (name, Some text) → arg_by_long s.rules name ≡ Some a → takes_values a ≡ true
      → turn_fault s [] (at rows pending position false) word
      ≡ or_else (settle_fault s.rules s.args_override_self (holding rows pending)) (use_fault s.args_override_self a (text ∷ []) (settled_rows s.rules pending rows))
  joined_turn name text read found takes = rw (dashes, read, found, takes) (or_else_nil _)

  pub joined_place : (name text : Text) → long_of word ≡ Some (name, Some text) → arg_by_long s.rules name ≡ Some a → takes_values a ≡ true
      → walked s.rules [] (at rows pending position false) word ≡ at (used a (text ∷ []) (settled_rows s.rules pending rows)) None position false
  unfolding walked
  joined_place name text read found takes = rw (dashes, read, found, takes) refl

  -- an option without one settles what is pending, and waits
  pub option_turn : (name : Text) → long_of word ≡ Some (name, None) → arg_by_long s.rules name ≡ Some a → takes_values a ≡ true
      → turn_fault s [] (at rows pending position false) word ≡ settle_fault s.rules s.args_override_self (holding rows pending)
  option_turn name read found takes = rw (dashes, read, found, takes) (or_else_nil _)

  pub option_place : (name : Text) → long_of word ≡ Some (name, None) → arg_by_long s.rules name ≡ Some a → takes_values a ≡ true
      → walked s.rules [] (at rows pending position false) word ≡ waiting_for (settled_rows s.rules pending rows) a.id position
  unfolding walked
  option_place name read found takes = rw (dashes, read, found, takes) refl

  -- a switch is used at once, after what is pending
  pub switch_turn : (name : Text) → long_of word ≡ Some (name, None) → arg_by_long s.rules name ≡ Some a → takes_values a ≡ false
      → turn_fault s [] (at rows pending position false) word
      ≡ or_else (settle_fault s.rules s.args_override_self (holding rows pending)) (use_fault s.args_override_self a [] (settled_rows s.rules pending rows))
  switch_turn name read found takes = rw (dashes, read, found, takes) (or_else_nil _)

  pub switch_place : (name : Text) → long_of word ≡ Some (name, None) → arg_by_long s.rules name ≡ Some a → takes_values a ≡ false
      → walked s.rules [] (at rows pending position false) word ≡ at (used a [] (settled_rows s.rules pending rows)) None position false
  unfolding walked
  switch_place name read found takes = rw (dashes, read, found, takes) refl

-- the word after an option is its text, if it is no flag
module _ (s : Shape) (rows : List Row) (id : Text) (position : ℕ) (word : Text) (flag : is_flag word ≡ false) where
  pub text_turn : turn_fault s [] (waiting_for rows id position) word ≡ []
  text_turn = let none = plain_read word flag in rw (plain_ends_nothing word flag, none.0, none.1) refl

  pub text_place : (a : Rule) → arg_by_id s.rules id ≡ Some a → bytes_eq id a.id ≡ true → most_values a ≡ 1
      → walked s.rules [] (waiting_for rows id position) word ≡ at rows (Some (id, word ∷ [])) position false
  unfolding walked
  text_place a found named one = let none = plain_read word flag in rw (plain_ends_nothing word flag, none.0, none.1, found, named, one) refl
