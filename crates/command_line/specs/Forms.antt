-- The commands of the program: the name of each, its options, its switches and its arguments.
use Rattle.std.specs.Prelude.{ℕ, Bool, cond, List, [], ◌∷◌, Option, Some, None, codes}

-- An argument, an option or a switch, by its name. An argument or an option takes any text, or a number from the first
-- bound to the second. A switch takes no text.
pub record Parameter : Type 0 where
  pub id : List ℕ
  pub bounds : Option (ℕ × ℕ)

-- an option: what it takes, and the number that counts if it is left out
pub record Choice : Type 0 where
  pub takes : Parameter
  pub default : ℕ

-- a command: its name, its options, its switches, and its arguments in their order, all of them required
pub record Form : Type 0 where
  pub name : List ℕ
  pub options : List Choice
  pub switches : List Parameter
  pub arguments : List Parameter

-- a switch, or what takes any text
abbrev pub named : List ℕ → Parameter
named id = record { id = id; bounds = None }

-- what takes a number from `low` to `high`
abbrev pub number_within : List ℕ → ℕ → ℕ → Parameter
number_within id low high = record { id = id; bounds = Some (low, high) }

-- an option that takes a number from `low` to `high`, and its default
abbrev pub number_option : List ℕ → ℕ → ℕ → ℕ → Choice
number_option id low high default = record { takes = number_within id low high; default = default }

-- an option that takes a path; nothing counts if it is left out
abbrev pub path_option : List ℕ → Choice
path_option id = record { takes = named id; default = 0 }

-- `--mutators N`
abbrev pub mutators : Choice
mutators = number_option (codes "mutators") 1 64 2

-- `--fresh N`
abbrev pub fresh : Choice
fresh = number_option (codes "fresh") 0 4096 64

-- `--workers N`
abbrev pub workers : Choice
workers = number_option (codes "workers") 1 64 2

-- a command that has `--large` too, and the argument IMAGE before the others
abbrev pub command_form : List ℕ → List Choice → List Parameter → List Parameter → Form
command_form name options switches others = record {
  name = name;
  options = options;
  switches = named (codes "large") ∷ switches;
  arguments = named (codes "IMAGE") ∷ others;
}

-- `plan [--large] IMAGE`
abbrev pub plan_form : Form
plan_form = command_form (codes "plan") [] [] []

-- `word [--large] IMAGE INDEX`
abbrev pub word_form : Form
word_form = command_form (codes "word") [] [] (number_within (codes "INDEX") 0 18446744073709551615 ∷ [])

-- `NAME [--mutators N] [--fresh N] [--large] IMAGE TRACE DUMP`: `replay` and `race`
abbrev pub run_form : List ℕ → Form
run_form name = command_form name (mutators ∷ fresh ∷ []) [] (named (codes "TRACE") ∷ named (codes "DUMP") ∷ [])

-- `NAME [--workers N] [--large] IMAGE OUT`: `compact`, `mark` and `collect`
abbrev pub workers_form : List ℕ → List ℕ → Form
workers_form name out = command_form name (workers ∷ []) [] (named out ∷ [])

-- `audit [--large] [--whole] [--words] [--explain] IMAGE DUMP`
abbrev pub audit_form : Form
audit_form = command_form (codes "audit") [] (named (codes "whole") ∷ named (codes "words") ∷ named (codes "explain") ∷ []) (named (codes "DUMP") ∷ [])

-- `next --reachable [--roots ROOTS] [--workers N] [--mutators N] [--fresh N] [--large] IMAGE TRACE NEW`, and without
-- `--reachable` `next [--mutators N] [--fresh N] [--large] IMAGE TRACE MARKS NEW`
abbrev pub next_form : Bool → Form
next_form by_reach =
    command_form (codes "next") (mutators ∷ fresh ∷ cond by_reach (path_option (codes "roots") ∷ workers ∷ []) []) (named (codes "reachable") ∷ [])
    (named (codes "TRACE") ∷ cond by_reach (named (codes "NEW") ∷ []) (named (codes "MARKS") ∷ named (codes "NEW") ∷ []))

-- `moved [--large] IMAGE MOVED`
abbrev pub moved_form : Form
moved_form = command_form (codes "moved") [] [] (named (codes "MOVED") ∷ [])

-- `map [--dump DUMP] [--large] IMAGE OUT`
abbrev pub map_form : Form
map_form = command_form (codes "map") (path_option (codes "dump") ∷ []) [] (named (codes "OUT") ∷ [])
