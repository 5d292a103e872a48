-- The command line as it is defined for clap.
use Rattle.std.specs.Prelude.{Bool, Some, List, [], ◌∷◌, codes, true, false, map, ◌++◌, option_map}
use Rattle.clap.specs.Words.{App, Rule, Shape, new_app, new_rule}
use Rattle.clap.specs.declared.builder.action.ArgAction.TheVariants.{SetTrue}
use Rattle.clap.specs.declared.builder.value_parser.ValueParser.TheVariants.{Unsigned}
use Rattle.command_line.specs.Forms.{Choice, Form, Parameter, audit_form, map_form, moved_form, next_form, plan_form, run_form, workers_form, word_form}

-- an argument: it is required, and if it is a number its parser takes the numbers within its bounds
abbrev pub rule : Parameter → Rule
rule a = record (new_rule a.id) { required = true; parser = option_map (λ b. Unsigned b.0 b.1) a.bounds }

-- what an option takes: its long name is its name, help shows one name for its number, and it may be left out
abbrev pub optional_rule : Parameter → Rule
optional_rule p = record (rule p) { required = false; long = Some p.id; value_names = 1 }

-- an option; clap is given no default for it
abbrev pub option_rule : Choice → Rule
option_rule o = optional_rule o.takes

-- a switch: its long name is its name, and it takes no value, but is true if it is given
abbrev pub switch_rule : Parameter → Rule
switch_rule s = record (new_rule s.id) { long = Some s.id; action = Some SetTrue }

-- the options, the switches and the arguments of a command
abbrev pub rules_of_form : Form → List Rule
rules_of_form form = map option_rule form.options ++ (map switch_rule form.switches ++ map rule form.arguments)

-- a command, with what it takes
abbrev pub command : Form → App
command form = record (new_app form.name) { top = record (new_app form.name).top { rules = rules_of_form form } }

-- one of the commands is required, the words do not begin with the program's name, and the program has a version
abbrev pub asked_of_all : Shape → Shape
asked_of_all top = record top { has_version = true; no_binary_name = true; subcommand_required = true; is_leaf = false }

-- the program before it has a command
abbrev pub bare_program : App
bare_program = record (new_app (codes "compressor")) { top = record (asked_of_all (new_app (codes "compressor")).top) { is_leaf = true } }

-- the program with these commands
abbrev pub program : List Form → App
program forms = record { top = asked_of_all (new_app (codes "compressor")).top; subs = map (λ form. (command form).top) forms }

-- the commands of the program, for words with `--reachable` and for others
abbrev pub standing : Bool → List Form
standing by_reach =
    plan_form ∷ word_form ∷ run_form (codes "replay") ∷ run_form (codes "race") ∷ workers_form (codes "compact") (codes "DUMP") ∷ audit_form ∷ next_form by_reach
    ∷ workers_form (codes "mark") (codes "NEW") ∷ workers_form (codes "collect") (codes "NEW") ∷ moved_form ∷ map_form ∷ []
