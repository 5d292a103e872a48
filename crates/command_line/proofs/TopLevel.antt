-- What clap makes of the words, by the first of them.
use Rattle.std.proofs.Common.{◌≡◌, ◌∙◌, ◌⊎◌, ◌==◌, Option, Bool, cond, true, false, refl, sym, ap, ap₂, subst, List, [], ◌∷◌, ◌++◌, Some, None, All, IsUtf8, bytes_eq, codes, fold, inl, inr, is_some, map, arith}
use Rattle.std.specs.Prelude.{find}
use Rattle.std.proofs.lemmas.List.Elements.{All-head}
use Rattle.std.proofs.lemmas.Option.{same_Some}
use Rattle.std.proofs.lemmas.Slice.Eq.{bytes_eq-Decides}
use Rattle.clap.specs.Words.{IsAmong, Kinds, Rule, Shape, Text, fault_of, is_simple_and_free, subcommand_of}
use Rattle.clap.specs.Kinds.{or_else}
use Rattle.clap.specs.Simple.{built, entered, filled, label_of, names_of, version_rule}
use Rattle.clap.specs.Walk.{Names, Walk, answers_to, arg_by_long, finished, idle, nothing_held, rows_after, settled, subcommand_met, walk_from, walked}
use Rattle.clap.specs.Faults.{bundle_fault, check_fault, defaults_fault, entered_fault, flags_fault, long_fault, settle_fault, turn_fault, walk_fault, word_fault}
use Rattle.clap.specs.declared.error.kind.ErrorKind.{ErrorKind}
use Rattle.clap.specs.declared.error.kind.ErrorKind.TheVariants.{DisplayHelp, DisplayVersion, InvalidSubcommand, MissingSubcommand, TooManyValues, UnknownArgument}
use Rattle.clap.proofs.FaultLemmas.{stopped_fault}
use Rattle.clap.proofs.OnLiterals.{clap_on_literals}
use Rattle.clap.proofs.WalkLemmas.{walk_stopped}
use Rattle.command_line.specs.AskedTasks.{is_help, is_version}
use Rattle.command_line.specs.Given.{is_flag}
use Rattle.command_line.specs.Forms.{Form, audit_form, map_form, moved_form, next_form, plan_form, run_form, workers_form, word_form}
use Rattle.command_line.specs.Parser.{program, standing}
use Rattle.std.proofs.lemmas.Bool.{eqb-true}
use Rattle.command_line.proofs.Lexed.{IsBundle, IsLong, flag_read}
use Rattle.command_line.proofs.KindLists.{NoAnswer, no_answer_among, or_else_nil}
use Rattle.command_line.proofs.Levels.{level, shape}
use Rattle.command_line.proofs.LevelSteps.{built_help, plain_turn, unnamed_turn}
use Rattle.command_line.proofs.FormLevel.{IsReadable}

-- the level above the commands
abbrev top : Shape
top = (built (program [])).top

-- the flags there: those for help and for the version
abbrev top_rules : List Rule
top_rules = built_help ∷ filled version_rule ∷ []

-- what the commands are called
abbrev pub names : List Form → Names
names forms = names_of (built (program forms))

-- where the walk over the words begins
abbrev start : Walk
start = walk_from nothing_held

-- ---- how a first word that no command takes is answered

-- the first word passes this test
abbrev pub BeginWith : (Text → Bool) → List Text → Type 0
BeginWith test words = (word : Text) × (rest : List Text) × (words ≡ word ∷ rest) × (test word ≡ true)

-- the kinds of words that no command takes: there is one, and one of an answer only if the first word asks for it
pub record AreRefused (words : List Text) (kinds : Kinds) : Type 0 where
  pub some : kinds ≡ [] → ⊥
  pub help : IsAmong DisplayHelp kinds → BeginWith is_help words
  pub version : IsAmong DisplayVersion kinds → BeginWith is_version words

-- the kinds of a first step are those of both
refused_first : (words : List Text) (kinds more : Kinds) → AreRefused words kinds → AreRefused words (or_else kinds more)
refused_first words [] more h = absurd (h.some refl)
refused_first words (kind ∷ kinds) more h = h

-- kinds without that of an answer refuse any words
refused : (words : List Text) (kind : ErrorKind) (kinds : Kinds) → NoAnswer (kind ∷ kinds) → AreRefused words (kind ∷ kinds)
refused words kind kinds none = record {
  some = λ e. cc;
  help = λ h. absurd (no_answer_among DisplayHelp refl (kind ∷ kinds) none h);
  version = λ h. absurd (no_answer_among DisplayVersion refl (kind ∷ kinds) none h);
}

-- words of which the first is for help are answered with help
reported_help : (word : Text) (rest : List Text) (kinds : Kinds) → NoAnswer kinds → is_help word ≡ true → AreRefused (word ∷ rest) (DisplayHelp ∷ kinds)
reported_help word rest kinds none helps = record { some = λ e. cc; help = λ _. (word, rest, refl, helps); version = λ h. absurd (go h) }
  where
    go : IsAmong DisplayVersion (DisplayHelp ∷ kinds) → ⊥
    go (inl same) = cc
    go (inr h) = no_answer_among DisplayVersion refl kinds none h

-- and those of which the first is for the version with the version
reported_version : (word : Text) (rest : List Text) → is_version word ≡ true → AreRefused (word ∷ rest) (DisplayVersion ∷ [])
reported_version word rest asks = record { some = λ e. cc; help = λ h. absurd (go h); version = λ _. (word, rest, refl, asks) }
  where
    go : IsAmong DisplayHelp (DisplayVersion ∷ []) → ⊥
    go (inl same) = cc
    go (inr none) = none

-- ---- the commands

-- the form is that of a command which clap enters by its name, among these
pub record IsCommand (forms : List Form) (form : Form) : Type 0 where
  pub is_one : find (λ other. bytes_eq other.name form.name) forms ≡ Some form
  pub is_met : subcommand_met (names forms) idle form.name ≡ Some form.name
  pub is_entered : find (λ s. answers_to form.name (label_of s)) (built (program forms)).subs ≡ Some (shape form)
  pub is_not_help : bytes_eq form.name (codes "help") ≡ false
  pub is_readable : IsReadable form

-- so are these forms
abbrev pub AreCommands : List Form → List Form → Type 0
AreCommands forms [] = Unit {0}
AreCommands forms (form ∷ rest) = IsCommand forms form × AreCommands forms rest

-- the forms make a program of which clap says what it finds in the words, and by which kinds it fails
pub record IsProgram (forms : List Form) : Type 0 where
  pub is_free : is_simple_and_free (program forms) ≡ true
  pub are_commands : AreCommands forms forms
  -- by names
  pub named : names forms ≡ map (λ (form : Form). (form.name, [])) forms ++ (codes "help", []) ∷ []
  -- `help` is answered with help, or refused with the words after it
  pub help_first : (rest : List Text) → AreRefused (codes "help" ∷ rest) (fault_of (program forms) (codes "help" ∷ rest))
  -- after `--` a word is no command's name
  pub end_first : (rest : List Text) → AreRefused (codes "--" ∷ rest) (fault_of (program forms) (codes "--" ∷ rest))
  -- a command's name is missing if there is no word
  pub none_first : AreRefused [] (fault_of (program forms) [])

-- ---- the rows, each readable

plan_readable : IsReadable plan_form
plan_readable = record { distinct = refl; apart = refl; clear = refl; flags = record { options = refl; switches = refl; apart = refl }; few = omega arith }

word_readable : IsReadable word_form
word_readable = record { distinct = refl; apart = refl; clear = refl; flags = record { options = refl; switches = refl; apart = refl }; few = omega arith }

run_readable : (name : Text) → IsReadable (run_form name)
run_readable name = record { distinct = refl; apart = refl; clear = refl; flags = record { options = refl; switches = refl; apart = refl }; few = omega arith }

compact_readable : IsReadable (workers_form (codes "compact") (codes "DUMP"))
compact_readable = record { distinct = refl; apart = refl; clear = refl; flags = record { options = refl; switches = refl; apart = refl }; few = omega arith }

audit_readable : IsReadable audit_form
audit_readable = record { distinct = refl; apart = refl; clear = refl; flags = record { options = refl; switches = refl; apart = refl }; few = omega arith }

next_readable : (by_reach : Bool) → IsReadable (next_form by_reach)
next_readable true = record { distinct = refl; apart = refl; clear = refl; flags = record { options = refl; switches = refl; apart = refl }; few = omega arith }
next_readable false = record { distinct = refl; apart = refl; clear = refl; flags = record { options = refl; switches = refl; apart = refl }; few = omega arith }

new_readable : (name : Text) → IsReadable (workers_form name (codes "NEW"))
new_readable name = record { distinct = refl; apart = refl; clear = refl; flags = record { options = refl; switches = refl; apart = refl }; few = omega arith }

moved_readable : IsReadable moved_form
moved_readable = record { distinct = refl; apart = refl; clear = refl; flags = record { options = refl; switches = refl; apart = refl }; few = omega arith }

map_readable : IsReadable map_form
map_readable = record { distinct = refl; apart = refl; clear = refl; flags = record { options = refl; switches = refl; apart = refl }; few = omega arith }

-- ---- the program as it stands

pub standing_plan : (by_reach : Bool) → IsCommand (standing by_reach) plan_form
standing_plan by_reach = record { is_one = refl; is_met = refl; is_entered = refl; is_not_help = refl; is_readable = plan_readable }

pub standing_word : (by_reach : Bool) → IsCommand (standing by_reach) word_form
standing_word by_reach = record { is_one = refl; is_met = refl; is_entered = refl; is_not_help = refl; is_readable = word_readable }

pub standing_replay : (by_reach : Bool) → IsCommand (standing by_reach) (run_form (codes "replay"))
standing_replay by_reach = record { is_one = refl; is_met = refl; is_entered = refl; is_not_help = refl; is_readable = run_readable (codes "replay") }

pub standing_race : (by_reach : Bool) → IsCommand (standing by_reach) (run_form (codes "race"))
standing_race by_reach = record { is_one = refl; is_met = refl; is_entered = refl; is_not_help = refl; is_readable = run_readable (codes "race") }

pub standing_compact : (by_reach : Bool) → IsCommand (standing by_reach) (workers_form (codes "compact") (codes "DUMP"))
standing_compact by_reach = record { is_one = refl; is_met = refl; is_entered = refl; is_not_help = refl; is_readable = compact_readable }

pub standing_audit : (by_reach : Bool) → IsCommand (standing by_reach) audit_form
standing_audit by_reach = record { is_one = refl; is_met = refl; is_entered = refl; is_not_help = refl; is_readable = audit_readable }

pub standing_next : (by_reach : Bool) → IsCommand (standing by_reach) (next_form by_reach)
standing_next by_reach = record { is_one = refl; is_met = refl; is_entered = refl; is_not_help = refl; is_readable = next_readable by_reach }

pub standing_mark : (by_reach : Bool) → IsCommand (standing by_reach) (workers_form (codes "mark") (codes "NEW"))
standing_mark by_reach = record { is_one = refl; is_met = refl; is_entered = refl; is_not_help = refl; is_readable = new_readable (codes "mark") }

pub standing_collect : (by_reach : Bool) → IsCommand (standing by_reach) (workers_form (codes "collect") (codes "NEW"))
standing_collect by_reach = record { is_one = refl; is_met = refl; is_entered = refl; is_not_help = refl; is_readable = new_readable (codes "collect") }

pub standing_moved : (by_reach : Bool) → IsCommand (standing by_reach) moved_form
standing_moved by_reach = record { is_one = refl; is_met = refl; is_entered = refl; is_not_help = refl; is_readable = moved_readable }

pub standing_map : (by_reach : Bool) → IsCommand (standing by_reach) map_form
standing_map by_reach = record { is_one = refl; is_met = refl; is_entered = refl; is_not_help = refl; is_readable = map_readable }

standing_help : (by_reach : Bool) (rest : List Text) → AreRefused (codes "help" ∷ rest) (fault_of (program (standing by_reach)) (codes "help" ∷ rest))
unfolding clap_on_literals
standing_help by_reach rest = reported_help (codes "help") rest (InvalidSubcommand ∷ []) refl refl

standing_end : (by_reach : Bool) (rest : List Text) → AreRefused (codes "--" ∷ rest) (fault_of (program (standing by_reach)) (codes "--" ∷ rest))
unfolding clap_on_literals
standing_end by_reach [] = refused (codes "--" ∷ []) MissingSubcommand [] refl
standing_end by_reach (word ∷ rest) = refused (codes "--" ∷ word ∷ rest) UnknownArgument (InvalidSubcommand ∷ []) refl

standing_none : (by_reach : Bool) → AreRefused [] (fault_of (program (standing by_reach)) [])
unfolding clap_on_literals
standing_none by_reach = refused [] MissingSubcommand [] refl

standing_free : (by_reach : Bool) → is_simple_and_free (program (standing by_reach)) ≡ true
standing_free true = refl
standing_free false = refl

-- the same for words with `--reachable` and for others
all_stand : (by_reach : Bool) → AreCommands (standing by_reach) (standing by_reach)
all_stand r = (standing_plan r, (standing_word r, (standing_replay r, (standing_race r, (standing_compact r, (standing_audit r, (standing_next r, (standing_mark r, (standing_collect r, (standing_moved r, (standing_map r, tt)))))))))))

pub standing_program : (by_reach : Bool) → IsProgram (standing by_reach)
standing_program by_reach = record {
  is_free = standing_free by_reach;
  are_commands = all_stand by_reach;
  named = refl;
  help_first = standing_help by_reach;
  end_first = standing_end by_reach;
  none_first = standing_none by_reach;
}

-- ---- forms that are commands

-- two commands with one name are one
pub same_form : (forms : List Form) (a b : Form) → IsCommand forms a → IsCommand forms b → a.name ≡ b.name → a ≡ b
same_form forms a b is_a is_b named = same_Some a b (sym is_a.is_one ∙ ap (λ (name : Text). find (λ (other : Form). bytes_eq other.name name) forms) named ∙ is_b.is_one)

-- the form is one of these
abbrev pub IsOneOf : List Form → Form → Type 0
IsOneOf [] form = ⊥
IsOneOf (other ∷ rest) form = (form ≡ other) ⊎ IsOneOf rest form

-- a form that is found among some is one of them
found_one : (some : List Form) (name : Text) (form : Form) → find (λ other. bytes_eq other.name name) some ≡ Some form → IsOneOf some form
found_one [] name form is = cc
found_one (other ∷ rest) name form is = go (bytes_eq other.name name) is (found_one rest name form)
  where
    go : (t : Bool) → cond t (Some other) (find (λ (f : Form). bytes_eq f.name name) rest) ≡ Some form
        → (find (λ (f : Form). bytes_eq f.name name) rest ≡ Some form → IsOneOf rest form) → IsOneOf (other ∷ rest) form
    go true is later = inl (sym (same_Some other form is))
    go false is later = inr (later is)

-- each command is one of the forms
pub one_of_these : (forms : List Form) (form : Form) → IsCommand forms form → IsOneOf forms form
one_of_these forms form command = found_one forms form.name form command.is_one

-- ---- a first word that is a command's name

-- the position of the walk after the name, with the words after that
abbrev met : Text → List Text → Walk
met name rest = record start { stopped = Some (name, rest) }

-- after a command's name the words are left to that command
met_walk : (forms : List Form) (name : Text) (rest : List Text) → fold (walked top_rules (names forms)) (met name []) rest ≡ met name rest
met_walk forms name rest = sym (walk_stopped top_rules (names forms) start name [] rest)

-- what is wrong after the walk, by its end
abbrev after : List Form → Walk → Kinds
after forms end = or_else (entered_fault (built (program forms)) end.stopped)
    (or_else (settle_fault top_rules false end.held)
    (or_else (defaults_fault (settled top_rules end.held).rows top_rules)
    (check_fault top (finished top_rules end.held) (is_some (entered (built (program forms)) end.stopped)))))

module _ (forms : List Form) (form : Form) (command : IsCommand forms form) (rest : List Text) where
  -- the command's name stops the walk
  name_walk : fold (walked top_rules (names forms)) start (form.name ∷ rest) ≡ met form.name rest
  unfolding walked
  name_walk = ap (λ w. fold (walked top_rules (names forms)) w rest) (rw command.is_met refl) ∙ met_walk forms form.name rest

  -- nothing is wrong with it
  name_fault : walk_fault top (names forms) start (form.name ∷ rest) ≡ []
  unfolding walk_fault walked
  name_fault = rw (command.is_met, command.is_not_help) (stopped_fault top (names forms) start (form.name, []) rest)

  -- what is wrong after it is what is wrong with the words of the command
  command_fault : after forms (met form.name rest) ≡ level (shape form) rest
  unfolding defaults_fault
  command_fault = rw command.is_entered (or_else_nil (level (shape form) rest))

  -- if the first word is a command's name, the faults of the words are those of the words after it
  pub command_first : fault_of (program forms) (form.name ∷ rest) ≡ level (shape form) rest
  command_first = ap₂ or_else name_fault (ap (after forms) name_walk) ∙ command_fault

  -- and the matches are those of the words after it
  pub command_found : subcommand_of (program forms) (form.name ∷ rest) ≡ Some (form.name, rows_after (shape form).rules [] rest)
  command_found = ap (λ (end : Walk). entered (built (program forms)) end.stopped) name_walk ∙ rw command.is_entered refl

-- the word is the name of none of the forms
abbrev IsNoName : List Form → Text → Type 0
IsNoName [] word = Unit {0}
IsNoName (form ∷ rest) word = (bytes_eq form.name word ≡ false) × IsNoName rest word

-- a word that is none of these names, and not `help`, names no command
no_name : (some : List Form) (word : Text) → IsNoName some word → bytes_eq (codes "help") word ≡ false
    → find (answers_to word) (map (λ (form : Form). (form.name, [])) some ++ (codes "help", []) ∷ []) ≡ None
no_name [] word none help = rw help refl
no_name (form ∷ rest) word none help = rw none.0 (no_name rest word none.1 help)

module _ (forms : List Form) (word : Text) (rest : List Text) where
  -- the kinds of a first word refuse the words
  abbrev Refuses : Kinds → Type 0
  Refuses = AreRefused (word ∷ rest)

  -- a long flag is for help or for the version, or is refused
  long_first : (flag : IsLong word) → Refuses (long_fault top_rules false (arg_by_long top_rules flag.name) flag.value nothing_held)
  long_first flag = go flag.value (bytes_eq (codes "help") flag.name) (bytes_eq (codes "version") flag.name) refl refl flag.help flag.version
    where
      go : (v : Option Text) (h w : Bool) → bytes_eq (codes "help") flag.name ≡ h → bytes_eq (codes "version") flag.name ≡ w
          → (flag.name ≡ codes "help" → v ≡ None → is_help word ≡ true) → (flag.name ≡ codes "version" → v ≡ None → is_version word ≡ true)
          → Refuses (long_fault top_rules false (arg_by_long top_rules flag.name) v nothing_held)
      go None true w e f help version = rw e (reported_help word rest [] refl (help (sym ((bytes_eq-Decides (codes "help") flag.name).0 e)) refl))
      go (Some v) true w e f help version = rw e (refused (word ∷ rest) TooManyValues [] refl)
      go None false true e f help version = rw (e, f) (reported_version word rest (version (sym ((bytes_eq-Decides (codes "version") flag.name).0 f)) refl))
      go (Some v) false true e f help version = rw (e, f) (refused (word ∷ rest) TooManyValues [] refl)
      go v false false e f help version = rw (e, f) (refused (word ∷ rest) UnknownArgument [] refl)

  -- and so is a bundle
  bundle_first : (flag : IsBundle word) → Refuses (bundle_fault top_rules false (flag.byte ∷ flag.bytes) nothing_held)
  unfolding flags_fault
  bundle_first flag = go (104 == flag.first) (86 == flag.first) refl refl
    where
      go : (h w : Bool) → (104 == flag.first) ≡ h → (86 == flag.first) ≡ w → Refuses (bundle_fault top_rules false (flag.byte ∷ flag.bytes) nothing_held)
      go true w e f = rw (flag.begins, e) (reported_help word rest [] refl (flag.help (sym (eqb-true 104 flag.first e))))
      go false true e f = rw (flag.begins, e, f) (reported_version word rest (flag.version (sym (eqb-true 86 flag.first f))))
      go false false e f = rw (flag.begins, e, f) (refused (word ∷ rest) UnknownArgument [] refl)

  -- so is a flag other than `--`
  flag_first : IsUtf8 word → bytes_eq word (codes "--") ≡ false → is_flag word ≡ true → Refuses (turn_fault top [] start word)
  flag_first utf8 dashes flag = refused_first (word ∷ rest) _ _ (go (flag_read word utf8 dashes flag))
    where
      go : IsLong word ⊎ IsBundle word → Refuses (word_fault top [] false idle word nothing_held)
      go (inl long) = rw (dashes, long.read) (long_first long)
      go (inr bundle) = rw (dashes, bundle.no_long, bundle.read) (bundle_first bundle)

  -- the turn of a first word that names no command and is not `--` is refused
  turn_first : IsUtf8 word → subcommand_met (names forms) idle word ≡ None → bytes_eq word (codes "--") ≡ false → Refuses (turn_fault top (names forms) start word)
  turn_first utf8 none dashes = subst Refuses (sym (unnamed_turn top [] None 1 (names forms) word none)) (go (is_flag word) refl)
    where
      go : (t : Bool) → is_flag word ≡ t → Refuses (turn_fault top [] start word)
      go true flag = flag_first utf8 dashes flag
      go false flag = subst Refuses (sym (plain_turn top [] None 1 word dashes flag)) (refused (word ∷ rest) UnknownArgument (InvalidSubcommand ∷ []) refl)

  -- if this word is the first, the words are refused
  other_first : IsUtf8 word → subcommand_met (names forms) idle word ≡ None → bytes_eq word (codes "--") ≡ false → AreRefused (word ∷ rest) (fault_of (program forms) (word ∷ rest))
  unfolding walk_fault
  other_first utf8 none dashes = refused_first _ _ _ (refused_first _ _ _ (turn_first utf8 none dashes))

-- the word is the name of a command
abbrev IsName : List Form → Text → Type 0
IsName forms word = (form : Form) × IsCommand forms form × (word ≡ form.name)

-- each word is the name of a command, or of none of these
named_or_not : (forms some : List Form) → AreCommands forms some → (word : Text) → IsName forms word ⊎ IsNoName some word
named_or_not forms [] commands word = inr tt
named_or_not forms (form ∷ rest) commands word = go (bytes_eq form.name word) refl (named_or_not forms rest commands.1 word)
  where
    go : (t : Bool) → bytes_eq form.name word ≡ t → IsName forms word ⊎ IsNoName rest word → IsName forms word ⊎ IsNoName (form ∷ rest) word
    go true e others = inl (form, commands.0, sym ((bytes_eq-Decides form.name word).0 e))
    go false e (inl name) = inl name
    go false e (inr none) = inr (e, none)

-- the first word is a command's name, or the words are refused
abbrev pub Decided : List Form → List Text → Type 0
Decided forms words = ((form : Form) × IsCommand forms form × (rest : List Text) × (words ≡ form.name ∷ rest)) ⊎ AreRefused words (fault_of (program forms) words)

-- and the first word decides which
pub first_decides : (forms : List Form) → IsProgram forms → (words : List Text) → All IsUtf8 words → Decided forms words
first_decides forms is [] utf8 = inr is.none_first
first_decides forms is (word ∷ rest) utf8 = go (named_or_not forms forms is.are_commands word) (bytes_eq (codes "help") word) (bytes_eq word (codes "--")) refl refl
  where
    -- words are refused if they are refused with that name
    refused_as : (name : Text) → word ≡ name → AreRefused (name ∷ rest) (fault_of (program forms) (name ∷ rest)) → Decided forms (word ∷ rest)
    refused_as name e h = inr (subst (λ (first : Text). AreRefused (first ∷ rest) (fault_of (program forms) (first ∷ rest))) (sym e) h)

    go : IsName forms word ⊎ IsNoName forms word → (is_helper ends : Bool) → bytes_eq (codes "help") word ≡ is_helper → bytes_eq word (codes "--") ≡ ends → Decided forms (word ∷ rest)
    go (inl (form, command, e)) is_helper ends h d = inl (form, command, rest, ap (λ (first : Text). first ∷ rest) e)
    go (inr none) true ends h d = refused_as (codes "help") (sym ((bytes_eq-Decides (codes "help") word).0 h)) (is.help_first rest)
    go (inr none) false true h d = refused_as (codes "--") ((bytes_eq-Decides word (codes "--")).0 d) (is.end_first rest)
    go (inr none) false false h d =
        let unnamed : subcommand_met (names forms) idle word ≡ None = ap (λ (n : Names). subcommand_met n idle word) is.named ∙ rw (no_name forms word none h) refl in
        inr (other_first forms word rest (All-head IsUtf8 word rest utf8) unnamed d)
