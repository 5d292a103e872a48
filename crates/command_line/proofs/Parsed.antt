-- What the words ask, by what clap makes of them.
use Rattle.std.proofs.Common.{◌≡◌, ◌∙◌, Bool, suc, true, List, [], ◌∷◌, Some, All, Any, IsUtf8, arith, ap, codes, inl, inr, map, refl, subst, sym}
use Rattle.std.proofs.lemmas.List.Elements.{All-tail}
use Rattle.clap.specs.Words.{IsAmong, Text, fault_of, subcommand_of}
use Rattle.clap.specs.declared.error.kind.ErrorKind.TheVariants.{DisplayHelp, DisplayVersion}
use Rattle.command_line.specs.AskedTasks.{AsksCommand, AsksNoCommand, by_reach, is_help, is_version}
use Rattle.command_line.specs.Forms.{Form, audit_form, map_form, moved_form, next_form, plan_form, run_form, workers_form, word_form}
use Rattle.command_line.specs.Given.{IsCommandWith, Use}
use Rattle.command_line.specs.NextArguments.{says_reachable}
use Rattle.command_line.specs.Parser.{program, standing}
use Rattle.command_line.specs.declared.words.Task.{Task}
use Rattle.command_line.specs.declared.words.Task.TheVariants.{Plan, Word, Replay, Race, Compact, Audit, Next, Mark, Collect, Moved, Map, Help, Version, VersionLong}
use Rattle.command_line.proofs.Chosen.{texts_used}
use Rattle.command_line.proofs.FormLevel.{FormTaken, form_help, form_no_version, form_taken, form_takes}
use Rattle.command_line.proofs.Levels.{level, shape}
use Rattle.command_line.proofs.Reaching.{reachable_said}
use Rattle.command_line.proofs.Settled.{AreFresh, row}
use Rattle.command_line.proofs.TopLevel.{BeginWith, Decided, IsCommand, IsProgram, command_first, command_found, first_decides, standing_program, standing_audit, standing_collect, standing_compact, standing_map, standing_mark, standing_moved, standing_next, standing_plan, standing_race, standing_replay, standing_word}
use Rattle.command_line.proofs.SwitchRows.{with_switches}

-- ---- words

-- the words are a command with what is given to it, and so is what clap found in them
pub record FoundCommand (forms : List Form) (words : List Text) : Type 0 where
  pub form : Form
  pub is_command : IsCommand forms form
  pub given : List Use
  pub found : subcommand_of (program forms) words ≡ Some (form.name, with_switches form.switches (map row given))
  pub are_command : IsCommandWith form words given

-- the words after the first are texts too
texts_behind : (words : List Text) (name : Text) (rest : List Text) → words ≡ name ∷ rest → All IsUtf8 words → All IsUtf8 rest
texts_behind words name rest is utf8 = All-tail IsUtf8 name rest (subst (All IsUtf8) is utf8)

-- one of the words asks for help if the first does
one_first : (words : List Text) → BeginWith is_help words → Any (λ word. is_help word ≡ true) words
one_first words (word, rest, is, asks) = subst (Any (λ w. is_help w ≡ true)) (sym is) (0, word, omega arith, refl, asks)

-- or if one after it does
one_behind : (words : List Text) (name : Text) (rest : List Text) → words ≡ name ∷ rest → Any (λ word. is_help word ≡ true) rest
    → Any (λ word. is_help word ≡ true) words
one_behind words name rest is (k, word, lt, at, asks) = subst (Any (λ w. is_help w ≡ true)) (sym is) (suc k, word, omega arith, at, asks)

module _ (forms : List Form) (form : Form) (command : IsCommand forms form) (words rest : List Text) (is : words ≡ form.name ∷ rest) where
  -- the faults of a command's words are those of the words after its name
  kinds_behind : fault_of (program forms) words ≡ level (shape form) rest
  kinds_behind = ap (fault_of (program forms)) is ∙ command_first forms form command rest

  -- words that begin with its name and are taken are the command
  found_command : All IsUtf8 words → fault_of (program forms) words ≡ [] → FoundCommand forms words
  found_command utf8 none =
      let taken : FormTaken form command.is_readable rest = form_taken form command.is_readable rest (texts_behind words form.name rest is utf8) (sym kinds_behind ∙ none) in
      record {
        form = form;
        is_command = command;
        given = taken.given;
        found = ap (subcommand_of (program forms)) is ∙ command_found forms form command rest ∙ ap (λ rows. Some (form.name, rows)) taken.found;
        are_command = record {
          rest = rest;
          begin = is;
          gives = taken.gives;
          once = taken.well.once;
          fit = taken.well.fit;
          whole = texts_used form taken.gives form.arguments command.is_readable.clear ∙ taken.well.whole;
        };
      }

  -- and the answer is help only if one of them asks for it
  helped_behind : All IsUtf8 words → IsAmong DisplayHelp (fault_of (program forms) words) → Any (λ word. is_help word ≡ true) words
  helped_behind utf8 help =
      one_behind words form.name rest is (form_help form command.is_readable rest (texts_behind words form.name rest is utf8) (subst (IsAmong DisplayHelp) kinds_behind help))

  -- and never the version
  no_version_behind : All IsUtf8 words → IsAmong DisplayVersion (fault_of (program forms) words) → ⊥
  no_version_behind utf8 version =
      form_no_version form command.is_readable rest (texts_behind words form.name rest is utf8) (subst (IsAmong DisplayVersion) kinds_behind version)

-- if nothing was used yet, all uses are fresh
none_before : (us : List Use) → AreFresh [] us
none_before [] = tt
none_before (u ∷ us) = (refl, none_before us)

-- a command by which the words ask, with what is given to it
abbrev pub AskedForm : List Form → List Text → Type 0
AskedForm forms words = (form : Form) × IsCommand forms form × (given : List Use) × IsCommandWith form words given

-- words that ask for a task by a command are one of those that stand, that of `next` by whether they say `--reachable`
asked_form : (r : Bool) (words : List Text) → r ≡ says_reachable words → (task : Task) → AsksCommand words task → AskedForm (standing r) words
asked_form r words says (Plan image b) asks = (plan_form, standing_plan r, asks.uses, asks.is_command)
asked_form r words says (Word image index b) asks = (word_form, standing_word r, asks.uses, asks.is_command)
asked_form r words says (Replay run) asks = (run_form (codes "replay"), standing_replay r, asks.uses, asks.is_command)
asked_form r words says (Race run) asks = (run_form (codes "race"), standing_race r, asks.uses, asks.is_command)
asked_form r words says (Compact image dump n b) asks = (workers_form (codes "compact") (codes "DUMP"), standing_compact r, asks.uses, asks.is_command)
asked_form r words says (Audit run) asks = (audit_form, standing_audit r, asks.uses, asks.is_command)
asked_form r words says (Next run) asks =
    let same = asks.with_others.0 ∙ reachable_said (by_reach run.marks) words asks.uses asks.is_command ∙ sym says in
    (next_form r, standing_next r, asks.uses, subst (λ (b : Bool). IsCommandWith (next_form b) words asks.uses) same asks.is_command)
asked_form r words says (Mark image new n b) asks = (workers_form (codes "mark") (codes "NEW"), standing_mark r, asks.uses, asks.is_command)
asked_form r words says (Collect image new n b) asks = (workers_form (codes "collect") (codes "NEW"), standing_collect r, asks.uses, asks.is_command)
asked_form r words says (Moved image moved b) asks = (moved_form, standing_moved r, asks.uses, asks.is_command)
asked_form r words says (Map run) asks = (map_form, standing_map r, asks.uses, asks.is_command)
asked_form r words says (Help text) asks = absurd asks
asked_form r words says Version asks = absurd asks
asked_form r words says VersionLong asks = absurd asks

module _ (forms : List Form) (program_is : IsProgram forms) (words : List Text) where
  -- words that clap takes are a command
  pub parsed : All IsUtf8 words → fault_of (program forms) words ≡ [] → FoundCommand forms words
  parsed utf8 none = go (first_decides forms program_is words utf8)
    where
      go : Decided forms words → FoundCommand forms words
      go (inl (form, command, rest, is)) = found_command forms form command words rest is utf8 none
      go (inr refused) = absurd (refused.some none)

  -- words that clap refuses are no command
  pub refused_command : (form : Form) → IsCommand forms form → (fault_of (program forms) words ≡ [] → ⊥) → (given : List Use) → IsCommandWith form words given → ⊥
  refused_command form command fails given asks =
      fails (kinds_behind forms form command words asks.rest asks.begin ∙ form_takes form command.is_readable asks.rest given asks.gives
      (record { fresh = none_before given; once = asks.once; fit = asks.fit; whole = sym (texts_used form asks.gives form.arguments command.is_readable.clear) ∙ asks.whole }))

  -- the answer is help only if a word asks for it
  pub helped : All IsUtf8 words → IsAmong DisplayHelp (fault_of (program forms) words) → Any (λ word. is_help word ≡ true) words
  helped utf8 help = go (first_decides forms program_is words utf8)
    where
      go : Decided forms words → Any (λ word. is_help word ≡ true) words
      go (inl (form, command, rest, is)) = helped_behind forms form command words rest is utf8 help
      go (inr refused) = one_first words (refused.help help)

  -- and the version only if the first word asks for it
  pub versioned : All IsUtf8 words → IsAmong DisplayVersion (fault_of (program forms) words) → BeginWith is_version words
  versioned utf8 version = go (first_decides forms program_is words utf8)
    where
      go : Decided forms words → BeginWith is_version words
      go (inl (form, command, rest, is)) = absurd (no_version_behind forms form command words rest is utf8 version)
      go (inr refused) = refused.version version

-- words that clap refuses are none of the commands that stand
pub faulty : (r : Bool) (words : List Text) → r ≡ says_reachable words → (fault_of (program (standing r)) words ≡ [] → ⊥) → AsksNoCommand words
faulty r words says fails = λ task asks.
    let asked = asked_form r words says task asks in
    refused_command (standing r) (standing_program r) words asked.0 asked.1 fails asked.2 asked.3
