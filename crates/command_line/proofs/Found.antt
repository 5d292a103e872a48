-- From what the parser found to what the words ask.
use Rattle.std.proofs.Common.{◌≡◌, ◌≢◌, ◌⊎◌, ◌∙◌, ◌∷◌, ◌++◌, ◌≤◌, ℕ, List, Option, Some, IfOk, IfErr, Result, Ok, Err}
use Rattle.std.proofs.Common.{[], None, Bool, cond, sym, ap, ap₂, subst, inl, inr, codes, is_some, map, unwrap_or, refl, true, false, true≢false}
use Rattle.std.specs.Prelude.{option_and_then, option_map, IsSomeAnd, IsUtf8, IfSome}
use Rattle.std.specs.Str.{bytes_eq}
use Rattle.std.specs.String.{string_bytes}
use Rattle.std.specs.declared.string.String.{String}
use Rattle.std.specs.List.{All, slice_index_or}
use Rattle.std.proofs.lemmas.List.Elements.{All-map}
use Rattle.std.proofs.lemmas.Option.{IfSome_then, same_Some}
use Rattle.std.proofs.lemmas.Str.{IsUtf8-string_bytes}
use Rattle.clap.specs.Words.{App, IsAmong, HasKind, HasMatchesOf, Row, fault_of, first_of, first_value, is_simple, is_simple_and_free, kind_of, one_of, one_text, rows_of, subcommand_name_of, subcommand_of, subcommand_rows_of}
use Rattle.clap.specs.declared.error.Error.{Error}
use Rattle.clap.specs.declared.error.kind.ErrorKind.{ErrorKind}
use Rattle.clap.specs.declared.error.kind.ErrorKind.TheVariants.{DisplayHelp, DisplayVersion, OutOfMemory}
use Rattle.clap.specs.declared.parser.matches.ArgMatches.{ArgMatches}
use Rattle.clap.specs.declared.parser.matches.ArgMatches.TheViews.{out-ArgMatches}
use Rattle.clap.specs.declared.parser.matches.Found.{Found}
use Rattle.clap.specs.Walk.{row_text, with_default}
use Rattle.clap.proofs.WalkLemmas.{both, first_value-rows, one_text-rows}
use Rattle.command_line.specs.AskedTasks.{Asks, AsksWith, AsksHelp, AsksNoCommand, AsksVersion, HasLawfulCounts, is_long, IsRunGiven, IsText}
use Rattle.command_line.specs.Forms.{Choice, Form, Parameter, command_form, fresh, mutators, named, number_within, run_form, workers_form, word_form, workers}
use Rattle.command_line.specs.Given.{HasOption, HasSwitch, IsChosen, IsCommandWith, IsNumber, IsNumberOr, Takes, Use, is_among, text_given}
use Rattle.command_line.specs.ParserFinds.{IsAnswerOf, IsFlag, IsRunFound, IsRunRequest}
use Rattle.command_line.specs.NextArguments.{says_reachable}
use Rattle.command_line.specs.Parser.{program, standing}
use Rattle.command_line.specs.declared.words.TraceRun.{TraceRun}
use Rattle.command_line.specs.declared.words.Task.{Task}
use Rattle.command_line.specs.declared.words.Task.TheVariants.{Help, Version}
use Rattle.command_line.proofs.Chosen.{HasArgument, among_used, argument_fits, argument_off, first_found, one_found, option_fits, option_off, switch_found}
use Rattle.command_line.proofs.Firsts.{found_holds}
use Rattle.command_line.proofs.FormLevel.{IsReadable}
use Rattle.command_line.proofs.FormRules.{built_switch, is_switch}
use Rattle.command_line.proofs.KindLists.{some_kind}
use Rattle.command_line.proofs.Parsed.{faulty, helped, parsed, versioned}
use Rattle.command_line.proofs.Settled.{is_used, row}
use Rattle.command_line.proofs.SwitchRows.{others_named, own_row, switches_parted, with_switches}
use Rattle.command_line.proofs.TopLevel.{IsCommand, IsOneOf, IsProgram, one_of_these, same_form, standing_program}

-- the bytes of texts are UTF-8
pub texts_utf8 : {Z : Type 0} (xs : List (String Z)) → All IsUtf8 (map string_bytes xs)
texts_utf8 xs = All-map IsUtf8 string_bytes xs (λ k d lt. IsUtf8-string_bytes (slice_index_or xs k d))

-- the name of the command that was entered, and what was found after it
abbrev pub Entered : Type 0
Entered = Option (List ℕ × List Row)

-- there is one name
pub same_name : (o : Entered) (a b : List ℕ) (x y : List Row) → o ≡ Some (a, x) → o ≡ Some (b, y) → a ≡ b
same_name o a b x y e f = ap (λ (w : Entered). (unwrap_or w (a, x)).0) (sym e ∙ f)

-- and what was found after it is one
pub same_rows : (o : Entered) (a b : List ℕ) (x y : List Row) → o ≡ Some (a, x) → o ≡ Some (b, y) → x ≡ y
same_rows o a b x y e f = ap (λ (w : Entered). (unwrap_or w (a, x)).1) (sym e ∙ f)

-- the name and the rows of what was entered are both of them
both_parts : {A : Type 0} (o : Option A) (f : A → List ℕ) (g : A → List Row) (name : List ℕ) (rows : List Row) → Some name ≡ option_map f o
    → Some rows ≡ option_map (λ (p : List ℕ × List Row). p.1) (option_map {U = List ℕ × List Row} (λ (a : A). (f a, g a)) o) → option_map {U = List ℕ × List Row} (λ (a : A). (f a, g a)) o ≡ Some (name, rows)
both_parts None f g name rows named has = cc
both_parts (Some a) f g name rows named has = ap₂ (λ (n : List ℕ) (r : List Row). Some (n, r)) (sym (same_Some _ _ named)) (sym (same_Some _ _ has))

pub entered_as : (m : ArgMatches) (o : Entered) (name : List ℕ) (rows : List Row) → subcommand_rows_of m ≡ o → Some name ≡ subcommand_name_of m
    → Some rows ≡ option_map (λ (p : List ℕ × List Row). p.1) (subcommand_rows_of m) → o ≡ Some (name, rows)
entered_as m o name rows is named has = sym is ∙ both_parts (out-ArgMatches m).subcommand _ _ name rows named has

-- nothing was entered if there is no name
no_parts : {A B : Type 0} (o : Option A) (f : A → List ℕ) (g : A → B) → None ≡ option_map f o → option_map g o ≡ None
no_parts None f g none = refl
no_parts (Some a) f g none = cc

pub none_entered : (m : ArgMatches) (o : Entered) → subcommand_rows_of m ≡ o → None ≡ subcommand_name_of m → o ≡ None
none_entered m o is none = sym is ∙ no_parts (out-ArgMatches m).subcommand _ _ none

-- the command was asked with what was given, and its rows were found
pub record CommandAsked (words : List (List ℕ)) (f : Found) (form : Form) : Type 0 where
  pub readable : IsReadable form
  pub given : List Use
  pub rows : rows_of f ≡ with_switches form.switches (map row given)
  pub is_command : IsCommandWith form words given

-- if a command was entered, it was asked with what was given
pub command_asked : (forms : List Form) → IsProgram forms → (form : Form) → IsCommand forms form → (words : List (List ℕ)) (f : Found) → All IsUtf8 words
    → fault_of (program forms) words ≡ [] → subcommand_of (program forms) words ≡ Some (form.name, rows_of f) → CommandAsked words f form
command_asked forms is form command words f utf8 taken found =
    let p = parsed forms is words utf8 taken in
    let mine : List Row = with_switches p.form.switches (map row p.given) in
    let same : p.form ≡ form = same_form forms p.form form p.is_command command (same_name _ p.form.name form.name mine (rows_of f) p.found found) in
    let read : CommandAsked words f p.form = record {
      readable = p.is_command.is_readable;
      given = p.given;
      rows = same_rows _ form.name p.form.name (rows_of f) mine found p.found;
      is_command = p.are_command;
    } in
    subst (CommandAsked words f) same read

-- ---- what was found of a command

module _ (words : List (List ℕ)) (f : Found) (form : Form) (asked : CommandAsked words f form) where
  -- what is read under a name that no switch has is what is given under it
  text_is : (id : List ℕ) → is_switch form.switches id ≡ false → first_value f id ≡ text_given id asked.given
  text_is id none = first_value-rows f id ∙ ap (first_of id) asked.rows ∙ first_found form asked.is_command.gives id none

  number_is : (id : List ℕ) → is_switch form.switches id ≡ false → one_text f id ≡ text_given id asked.given
  number_is id none = one_text-rows f id ∙ ap (one_of id) asked.rows ∙ one_found form asked.is_command.gives id none

  -- each argument was found
  pub argument_there : (a : Parameter) → HasArgument form a → is_some (first_value f a.id) ≡ true
  argument_there a has = ap (λ (o : Option (List ℕ)). is_some o) (text_is a.id (argument_off form asked.readable a has))
      ∙ found_holds (λ (x : Parameter). bytes_eq x.id a.id) (λ (x : Parameter). is_some (text_given x.id asked.given)) form.arguments a asked.is_command.whole has

  -- and it is the one that was given
  pub argument_reported : (a : Parameter) → HasArgument form a → (path : List ℕ) → Some path ≡ first_value f a.id → text_given a.id asked.given ≡ Some path
  argument_reported a has path h = sym (h ∙ text_is a.id (argument_off form asked.readable a has))

  -- so is a number, which is one that the argument takes
  pub number_reported : (a : Parameter) → HasArgument form a → one_text f a.id ≡ text_given a.id asked.given
  number_reported a has = number_is a.id (argument_off form asked.readable a has)

  pub number_fits : (a : Parameter) → HasArgument form a → IfSome (text_given a.id asked.given) (Takes a)
  number_fits a has = argument_fits form asked.readable asked.is_command.gives a has asked.is_command.fit

  pub number_there : (a : Parameter) → HasArgument form a → is_some (text_given a.id asked.given) ≡ true
  number_there a has = found_holds (λ (x : Parameter). bytes_eq x.id a.id) (λ (x : Parameter). is_some (text_given x.id asked.given)) form.arguments a asked.is_command.whole has

  -- the text that is given to an option is one that it takes
  pub choice_fits : (o : Choice) → HasOption form o → IfSome (one_text f o.takes.id) (Takes o.takes)
  choice_fits o has = subst (λ (r : Option (List ℕ)). IfSome r (Takes o.takes)) (sym (number_is o.takes.id (option_off form asked.readable asked.is_command.gives o has)))
      (option_fits form asked.readable asked.is_command.gives o has asked.is_command.fit)

  -- what is read of an option is what is given to it
  pub option_read : (o : Choice) → HasOption form o → first_value f o.takes.id ≡ text_given o.takes.id asked.given
  option_read o has = text_is o.takes.id (option_off form asked.readable asked.is_command.gives o has)

  -- its number is the one that was read
  pub choice_reported : (o : Choice) → HasOption form o → (n : ℕ) → IsNumberOr o.default (one_text f o.takes.id) n → IsChosen o asked.given n
  choice_reported o has n h = subst (λ (r : Option (List ℕ)). IsNumberOr o.default r n) (number_is o.takes.id (option_off form asked.readable asked.is_command.gives o has)) h

  -- a switch is true if and only if it is given, if no other has its name
  pub switch_among : (before : List Parameter) (w : Parameter) (after : List Parameter) → form.switches ≡ before ++ w ∷ after → HasSwitch form w
      → is_switch before w.id ≡ false → is_switch after w.id ≡ false → (b : Bool) → IsFlag (one_text f w.id) b → b ≡ is_among w.id asked.given
  switch_among before w after is has first last b flag = go (is_used w.id asked.given) refl ∙ sym (among_used w.id asked.given)
    where
      mine : List Row
      mine = map row asked.given

      others : List Row
      others = with_switches before mine

      found : one_text f w.id ≡ Some (cond (is_used w.id asked.given) (codes "true") (codes "false"))
      found = one_text-rows f w.id ∙ ap (one_of w.id) (asked.rows ∙ ap (λ (vs : List Parameter). with_switches vs mine) is ∙ switches_parted before (w ∷ after) mine)
          ∙ ap (option_and_then row_text) (others_named w.id after (with_default others (built_switch w)) last ∙ own_row w mine others (others_named w.id before mine first))
          ∙ switch_found form asked.readable asked.is_command.gives w has

      go : (t : Bool) → is_used w.id asked.given ≡ t → b ≡ is_used w.id asked.given
      go true e = flag.0 (found ∙ rw e refl) ∙ sym e
      go false e = flag.1 (found ∙ rw e refl) ∙ sym e

-- a command of this name, with these options, switches besides `--large`, and arguments besides IMAGE
module _ (words : List (List ℕ)) (f : Found) (name : List ℕ) (options : List Choice) (switches others : List Parameter) (asked : CommandAsked words f (command_form name options switches others)) where
  abbrev mine : Form
  mine = command_form name options switches others

  -- its image was found
  pub image_there : is_some (first_value f (codes "IMAGE")) ≡ true
  image_there = argument_there words f mine asked (named (codes "IMAGE")) refl

  -- and the words are the command, with what was found
  pub asked_with : is_switch switches (codes "large") ≡ false → (image : List ℕ) (b : Bool) (Holds : List Use → Type 0) → Some image ≡ first_value f (codes "IMAGE")
      → IsFlag (one_text f (codes "large")) b → Holds asked.given → AsksWith mine words image b Holds
  asked_with alone image b Holds at_image flag holds = record {
    uses = asked.given;
    is_command = asked.is_command;
    with_image = argument_reported words f mine asked (named (codes "IMAGE")) refl image at_image;
    with_large = switch_among words f mine asked [] (named (codes "large")) switches refl refl refl alone b flag;
    with_others = holds;
  }

-- ---- `word`

module _ (words : List (List ℕ)) (f : Found) (asked : CommandAsked words f word_form) where
  abbrev index : Parameter
  index = number_within (codes "INDEX") 0 18446744073709551615

  -- a number was found as the index
  pub index_there : IsSomeAnd (one_text f (codes "INDEX")) (λ digits. (n : ℕ) × IsNumber digits n)
  index_there = go (text_given (codes "INDEX") asked.given) (number_reported words f word_form asked index refl) (number_there words f word_form asked index refl)
      (number_fits words f word_form asked index refl)
    where
      go : (o : Option (List ℕ)) → one_text f (codes "INDEX") ≡ o → is_some o ≡ true → IfSome o (Takes index)
          → IsSomeAnd (one_text f (codes "INDEX")) (λ digits. (n : ℕ) × IsNumber digits n)
      go None is there fits = absurd (true≢false (sym there))
      go (Some digits) is there fits = rw is (fits.0, fits.1)

  -- and it is the one that is given
  pub index_reported : (n : ℕ) → IfSome (one_text f (codes "INDEX")) (λ digits. IsNumber digits n) → IsSomeAnd (text_given (codes "INDEX") asked.given) (λ digits. IsNumber digits n)
  index_reported n h = go (text_given (codes "INDEX") asked.given) (number_there words f word_form asked index refl)
      (subst (λ (r : Option (List ℕ)). IfSome r (λ digits. IsNumber digits n)) (number_reported words f word_form asked index refl) h)
    where
      go : (o : Option (List ℕ)) → is_some o ≡ true → IfSome o (λ digits. IsNumber digits n) → IsSomeAnd o (λ digits. IsNumber digits n)
      go None there is = absurd (true≢false (sym there))
      go (Some digits) there is = is

-- ---- numbers of options

-- the number of an option is within the bounds of the texts that it takes, if its default is
pub within_bounds : (text : Option (List ℕ)) (default low high n : ℕ) → low ≤ default → default ≤ high
    → IfSome text (λ digits. (m : ℕ) × IsNumber digits m × (low ≤ m) × (m ≤ high)) → IsNumberOr default text n → (low ≤ n) × (n ≤ high)
within_bounds None default low high n least most takes is = (subst (λ k. low ≤ k) (sym is) least, subst (λ k. k ≤ high) (sym is) most)
within_bounds (Some digits) default low high n least most (m, number, above, below) is =
    let same : m ≡ n = number.value ∙ sym is.value in
    (subst (λ k. low ≤ k) same above, subst (λ k. k ≤ high) same below)

-- a text that an option takes is a number
pub bounded_number : (low high : ℕ) (o : Option (List ℕ)) → IfSome o (λ text. (n : ℕ) × IsNumber text n × (low ≤ n) × (n ≤ high))
    → IfSome o (λ text. (n : ℕ) × IsNumber text n)
bounded_number low high o h = IfSome_then o h (λ text takes. (takes.0, takes.1))

-- ---- `replay` and `race`

module _ (words : List (List ℕ)) (f : Found) (name : List ℕ) (asked : CommandAsked words f (run_form name)) where
  -- a run is found if this command is asked for
  pub run_found : IsRunRequest f
  run_found = record {
    has_image = argument_there words f (run_form name) asked (named (codes "IMAGE")) refl;
    has_trace = argument_there words f (run_form name) asked (named (codes "TRACE")) refl;
    has_dump = argument_there words f (run_form name) asked (named (codes "DUMP")) refl;
    fits_mutators = choice_fits words f (run_form name) asked mutators refl;
    fits_fresh = choice_fits words f (run_form name) asked fresh refl;
  }

  -- and it is what the words ask
  pub run_asked : (run : TraceRun) → IsRunFound f run → AsksWith (run_form name) words run.image.now run.large (IsRunGiven run)
  run_asked run is = asked_with words f _ _ _ _ asked refl _ _ _ is.image_is is.large_is (
    argument_reported words f (run_form name) asked (named (codes "TRACE")) refl run.trace.now is.trace_is,
    argument_reported words f (run_form name) asked (named (codes "DUMP")) refl run.dump.now is.dump_is,
    choice_reported words f (run_form name) asked mutators refl run.mutators is.mutators_are,
    choice_reported words f (run_form name) asked fresh refl run.fresh is.fresh_are,
  )

-- ---- `compact`, `mark` and `collect`

module _ (words : List (List ℕ)) (f : Found) (name out : List ℕ) (asked : CommandAsked words f (workers_form name out)) where
  -- the number of workers is one that the option takes
  pub workers_form_fits : IfSome (one_text f (codes "workers")) (Takes workers.takes)
  workers_form_fits = choice_fits words f (workers_form name out) asked workers refl

  -- and the words are the command, with what was found
  pub workers_form_asked : HasArgument (workers_form name out) (named out) → (image other : List ℕ) (n : ℕ) (b : Bool) → Some image ≡ first_value f (codes "IMAGE") → Some other ≡ first_value f out
      → IsNumberOr 2 (one_text f (codes "workers")) n → IsFlag (one_text f (codes "large")) b
      → AsksWith (workers_form name out) words image b (λ uses. IsText out other uses × IsChosen workers uses n)
  workers_form_asked has image other n b at_image at_other h flag = asked_with words f _ _ _ _ asked refl _ _ _ at_image flag (
    argument_reported words f (workers_form name out) asked (named out) has other at_other,
    choice_reported words f (workers_form name out) asked workers refl n h,
  )

-- ---- nothing else is found

-- the form that was entered is one of these
pub entered_one : (forms : List Form) → IsProgram forms → (words : List (List ℕ)) (o : Entered) → All IsUtf8 words → fault_of (program forms) words ≡ [] → subcommand_of (program forms) words ≡ o
    → (form : Form) × (rows : List Row) × IsOneOf forms form × (o ≡ Some (form.name, rows))
entered_one forms is words o utf8 taken found =
    let p = parsed forms is words utf8 taken in
    (p.form, with_switches p.form.switches (map row p.given), one_of_these forms p.form p.is_command, sym found ∙ p.found)

-- each row, by its name
abbrev pub EnteredAs : Entered → Form → Type 0
EnteredAs o form = (rows : List Row) → o ≡ Some (form.name, rows) → ⊥

-- none of these forms was entered
abbrev pub NoneEntered : Entered → List Form → Type 0
NoneEntered o [] = Unit {0}
NoneEntered o (form ∷ rest) = EnteredAs o form × NoneEntered o rest

-- so it is none of them
none_of : (o : Entered) (forms : List Form) → NoneEntered o forms → (form : Form) (rows : List Row) → IsOneOf forms form → o ≡ Some (form.name, rows) → ⊥
none_of o [] none form rows one is = one
none_of o (other ∷ rest) none form rows (inl same) is = none.0 rows (is ∙ ap (λ (x : Form). Some (x.name, rows)) same)
none_of o (other ∷ rest) none form rows (inr one) is = none_of o rest none.1 form rows one is

pub none_of_standing : (r : Bool) (words : List (List ℕ)) (o : Entered) → All IsUtf8 words → fault_of (program (standing r)) words ≡ [] → subcommand_of (program (standing r)) words ≡ o
    → NoneEntered o (standing r) → ⊥
none_of_standing r words o utf8 taken found none =
    let one = entered_one (standing r) (standing_program r) words o utf8 taken found in
    none_of o (standing r) none one.0 one.1 one.2 one.3

-- ---- what is answered in place of a task

-- an answer of a kind other than out of memory comes only if that kind is among those of the words
among_kinds : (kinds : List ErrorKind) (error : Error) (k : ErrorKind) → HasKind kinds error → kind_of error ≡ k → k ≢ OutOfMemory → IsAmong k kinds
among_kinds kinds error k kind is other = elim kind [
  | inl memory ↦ absurd (other (sym is ∙ memory))
  | inr among ↦ subst (λ x. IsAmong x kinds) is among
]

-- an error other than out of memory comes only if the words have a fault
pub wrong_kind : (kinds : List ErrorKind) (error : Error) → HasKind kinds error → kind_of error ≢ OutOfMemory → kinds ≡ [] → ⊥
wrong_kind kinds error kind other = elim kind [
  | inl memory ↦ absurd (other memory)
  | inr among ↦ some_kind (kind_of error) kinds among
]

-- the kinds of error of a command that is the program's
pub kind_at : (forms : List Form) → IsProgram forms → (a : App) (words : List (List ℕ)) (error : Error) → a ≡ program forms
    → (is_simple_and_free a ≡ true → HasKind (fault_of a words) error) → HasKind (fault_of (program forms) words) error
kind_at forms is a words error e h = subst (λ (x : App). HasKind (fault_of x words) error) e (h (ap is_simple_and_free e ∙ is.is_free))

-- words that the program's command takes have no fault
pub taken_at : (forms : List Form) → IsProgram forms → (a : App) (words : List (List ℕ)) → a ≡ program forms → (is_simple_and_free a ≡ true → fault_of a words ≡ [])
    → fault_of (program forms) words ≡ []
taken_at forms is a words e h = subst (λ (x : App). fault_of x words ≡ []) e (h (ap is_simple_and_free e ∙ is.is_free))

-- and the command that was entered is the one that clap finds in them
pub found_at : (forms : List Form) → IsProgram forms → (a : App) (words : List (List ℕ)) (m : ArgMatches) → a ≡ program forms → HasMatchesOf a words m
    → subcommand_rows_of m ≡ subcommand_of (program forms) words
found_at forms is a words m e h =
    let simple : is_simple a ≡ true = (both _ _ (ap is_simple_and_free e ∙ is.is_free)).0 in
    subst (λ (x : App). subcommand_rows_of m ≡ subcommand_of x words) e (h simple).1

-- an answer in place of a command has no counts
pub answer_counts : (error : Error) (r : Result Task Error) → IfOk r (IsAnswerOf (kind_of error)) → IfOk r HasLawfulCounts
answer_counts error (Ok (Help text)) answer = _
answer_counts error (Ok Version) answer = _
answer_counts error (Ok command) answer = absurd answer
answer_counts error (Err reported) answer = _

module _ (r : Bool) (words : List (List ℕ)) (says : r ≡ says_reachable words) (utf8 : All IsUtf8 words) where
  abbrev forms : List Form
  forms = standing r

  -- help comes only if they ask for nothing, and some word is for help
  help_asked : IsAmong DisplayHelp (fault_of (program forms) words) → AsksHelp words
  help_asked here = (faulty r words says (some_kind DisplayHelp (fault_of (program forms) words) here), helped forms (standing_program r) words utf8 here)

  -- and the version only if they ask for nothing, and the first word is for the version
  version_asked : IsAmong DisplayVersion (fault_of (program forms) words) → is_long words ≡ false → AsksVersion words
  version_asked here others = (faulty r words says (some_kind DisplayVersion (fault_of (program forms) words) here), versioned forms (standing_program r) words utf8 here, others)

  -- a text of help, and the version, is what the words ask
  pub answer_reported : (error : Error) (r : Result Task Error) → HasKind (fault_of (program forms) words) error → IfOk r (IsAnswerOf (kind_of error)) → is_long words ≡ false → IfOk r (Asks words)
  answer_reported error (Ok (Help text)) kind answer others = help_asked (among_kinds _ error DisplayHelp kind answer (λ e. cc))
  answer_reported error (Ok Version) kind answer others = version_asked (among_kinds _ error DisplayVersion kind answer (λ e. cc)) others
  answer_reported error (Ok command) kind answer others = absurd answer
  answer_reported error (Err reported) kind answer others = _

  -- and an error other than out of memory comes only if they have a fault
  pub error_reported : (error : Error) (r : Result Task Error) → HasKind (fault_of (program forms) words) error
      → IfErr r (λ reported. (kind_of reported ≡ OutOfMemory) ⊎ (kind_of reported ≡ kind_of error)) → IfErr r (λ reported. kind_of reported ≢ OutOfMemory → fault_of (program forms) words ≡ [] → ⊥)
  error_reported error (Ok task) kind same = _
  error_reported error (Err reported) kind same = λ other. elim same [
    | inl memory ↦ absurd (other memory)
    | inr e ↦ wrong_kind _ error kind (λ memory. other (e ∙ memory))
  ]

-- so they are none of the commands that stand
pub none_reported : (words : List (List ℕ)) (said : Bool) → said ≡ says_reachable words → (r : Result Task Error)
    → IfErr r (λ reported. kind_of reported ≢ OutOfMemory → fault_of (program (standing said)) words ≡ [] → ⊥) → IfErr r (λ reported. kind_of reported ≢ OutOfMemory → AsksNoCommand words)
none_reported words said says (Ok task) h = _
none_reported words said says (Err reported) h = λ other. faulty said words says (h other)
