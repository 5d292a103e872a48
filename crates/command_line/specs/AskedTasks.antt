-- What the words of the command line ask for. The program's name is not among them.
use Rattle.std.specs.Prelude.{◌≡◌, ℕ, ◌≤◌, ◌&&◌, ◌||◌, Bool, true, false, List, [], ◌∷◌, Some, None, IsSomeAnd, take, codes, option_map}
use Rattle.std.specs.List.{Any}
use Rattle.std.specs.Str.{bytes_eq}
use Rattle.command_line.specs.Forms.{Form, audit_form, fresh, map_form, moved_form, mutators, next_form, plan_form, run_form, workers_form, word_form, workers}
use Rattle.command_line.specs.Given.{IsChosen, IsCommandWith, IsNumber, Use, is_among, text_given}
use Rattle.command_line.specs.declared.next.NextMarks.{NextMarks}
use Rattle.command_line.specs.declared.next.NextMarks.TheVariants.{Given, Reachable, ReachableFrom}
use Rattle.command_line.specs.declared.next.NextRun.{NextRun}
use Rattle.command_line.specs.declared.words.Task.{Task}
use Rattle.command_line.specs.declared.words.Task.TheVariants.{Plan, Word, Replay, Race, Compact, Audit, Next, Mark, Collect, Moved, Map, Help, Version, VersionLong}
use Rattle.command_line.specs.declared.words.TraceRun.{TraceRun}

-- the words are the command of this form, with this path of an image, with `--large` or without it, and this holds of
-- all that they give
pub record AsksWith (form : Form) (words : List (List ℕ)) (image : List ℕ) (is_large : Bool) (Holds : List Use → Type 0) : Type 0 where
  pub uses : List Use
  pub is_command : IsCommandWith form words uses
  pub with_image : text_given (codes "IMAGE") uses ≡ Some image
  pub with_large : is_large ≡ is_among (codes "large") uses
  pub with_others : Holds uses

-- this is the text that is given under this name
abbrev pub IsText : List ℕ → List ℕ → List Use → Type 0
IsText id text uses = text_given id uses ≡ Some text

-- the paths and numbers of a run are given
abbrev pub IsRunGiven : TraceRun → List Use → Type 0
IsRunGiven run uses =
    IsText (codes "TRACE") run.trace.now uses × IsText (codes "DUMP") run.dump.now uses × IsChosen mutators uses run.mutators × IsChosen fresh uses run.fresh

-- `next` marks by what roots reach
abbrev pub by_reach : NextMarks → Bool
by_reach (Given path) = false
by_reach marks = true

-- the path of the marks is given, and there is one worker; or what roots reach is marked, by workers as their option
-- says: the roots at the path that is given, or if none is the heap's own
abbrev pub AreMarksGiven : NextMarks → ℕ → List Use → Type 0
AreMarksGiven (Given path) n uses = IsText (codes "MARKS") path.now uses × (n ≡ 1)
AreMarksGiven Reachable n uses = (text_given (codes "roots") uses ≡ None) × IsChosen workers uses n
AreMarksGiven (ReachableFrom path) n uses = IsText (codes "roots") path.now uses × IsChosen workers uses n

-- the paths and numbers of a run of `next` are given, and `--reachable` if and only if it marks by what roots reach
abbrev pub IsNextGiven : NextRun → List Use → Type 0
IsNextGiven run uses =
    (by_reach run.marks ≡ is_among (codes "reachable") uses) × IsText (codes "TRACE") run.trace.now uses × AreMarksGiven run.marks run.workers uses
    × IsText (codes "NEW") run.new.now uses × IsChosen mutators uses run.mutators × IsChosen fresh uses run.fresh

-- the words are the command that asks for this task
abbrev pub AsksCommand : List (List ℕ) → Task → Type 0
AsksCommand words (Plan image is_large) = AsksWith plan_form words image.now is_large (λ uses. Unit {0})
AsksCommand words (Word image index is_large) =
    AsksWith word_form words image.now is_large (λ uses. IsSomeAnd (text_given (codes "INDEX") uses) (λ digits. IsNumber digits index))
AsksCommand words (Replay run) = AsksWith (run_form (codes "replay")) words run.image.now run.large (IsRunGiven run)
AsksCommand words (Race run) = AsksWith (run_form (codes "race")) words run.image.now run.large (IsRunGiven run)
AsksCommand words (Compact image dump n is_large) =
    AsksWith (workers_form (codes "compact") (codes "DUMP")) words image.now is_large (λ uses. IsText (codes "DUMP") dump.now uses × IsChosen workers uses n)
AsksCommand words (Audit run) =
    AsksWith audit_form words run.image.now run.large
    (λ uses. IsText (codes "DUMP") run.dump.now uses × (run.whole ≡ is_among (codes "whole") uses) × (run.words ≡ is_among (codes "words") uses)
    × (run.explain ≡ is_among (codes "explain") uses))
AsksCommand words (Next run) = AsksWith (next_form (by_reach run.marks)) words run.image.now run.large (IsNextGiven run)
AsksCommand words (Mark image new n is_large) =
    AsksWith (workers_form (codes "mark") (codes "NEW")) words image.now is_large (λ uses. IsText (codes "NEW") new.now uses × IsChosen workers uses n)
AsksCommand words (Collect image new n is_large) =
    AsksWith (workers_form (codes "collect") (codes "NEW")) words image.now is_large (λ uses. IsText (codes "NEW") new.now uses × IsChosen workers uses n)
AsksCommand words (Moved image moved is_large) = AsksWith moved_form words image.now is_large (IsText (codes "MOVED") moved.now)
AsksCommand words (Map run) =
    AsksWith map_form words run.image.now run.large
    (λ uses. (text_given (codes "dump") uses ≡ option_map (λ path. path.now) run.dump) × IsText (codes "OUT") run.out.now uses)
AsksCommand words other = ⊥

-- the words are no command
abbrev pub AsksNoCommand : List (List ℕ) → Type 0
AsksNoCommand words = (task : Task) → ¬ (AsksCommand words task)

-- `help`, `--help`, or a flag that begins with `-h`
abbrev pub is_help : List ℕ → Bool
is_help word = bytes_eq word (codes "help") || (bytes_eq word (codes "--help") || bytes_eq (take 2 word) (codes "-h"))

-- the words are no command, and one of them asks for help
abbrev pub AsksHelp : List (List ℕ) → Type 0
AsksHelp words = AsksNoCommand words × Any (λ word. is_help word ≡ true) words

-- `--version`, or a flag that begins with `-V`
abbrev pub is_version : List ℕ → Bool
is_version word = bytes_eq word (codes "--version") || bytes_eq (take 2 word) (codes "-V")

-- `--version --long`, and no other word
abbrev pub is_long : List (List ℕ) → Bool
is_long (first ∷ second ∷ []) = bytes_eq first (codes "--version") && bytes_eq second (codes "--long")
is_long _ = false

-- the words are no command, and the first of them asks for the version; they do not ask for the long one
abbrev pub AsksVersion : List (List ℕ) → Type 0
AsksVersion words =
    AsksNoCommand words × ((word : List ℕ) × (rest : List (List ℕ)) × (words ≡ word ∷ rest) × (is_version word ≡ true)) × (is_long words ≡ false)

-- the words are no command, and ask for the long version
abbrev pub AsksVersionLong : List (List ℕ) → Type 0
AsksVersionLong words = AsksNoCommand words × (is_long words ≡ true)

-- the words ask for this task
abbrev pub Asks : List (List ℕ) → Task → Type 0
Asks words (Help text) = AsksHelp words
Asks words Version = AsksVersion words
Asks words VersionLong = AsksVersionLong words
Asks words task = AsksCommand words task

-- 1 to 64 mutators or workers
abbrev pub IsCount : ℕ → Type 0
IsCount n = (1 ≤ n) × (n ≤ 64)

-- the counts of the task are lawful, and there are at most 4096 fresh pages
abbrev pub HasLawfulCounts : Task → Type 0
HasLawfulCounts (Replay run) = IsCount run.mutators × (run.fresh ≤ 4096)
HasLawfulCounts (Race run) = IsCount run.mutators × (run.fresh ≤ 4096)
HasLawfulCounts (Compact image dump n is_large) = IsCount n
HasLawfulCounts (Next run) = IsCount run.mutators × (run.fresh ≤ 4096) × IsCount run.workers
HasLawfulCounts (Mark image new n is_large) = IsCount n
HasLawfulCounts (Collect image new n is_large) = IsCount n
HasLawfulCounts other = Unit {0}
