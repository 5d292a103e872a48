-- What the parser finds for `next`.
use Rattle.std.specs.Prelude.{◌≡◌, ℕ, ◌&&◌, ◌||◌, Bool, List, [], ◌∷◌, Option, Some, None, codes, false, true, is_some, not, IfSome}
use Rattle.std.specs.Str.{bytes_eq}
use Rattle.clap.specs.Words.{first_value, one_text}
use Rattle.clap.specs.declared.parser.matches.Found.{Found}
use Rattle.command_line.specs.AskedTasks.{by_reach}
use Rattle.command_line.specs.Forms.{fresh, mutators, workers}
use Rattle.command_line.specs.Given.{IsNumberOr, Takes}
use Rattle.command_line.specs.ParserFinds.{IsFlag}
use Rattle.command_line.specs.declared.next.NextMarks.{NextMarks}
use Rattle.command_line.specs.declared.next.NextMarks.TheVariants.{Given, Reachable, ReachableFrom}
use Rattle.command_line.specs.declared.next.NextRun.{NextRun}

-- the path of the marks that are given; there is none if the heap is marked by what its roots reach
abbrev pub marks_path : NextMarks → Option (List ℕ)
marks_path (Given path) = Some path.now
marks_path Reachable = None
marks_path (ReachableFrom path) = None

-- the path of the roots from which objects are reached; there is none if the roots stay
abbrev pub roots_path : NextMarks → Option (List ℕ)
roots_path (Given path) = None
roots_path Reachable = None
roots_path (ReachableFrom path) = Some path.now

-- a word before the first `--` is `--reachable`
abbrev pub says_reachable : List (List ℕ) → Bool
says_reachable [] = false
says_reachable (word ∷ rest) = not (bytes_eq word (codes "--")) && (bytes_eq word (codes "--reachable") || says_reachable rest)

-- each path was found, with `--reachable` or without it, and for each option that was given a text that it takes
pub record HasNext (reaches : Bool) (found : Found) : Type 0 where
  pub has_image : is_some (first_value found (codes "IMAGE")) ≡ true
  pub has_trace : is_some (first_value found (codes "TRACE")) ≡ true
  pub has_marks : reaches ≡ false → is_some (first_value found (codes "MARKS")) ≡ true
  pub has_new : is_some (first_value found (codes "NEW")) ≡ true
  pub fits_mutators : IfSome (one_text found (codes "mutators")) (Takes mutators.takes)
  pub fits_fresh : IfSome (one_text found (codes "fresh")) (Takes fresh.takes)
  pub fits_workers : reaches ≡ true → IfSome (one_text found (codes "workers")) (Takes workers.takes)

-- these are the marks that were found: those at a path, or with `--reachable` what roots reach, and their path if
-- there is one
pub record AreMarksFound (reaches : Bool) (found : Found) (marks : NextMarks) : Type 0 where
  pub reaches_is : by_reach marks ≡ reaches
  pub marks_are : IfSome (marks_path marks) (λ path. Some path ≡ first_value found (codes "MARKS"))
  pub roots_are : reaches ≡ true → roots_path marks ≡ first_value found (codes "roots")

-- this is the number of workers that was found with `--reachable`, and 1 without it
abbrev pub AreWorkersFound : Bool → Found → ℕ → Type 0
AreWorkersFound true found count = IsNumberOr workers.default (one_text found (codes "workers")) count
AreWorkersFound false found count = count ≡ 1

-- these are what was found, with the default of each option that was left out
pub record IsNextFound (reaches : Bool) (found : Found) (run : NextRun) : Type 0 where
  pub image_is : Some run.image.now ≡ first_value found (codes "IMAGE")
  pub trace_is : Some run.trace.now ≡ first_value found (codes "TRACE")
  pub marks_are : AreMarksFound reaches found run.marks
  pub new_is : Some run.new.now ≡ first_value found (codes "NEW")
  pub mutators_are : IsNumberOr mutators.default (one_text found (codes "mutators")) run.mutators
  pub fresh_are : IsNumberOr fresh.default (one_text found (codes "fresh")) run.fresh
  pub workers_are : AreWorkersFound reaches found run.workers
  pub large_is : IsFlag (one_text found (codes "large")) run.large
