-- From what the parser found of `next` to what the words ask.
use Rattle.std.proofs.Common.{◌≡◌, ◌∙◌, ℕ, Bool, true, false, List, codes, is_some, refl, subst, sym, true≢false}
use Rattle.std.specs.Prelude.{IfSome}
use Rattle.clap.specs.Words.{first_value, one_text}
use Rattle.clap.specs.declared.parser.matches.Found.{Found}
use Rattle.command_line.specs.AskedTasks.{AreMarksGiven, AsksWith, AsksCommand, IsNextGiven}
use Rattle.command_line.specs.Forms.{fresh, mutators, named, next_form, path_option, workers}
use Rattle.command_line.specs.Given.{Takes}
use Rattle.command_line.specs.NextArguments.{AreMarksFound, AreWorkersFound, HasNext, IsNextFound, says_reachable}
use Rattle.command_line.specs.declared.next.NextMarks.{NextMarks}
use Rattle.command_line.specs.declared.next.NextMarks.TheVariants.{Given, Reachable, ReachableFrom}
use Rattle.command_line.specs.declared.next.NextRun.{NextRun}
use Rattle.command_line.specs.declared.words.Task.TheVariants.{Next}
use Rattle.command_line.proofs.Chosen.{HasArgument}
use Rattle.command_line.proofs.Found.{CommandAsked, argument_reported, argument_there, asked_with, choice_fits, choice_reported, option_read}
use Rattle.command_line.proofs.Reaching.{reachable_said}

-- without `--reachable`, the marks are there
marks_there : (r : Bool) (words : List (List ℕ)) (f : Found) → CommandAsked words f (next_form r) → r ≡ false → is_some (first_value f (codes "MARKS")) ≡ true
marks_there true words f asked e = absurd (true≢false e)
marks_there false words f asked e = argument_there words f (next_form false) asked (named (codes "MARKS")) refl

-- with it, a number of workers fits its bounds
workers_fit : (r : Bool) (words : List (List ℕ)) (f : Found) → CommandAsked words f (next_form r) → r ≡ true → IfSome (one_text f (codes "workers")) (Takes workers.takes)
workers_fit true words f asked e = choice_fits words f (next_form true) asked workers refl
workers_fit false words f asked e = absurd (true≢false (sym e))

-- both forms have the path of the new image
new_there : (r : Bool) → HasArgument (next_form r) (named (codes "NEW"))
new_there true = refl
new_there false = refl

-- the marks, and the number of workers, are those that are given
marks_reported : (r : Bool) (words : List (List ℕ)) (f : Found) → (asked : CommandAsked words f (next_form r)) → (marks : NextMarks) (n : ℕ) → AreMarksFound r f marks → AreWorkersFound r f n
    → AreMarksGiven marks n asked.given
marks_reported true words f asked (Given path) n is count = absurd (true≢false (sym is.reaches_is))
marks_reported false words f asked (Given path) n is count = (argument_reported words f (next_form false) asked (named (codes "MARKS")) refl path.now is.marks_are, count)
marks_reported true words f asked Reachable n is count = (
  sym (is.roots_are refl ∙ option_read words f (next_form true) asked (path_option (codes "roots")) refl),
  choice_reported words f (next_form true) asked workers refl n count,
)
marks_reported false words f asked Reachable n is count = absurd (true≢false is.reaches_is)
marks_reported true words f asked (ReachableFrom path) n is count = (
  sym (is.roots_are refl ∙ option_read words f (next_form true) asked (path_option (codes "roots")) refl),
  choice_reported words f (next_form true) asked workers refl n count,
)
marks_reported false words f asked (ReachableFrom path) n is count = absurd (true≢false is.reaches_is)

module _ (r : Bool) (words : List (List ℕ)) (says : r ≡ says_reachable words) (f : Found) (asked : CommandAsked words f (next_form r)) where
  -- what was found is whole
  pub next_found : HasNext r f
  next_found = record {
    has_image = argument_there words f (next_form r) asked (named (codes "IMAGE")) refl;
    has_trace = argument_there words f (next_form r) asked (named (codes "TRACE")) refl;
    has_marks = marks_there r words f asked;
    has_new = argument_there words f (next_form r) asked (named (codes "NEW")) (new_there r);
    fits_mutators = choice_fits words f (next_form r) asked mutators refl;
    fits_fresh = choice_fits words f (next_form r) asked fresh refl;
    fits_workers = workers_fit r words f asked;
  }

  -- and it is what the words ask
  pub next_asked : (run : NextRun) → IsNextFound r f run → AsksCommand words (Next run)
  next_asked run is =
      let others : IsNextGiven run asked.given = (
        is.marks_are.reaches_is ∙ says ∙ sym (reachable_said r words asked.given asked.is_command),
        argument_reported words f (next_form r) asked (named (codes "TRACE")) refl run.trace.now is.trace_is,
        marks_reported r words f asked run.marks run.workers is.marks_are is.workers_are,
        argument_reported words f (next_form r) asked (named (codes "NEW")) (new_there r) run.new.now is.new_is,
        choice_reported words f (next_form r) asked mutators refl run.mutators is.mutators_are,
        choice_reported words f (next_form r) asked fresh refl run.fresh is.fresh_are,
      ) in
      subst (λ (b : Bool). AsksWith (next_form b) words run.image.now run.large (IsNextGiven run)) (sym is.marks_are.reaches_is)
      (asked_with words f _ _ _ _ asked refl _ _ _ is.image_is is.large_is others)
