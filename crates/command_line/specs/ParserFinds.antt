-- What the parser finds for a run of a trace, for `audit` and for `map`, and what it answers in place of a command.
use Rattle.std.specs.Prelude.{◌≡◌, Bool, true, false, List, ℕ, Option, Some, codes, is_some, option_map, IfSome}
use Rattle.clap.specs.Words.{first_value, one_text}
use Rattle.clap.specs.declared.error.kind.ErrorKind.{ErrorKind}
use Rattle.clap.specs.declared.error.kind.ErrorKind.TheVariants.{DisplayHelp, DisplayVersion}
use Rattle.clap.specs.declared.parser.matches.Found.{Found}
use Rattle.command_line.specs.Forms.{fresh, mutators}
use Rattle.command_line.specs.Given.{IsNumberOr, Takes}
use Rattle.command_line.specs.declared.audit.AuditRun.{AuditRun}
use Rattle.command_line.specs.declared.mapping.MapRun.{MapRun}
use Rattle.command_line.specs.declared.words.Task.{Task}
use Rattle.command_line.specs.declared.words.Task.TheVariants.{Help, Version}
use Rattle.command_line.specs.declared.words.TraceRun.{TraceRun}

-- what a switch is, by the text that the parser has for it: `true` if it is given, and else `false`
abbrev pub IsFlag : Option (List ℕ) → Bool → Type 0
IsFlag text b = (text ≡ Some (codes "true") → b ≡ true) × (text ≡ Some (codes "false") → b ≡ false)

-- a run was found: each of its paths, and for each option that was given a text that it takes
pub record IsRunRequest (found : Found) : Type 0 where
  pub has_image : is_some (first_value found (codes "IMAGE")) ≡ true
  pub has_trace : is_some (first_value found (codes "TRACE")) ≡ true
  pub has_dump : is_some (first_value found (codes "DUMP")) ≡ true
  pub fits_mutators : IfSome (one_text found (codes "mutators")) (Takes mutators.takes)
  pub fits_fresh : IfSome (one_text found (codes "fresh")) (Takes fresh.takes)

-- the run is the one that was found, with the default of each option that was left out
pub record IsRunFound (found : Found) (run : TraceRun) : Type 0 where
  pub image_is : Some run.image.now ≡ first_value found (codes "IMAGE")
  pub trace_is : Some run.trace.now ≡ first_value found (codes "TRACE")
  pub dump_is : Some run.dump.now ≡ first_value found (codes "DUMP")
  pub mutators_are : IsNumberOr mutators.default (one_text found (codes "mutators")) run.mutators
  pub fresh_are : IsNumberOr fresh.default (one_text found (codes "fresh")) run.fresh
  pub large_is : IsFlag (one_text found (codes "large")) run.large

-- an audit was found: both of its paths
pub record IsAuditRequest (found : Found) : Type 0 where
  pub has_image : is_some (first_value found (codes "IMAGE")) ≡ true
  pub has_dump : is_some (first_value found (codes "DUMP")) ≡ true

-- the audit is the one that was found
pub record IsAuditFound (found : Found) (audit : AuditRun) : Type 0 where
  pub image_is : Some audit.image.now ≡ first_value found (codes "IMAGE")
  pub dump_is : Some audit.dump.now ≡ first_value found (codes "DUMP")
  pub whole_is : IsFlag (one_text found (codes "whole")) audit.whole
  pub words_is : IsFlag (one_text found (codes "words")) audit.words
  pub explain_is : IsFlag (one_text found (codes "explain")) audit.explain
  pub large_is : IsFlag (one_text found (codes "large")) audit.large

-- a picture was asked for: both of its paths were found
pub record IsMapRequest (found : Found) : Type 0 where
  pub has_image : is_some (first_value found (codes "IMAGE")) ≡ true
  pub has_out : is_some (first_value found (codes "OUT")) ≡ true

-- these are the arguments that were found
pub record IsMapFound (found : Found) (run : MapRun) : Type 0 where
  pub image_is : Some run.image.now ≡ first_value found (codes "IMAGE")
  pub dump_is : option_map (λ path. path.now) run.dump ≡ first_value found (codes "dump")
  pub out_is : Some run.out.now ≡ first_value found (codes "OUT")
  pub large_is : IsFlag (one_text found (codes "large")) run.large

-- the task prints an answer of this kind: a text of help, or the version
abbrev pub IsAnswerOf : ErrorKind → Task → Type 0
IsAnswerOf kind (Help text) = kind ≡ DisplayHelp
IsAnswerOf kind Version = kind ≡ DisplayVersion
IsAnswerOf kind command = ⊥
