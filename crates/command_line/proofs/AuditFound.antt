-- From what the parser found of `audit` to what the words ask.
use Rattle.std.proofs.Common.{ℕ, List, [], ◌∷◌, codes, refl}
use Rattle.clap.specs.declared.parser.matches.Found.{Found}
use Rattle.command_line.specs.AskedTasks.{AsksCommand}
use Rattle.command_line.specs.Forms.{Parameter, audit_form, named}
use Rattle.command_line.specs.ParserFinds.{IsAuditFound, IsAuditRequest}
use Rattle.command_line.specs.declared.audit.AuditRun.{AuditRun}
use Rattle.command_line.specs.declared.words.Task.TheVariants.{Audit}
use Rattle.command_line.proofs.Found.{CommandAsked, argument_reported, argument_there, asked_with, switch_among}

-- the switches
abbrev large : Parameter
large = named (codes "large")

abbrev whole : Parameter
whole = named (codes "whole")

abbrev of_words : Parameter
of_words = named (codes "words")

abbrev explain : Parameter
explain = named (codes "explain")

module _ (words : List (List ℕ)) (f : Found) (asked : CommandAsked words f audit_form) where
  -- its paths are found if it is asked for
  pub audit_found : IsAuditRequest f
  audit_found = record {
    has_image = argument_there words f audit_form asked (named (codes "IMAGE")) refl;
    has_dump = argument_there words f audit_form asked (named (codes "DUMP")) refl;
  }

  -- and what was found is what the words ask
  pub audit_asked : (audit : AuditRun) → IsAuditFound f audit → AsksCommand words (Audit audit)
  audit_asked audit is = asked_with words f _ _ _ _ asked refl _ _ _ is.image_is is.large_is (
    argument_reported words f audit_form asked (named (codes "DUMP")) refl audit.dump.now is.dump_is,
    switch_among words f audit_form asked (large ∷ []) whole (of_words ∷ explain ∷ []) refl refl refl refl audit.whole is.whole_is,
    switch_among words f audit_form asked (large ∷ whole ∷ []) of_words (explain ∷ []) refl refl refl refl audit.words is.words_is,
    switch_among words f audit_form asked (large ∷ whole ∷ of_words ∷ []) explain [] refl refl refl refl audit.explain is.explain_is,
  )
