-- What the words after a command's name are if clap takes them, for each command.
use Rattle.std.proofs.Common.{◌≡◌, ◌∙◌, ◌⊎◌, ◌<◌, sym, ap, subst, refl, true, false, arith, List, [], length, map, None, inl, inr}
use Rattle.std.specs.List.{All, Any, list_any}
use Rattle.std.specs.Str.{IsUtf8}
use Rattle.std.proofs.lemmas.List.Folds.{Any-from_list_any}
use Rattle.clap.specs.Kinds.{IsAmong}
use Rattle.clap.specs.Lexer.{usize_max}
use Rattle.clap.specs.Simple.{Shape}
use Rattle.clap.specs.Walk.{Text, rows_after}
use Rattle.clap.specs.declared.error.kind.ErrorKind.TheVariants as kind
use Rattle.command_line.specs.AskedTasks.{is_help}
use Rattle.command_line.specs.Forms.{Form}
use Rattle.command_line.specs.Given.{Gives, Use}
use Rattle.command_line.proofs.KindLists.{NoAnswer, Refuses, no_answer_among}
use Rattle.command_line.proofs.Levels.{level, shape}
use Rattle.command_line.proofs.LevelSteps.{level_is}
use Rattle.command_line.proofs.FormRules.{Ahead, all_ahead, are_apart, are_clear, are_distinct}
use Rattle.command_line.proofs.SwitchRows.{with_switches}
use Rattle.command_line.proofs.Follows.{AreFlags, Follows, follows}
use Rattle.command_line.proofs.Readings.{Reading, reading}
use Rattle.command_line.proofs.Settled.{AreWell, row, uses_calm, well_from, well_to}

-- A form that clap can read: no two arguments have the same name, no argument has the name of an option or of a switch,
-- the name of each option and switch is one that a flag can have and that the others do not have, and there are not too
-- many arguments.
pub record IsReadable (form : Form) : Type 0 where
  pub distinct : are_distinct form.arguments ≡ true
  pub apart : are_apart form.options form.arguments ≡ true
  pub clear : are_clear form.switches form.arguments ≡ true
  pub flags : AreFlags form
  pub few : length form.arguments < usize_max

module _ (form : Form) (readable : IsReadable form) where
  abbrev s : Shape
  s = shape form

  -- at the beginning all arguments are ahead
  at_first : Ahead s.rules 1 form.arguments
  at_first = let few = readable.few in all_ahead form.options form.switches form.arguments (omega arith) readable.distinct readable.clear readable.apart

  -- words that give uses are followed by them
  followed : {rest : List Text} {given : List Use} → Gives form false form.arguments rest given → Follows form [] None 1 false rest given
  followed g = follows form readable.flags g [] None tt 1 at_first

  -- the words give uses as the form says, and what clap finds is their rows, and one for each switch that was not given
  pub record FormTaken (rest : List Text) : Type 0 where
    pub given : List Use
    pub gives : Gives form false form.arguments rest given
    pub well : AreWell form [] given
    pub found : rows_after s.rules [] rest ≡ with_switches form.switches (map row given)

  -- if clap takes the words after the command's name, they are so
  pub form_taken : (rest : List Text) → All IsUtf8 rest → level s rest ≡ [] → FormTaken rest
  form_taken rest utf8 none = go (reading form readable.flags rest utf8 at_first)
    where
      go : Reading form readable.flags false form.arguments 1 rest → FormTaken rest
      go (inl (given, g)) =
          let is = followed g in
          let both = well_from form [] given (sym is.kinds ∙ sym (level_is s rest) ∙ none) in
          record { given = given; gives = g; well = both.0; found = is.rows_are ∙ ap (with_switches form.switches) both.1 }
      go (inr bad) = absurd ((bad [] None tt).some (sym (level_is s rest) ∙ none))

  -- and it takes words that give texts so
  pub form_takes : (rest : List Text) (given : List Use) → Gives form false form.arguments rest given → AreWell form [] given → level s rest ≡ []
  form_takes rest given g well = level_is s rest ∙ (followed g).kinds ∙ well_to form [] given well

  -- what is wrong with words refuses them, or holds no answer
  refused_or_calm : (rest : List Text) → All IsUtf8 rest → NoAnswer (level s rest) ⊎ Refuses (list_any is_help rest) (level s rest)
  refused_or_calm rest utf8 = go (reading form readable.flags rest utf8 at_first)
    where
      go : Reading form readable.flags false form.arguments 1 rest → NoAnswer (level s rest) ⊎ Refuses (list_any is_help rest) (level s rest)
      go (inl (given, g)) = inl (subst NoAnswer (sym (level_is s rest ∙ (followed g).kinds)) (uses_calm form [] given))
      go (inr bad) = inr (subst (Refuses (list_any is_help rest)) (sym (level_is s rest)) (bad [] None tt))

  -- the answer to a flag for help comes only if a word after the name is for help
  pub form_help : (rest : List Text) → All IsUtf8 rest → IsAmong kind.DisplayHelp (level s rest) → Any (λ word. is_help word ≡ true) rest
  form_help rest utf8 h = Any-from_list_any is_help rest (go (refused_or_calm rest utf8))
    where
      go : NoAnswer (level s rest) ⊎ Refuses (list_any is_help rest) (level s rest) → list_any is_help rest ≡ true
      go (inl calm) = absurd (no_answer_among kind.DisplayHelp refl (level s rest) calm h)
      go (inr refuses) = refuses.help h

  -- and the answer with the version never comes there
  pub form_no_version : (rest : List Text) → All IsUtf8 rest → IsAmong kind.DisplayVersion (level s rest) → ⊥
  form_no_version rest utf8 h = go (refused_or_calm rest utf8)
    where
      go : NoAnswer (level s rest) ⊎ Refuses (list_any is_help rest) (level s rest) → ⊥
      go (inl calm) = no_answer_among kind.DisplayVersion refl (level s rest) calm h
      go (inr refuses) = refuses.version h
