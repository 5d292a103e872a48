-- No answer, of help or of the version, comes of the use of an argument that is no request for one.
use Rattle.std.proofs.Common.{◌≡◌, ◌&&◌, ◌==◌, ◌∷◌, ℕ, Bool, List, false, not, refl, [], length, true≢false}
use Rattle.std.specs.Prelude.{nat_lt}
use Rattle.clap.specs.Facts.{parser_of_value, unwrap_or_range}
use Rattle.clap.specs.Values.{is_request, refused_kind}
use Rattle.clap.specs.ValueTests.{accepts}
use Rattle.clap.specs.Kinds.{range_kinds, value_kinds, values_kinds}
use Rattle.clap.specs.Walk.{Row, Rule, Text, action_of, has_row, most_values, values_or_missing}
use Rattle.clap.specs.Faults.{action_fault, count_fault, repeat_fault, set_fault, use_fault, values_fault}
use Rattle.clap.specs.declared.builder.action.ArgAction.{ArgAction}
use Rattle.clap.specs.declared.builder.action.ArgAction.TheVariants as action
use Rattle.clap.specs.declared.builder.value_parser.ValueParser.{ValueParser}
use Rattle.clap.specs.declared.builder.value_parser.ValueParser.TheVariants as vp
use Rattle.clap.specs.declared.error.kind.ErrorKind.TheVariants as kind
use Rattle.command_line.proofs.KindLists.{NoAnswer, no_answer_cond, no_answer_or}

-- no answer comes of a wrong count of values
range_no_answer : (least most n : ℕ) → NoAnswer (range_kinds least most n)
range_no_answer least most n =
    no_answer_cond (nat_lt 0 least && n == 0) (kind.InvalidValue ∷ []) _ refl
    (no_answer_cond (least == most) _ _ (no_answer_cond (least == n) [] (kind.WrongNumberOfValues ∷ []) refl refl)
    (no_answer_cond (nat_lt n least) (kind.TooFewValues ∷ []) _ refl (no_answer_cond (nat_lt most n) (kind.TooManyValues ∷ []) [] refl refl)))

-- nor of a value that a parser refuses
refused_no_answer : (p : ValueParser) → NoAnswer (refused_kind p ∷ [])
refused_no_answer vp.NonEmptyString = refl
refused_no_answer _ = refl

module _ (ignore_case : Bool) (p : ValueParser) where
  -- nor of any value
  value_no_answer : (text : Text) → NoAnswer (value_kinds ignore_case p text)
  value_no_answer text = no_answer_cond (accepts ignore_case p text) [] (refused_kind p ∷ []) refl (refused_no_answer p)

  -- nor of several
  values_no_answer : (texts : List Text) → NoAnswer (values_kinds ignore_case p texts)
  values_no_answer [] = refl
  values_no_answer (v ∷ vs) = no_answer_or (value_kinds ignore_case p v) (values_kinds ignore_case p vs) (value_no_answer v) (values_no_answer vs)

module _ (again : Bool) (a : Rule) (rows : List Row) where
  -- nor of values that are set
  set_no_answer : (values : List Text) → NoAnswer (set_fault again a values rows)
  set_no_answer values = no_answer_or (repeat_fault again a.id rows) (values_fault a values)
      (no_answer_cond (has_row a.id rows && not again) (kind.ArgumentConflict ∷ []) [] refl refl) (values_no_answer a.ignore_case (parser_of_value a.parser) values)

  -- nor of a count
  count_no_answer : (values : List Text) → NoAnswer (count_fault a values rows)
  count_no_answer [] = value_no_answer a.ignore_case (parser_of_value a.parser) _
  count_no_answer (v ∷ vs) = values_no_answer a.ignore_case (parser_of_value a.parser) (v ∷ vs)

  -- nor of any action that is no request
  action_no_answer : (x : ArgAction) (values : List Text) → is_request x ≡ false → NoAnswer (action_fault x again a values rows)
  action_no_answer action.Set values h = set_no_answer values
  action_no_answer action.SetTrue values h = set_no_answer values
  action_no_answer action.SetFalse values h = set_no_answer values
  action_no_answer action.Append values h = values_no_answer a.ignore_case (parser_of_value a.parser) values
  action_no_answer action.Count values h = count_no_answer values
  action_no_answer _ values h = absurd (true≢false h)

  -- nor of a use of an argument with this action
  pub use_no_answer : (values : List Text) → is_request (action_of a) ≡ false → NoAnswer (use_fault again a values rows)
  use_no_answer values h =
      let least : ℕ = (unwrap_or_range a.range).start_inclusive in
      no_answer_or (range_kinds least (most_values a) (length values)) (action_fault (action_of a) again a (values_or_missing a values) rows)
      (range_no_answer least (most_values a) (length values)) (action_no_answer (action_of a) (values_or_missing a values) h)
