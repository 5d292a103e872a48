-- The uses of arguments, options and switches that words make, one after the other, and how clap settles them.
use Rattle.std.proofs.Common.{◌≡◌, ◌∙◌, ◌&&◌, ◌||◌, ℕ, Bool, cond, refl, sym, ap, ap₂, true, false, true≢false, not, List, [], ◌∷◌, Option, Some, None, codes, fold}
use Rattle.std.specs.List.{list_all, list_any}
use Rattle.clap.specs.Takes.{is_given}
use Rattle.clap.specs.Walk.{Row, Rule, Text, arg_by_id, finished, is_empty, settled_rows, used, with_default, has_row}
use Rattle.clap.specs.Kinds.{Kinds, or_else}
use Rattle.clap.specs.Simple.{Shape, filled}
use Rattle.clap.specs.Faults.{defaults_fault, given_default_fault, settle_fault, use_fault}
use Rattle.clap.specs.declared.error.kind.ErrorKind.TheVariants as kind
use Rattle.clap.proofs.WalkLemmas.{both}
use Rattle.command_line.specs.Forms.{Choice, Form, Parameter}
use Rattle.command_line.specs.Given.{Use}
use Rattle.command_line.specs.Parser.{rule}
use Rattle.command_line.proofs.Levels.{shape}
use Rattle.command_line.proofs.LevelSteps.{at, end_from, fault_at_end, fault_from, holding}
use Rattle.command_line.proofs.FormRules.{all_rules, built_option, built_rule, built_switch, position_after, rules_from}
use Rattle.command_line.proofs.SwitchRows.{given_same, with_switches}

-- an argument or an option, with the text that it is given
abbrev pub Value : Type 0
Value = Parameter × Text

-- the rows after a use, and what is wrong with it
abbrev pub use_of : List Row → Use → List Row
use_of rows (p, Some text) = used (filled (rule p)) (text ∷ []) rows
use_of rows (p, None) = used (built_switch p) [] rows

abbrev pub use_kinds : List Row → Use → Kinds
use_kinds rows (p, Some text) = use_fault false (filled (rule p)) (text ∷ []) rows
use_kinds rows (p, None) = use_fault false (built_switch p) [] rows

-- a text that is pending, as clap holds it
abbrev pub held : Option Value → Option (Text × List Text)
held None = None
held (Some v) = Some (v.0.id, v.1 ∷ [])

-- the rows once it is settled, and what is wrong with it
abbrev pub base : List Row → Option Value → List Row
base rows None = rows
base rows (Some v) = use_of rows (v.0, Some v.1)

abbrev pub pending_kinds : List Row → Option Value → Kinds
pending_kinds rows None = []
pending_kinds rows (Some v) = use_kinds rows (v.0, Some v.1)

-- what is pending, before other uses
abbrev pub and_then : Option Value → List Use → List Use
and_then None us = us
and_then (Some v) us = (v.0, Some v.1) ∷ us

-- an argument that has no use is missing
abbrev pub is_missing : List Row → Parameter → Bool
is_missing rows a = not (is_given a.id rows)

-- ---- the end of the words

-- no kind is among these
abbrev is_nil : Kinds → Bool
is_nil [] = true
is_nil (k ∷ ks) = false

-- the default value that clap has for a rule is not wrong, if there is one
abbrev is_calm_default : Rule → Bool
is_calm_default a = is_empty a.defaults || is_nil (given_default_fault a a.defaults)

-- so it is of each option, switch and argument
pub calm_defaults : (options : List Choice) (switches arguments : List Parameter) → list_all is_calm_default (all_rules options switches arguments) ≡ true
calm_defaults [] switches arguments = among switches
  where
    alone : (i : ℕ) (arguments : List Parameter) → list_all is_calm_default (rules_from i arguments) ≡ true
    alone i [] = refl
    alone i (a ∷ rest) = alone (position_after i) rest

    among : (switches : List Parameter) → list_all is_calm_default (all_rules [] switches arguments) ≡ true
    among [] = alone 1 arguments
    among (w ∷ ws) = among ws
calm_defaults (o ∷ options) switches arguments = calm_defaults options switches arguments

-- then none is wrong
none_wrong : (rules : List Rule) (rows : List Row) → list_all is_calm_default rules ≡ true → defaults_fault rows rules ≡ []
unfolding defaults_fault
none_wrong [] rows h = refl
none_wrong (a ∷ rest) rows h =
    ap₂ or_else (cond_or (has_row a.id rows) (is_empty a.defaults) (given_default_fault a a.defaults) (both _ _ h).0) (none_wrong rest (with_default rows a) (both _ _ h).1)
  where
    -- if a second test passes, or nothing is to be chosen, nothing is
    cond_or : (b c : Bool) (x : Kinds) → (c || is_nil x) ≡ true → cond (b || c) [] x ≡ []
    cond_or true c x e = refl
    cond_or false true x e = refl
    cond_or false false [] e = refl
    cond_or false false (k ∷ ks) e = absurd (true≢false (sym e))

-- whether rows are kept or kept, they are
same_rows : (t : Bool) (rows : List Row) → cond t rows rows ≡ rows
same_rows true rows = refl
same_rows false rows = refl

-- and they add a row for each switch that has none, and no other
pub defaults_add : (options : List Choice) (switches arguments : List Parameter) (rows : List Row)
    → fold with_default rows (all_rules options switches arguments) ≡ with_switches switches rows
defaults_add [] switches arguments rows = among switches rows
  where
    alone : (i : ℕ) (arguments : List Parameter) (rows : List Row) → fold with_default rows (rules_from i arguments) ≡ rows
    alone i [] rows = same_rows (has_row (codes "help") rows) rows
    alone i (a ∷ rest) rows = ap (λ xs. fold with_default xs (rules_from (position_after i) rest)) (same_rows (has_row a.id rows) rows) ∙ alone (position_after i) rest rows

    among : (switches : List Parameter) (rows : List Row) → fold with_default rows (all_rules [] switches arguments) ≡ with_switches switches rows
    among [] rows = alone 1 arguments rows
    among (w ∷ ws) rows = among ws (with_default rows (built_switch w))
defaults_add (o ∷ options) switches arguments rows =
    ap (λ xs. fold with_default xs (all_rules options switches arguments)) (same_rows (has_row o.takes.id rows) rows) ∙ defaults_add options switches arguments rows

-- of a built command only arguments are required
pub missing_rules : (options : List Choice) (switches arguments : List Parameter) (rows : List Row)
    → list_any (λ a. a.required && not (is_given a.id rows)) (all_rules options switches arguments) ≡ list_any (is_missing rows) arguments
missing_rules [] switches arguments rows = among switches
  where
    alone : (i : ℕ) (arguments : List Parameter)
        → list_any (λ a. a.required && not (is_given a.id rows)) (rules_from i arguments) ≡ list_any (is_missing rows) arguments
    alone i [] = refl
    alone i (a ∷ rest) = ap (λ b. is_missing rows a || b) (alone (position_after i) rest)

    among : (switches : List Parameter)
        → list_any (λ a. a.required && not (is_given a.id rows)) (all_rules [] switches arguments) ≡ list_any (is_missing rows) arguments
    among [] = alone 1 arguments
    among (w ∷ ws) = among ws
missing_rules (o ∷ options) switches arguments rows = missing_rules options switches arguments rows

-- and the rows of switches let none be missing, and no other
missing_same : (switches : List Parameter) (rows : List Row) (arguments : List Parameter)
    → list_any (is_missing (with_switches switches rows)) arguments ≡ list_any (is_missing rows) arguments
missing_same switches rows [] = refl
missing_same switches rows (a ∷ rest) = ap₂ (λ x y. not x || y) (given_same a.id switches rows) (missing_same switches rows rest)

module _ (form : Form) where
  abbrev s : Shape
  s = shape form

  -- ---- one use

  -- this is an argument or an option of the command, which clap finds by its name
  pub record IsKnown (p : Parameter) : Type 0 where
    pub settles : (text : Text) (rows : List Row) → settled_rows s.rules (Some (p.id, text ∷ [])) rows ≡ use_of rows (p, Some text)
    pub faults : (text : Text) (rows : List Row) → settle_fault s.rules false (holding rows (Some (p.id, text ∷ []))) ≡ use_kinds rows (p, Some text)

  pub argument_known : (i : ℕ) (a : Parameter) → arg_by_id s.rules a.id ≡ Some (built_rule i a) → IsKnown a
  argument_known i a is = record { settles = λ text rows. rw is refl; faults = λ text rows. rw is refl }

  pub option_known : (o : Choice) → arg_by_id s.rules o.takes.id ≡ Some (built_option o) → IsKnown o.takes
  option_known o is = record { settles = λ text rows. rw is refl; faults = λ text rows. rw is refl }

  -- so is what is pending
  abbrev pub AreKnown : Option Value → Type 0
  AreKnown None = Unit {0}
  AreKnown (Some v) = IsKnown v.0

  module _ (rows : List Row) (pending : Option Value) (known : AreKnown pending) where
    pub settle_is : settle_fault s.rules false (holding rows (held pending)) ≡ pending_kinds rows pending
    settle_is = go pending known
      where
        go : (p : Option Value) → AreKnown p → settle_fault s.rules false (holding rows (held p)) ≡ pending_kinds rows p
        go None k = refl
        go (Some v) k = k.faults v.1 rows

    pub settled_is : settled_rows s.rules (held pending) rows ≡ base rows pending
    settled_is = go pending known
      where
        go : (p : Option Value) → AreKnown p → settled_rows s.rules (held p) rows ≡ base rows p
        go None k = refl
        go (Some v) k = k.settles v.1 rows

    -- at the end some argument may be missing
    module _ (position : ℕ) (ended : Bool) where
      pub at_end : fault_from s (at rows (held pending) position ended) []
          ≡ or_else (pending_kinds rows pending) (cond (list_any (is_missing (base rows pending)) form.arguments) (kind.MissingRequiredArgument ∷ []) [])
      at_end = fault_at_end s (at rows (held pending) position ended)
          ∙ rw (
            settle_is,
            settled_is,
            none_wrong s.rules (base rows pending) (calm_defaults form.options form.switches form.arguments),
            defaults_add form.options form.switches form.arguments (base rows pending),
            missing_rules form.options form.switches form.arguments (with_switches form.switches (base rows pending)),
            missing_same form.switches (base rows pending) form.arguments,
          ) refl

      pub found_at_end : finished s.rules (end_from s (at rows (held pending) position ended) []) ≡ with_switches form.switches (base rows pending)
      found_at_end = ap (λ xs. fold with_default xs s.rules) settled_is ∙ defaults_add form.options form.switches form.arguments (base rows pending)
