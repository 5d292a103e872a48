-- The options, switches and arguments of a built command. Each is found by its name, an argument also by its position.
-- There is one other flag, for help.
use Rattle.std.proofs.Common.{◌≡◌, ◌==◌, ◌<◌, ◌≤◌, ◌+◌, ◌&&◌, ◌||◌, ℕ, Bool, cond, true, false, not, refl, sym, ap, arith, List, [], ◌∷◌, ◌++◌, Option, Some, None, length, map, eq-eqb}
use Rattle.std.specs.Prelude.{find, min}
use Rattle.std.specs.List.{list_all, list_any}
use Rattle.std.specs.Option.{option_map_or}
use Rattle.std.specs.Str.{bytes_eq}
use Rattle.std.proofs.lemmas.Bool.{ne_eqb, or_parts}
use Rattle.std.proofs.lemmas.Option.{same_Some}
use Rattle.std.proofs.lemmas.Slice.Eq.{bytes_eq-Decides}
use Rattle.clap.specs.Lexer.{usize_max}
use Rattle.clap.specs.Walk.{Rule, Text, arg_by_id, arg_by_index, arg_by_long, arg_by_short, has_long, has_short}
use Rattle.clap.specs.Simple.{filled, filled_from, help_rule, with_index}
use Rattle.clap.proofs.WalkLemmas.{both}
use Rattle.command_line.specs.Forms.{Choice, Parameter}
use Rattle.command_line.specs.Parser.{option_rule, rule, switch_rule}
use Rattle.command_line.proofs.LevelSteps.{built_help}

-- an argument of a built command, at its position
abbrev pub built_rule : ℕ → Parameter → Rule
built_rule i a = with_index i (filled (rule a))

-- the position after a position
abbrev pub position_after : ℕ → ℕ
position_after i = min (i + 1) usize_max

-- the arguments from a position on, and the flag for help
abbrev pub rules_from : ℕ → List Parameter → List Rule
rules_from i arguments = filled_from i (map rule arguments ++ help_rule ∷ [])

-- one of the arguments has this name
abbrev pub is_name_in : List Parameter → Text → Bool
is_name_in arguments id = list_any (λ a. bytes_eq id a.id) arguments

-- no two arguments have one name
abbrev pub are_distinct : List Parameter → Bool
are_distinct [] = true
are_distinct (a ∷ rest) = not (is_name_in rest a.id) && are_distinct rest

-- what is not true is false
pub not_true : (t : Bool) → not t ≡ true → t ≡ false
not_true true e = sym e
not_true false e = refl

-- the first of several differs from the others, which differ
pub distinct_parts : (a : Parameter) (rest : List Parameter) → are_distinct (a ∷ rest) ≡ true → (is_name_in rest a.id ≡ false) × (are_distinct rest ≡ true)
distinct_parts a rest h = (not_true (is_name_in rest a.id) (both _ _ h).0, (both _ _ h).1)

-- a text is itself
pub same_text : (id : Text) → bytes_eq id id ≡ true
same_text id = (bytes_eq-Decides id id).1 refl

-- an option of a built command
abbrev pub built_option : Choice → Rule
built_option o = filled (option_rule o)

-- a switch of a built command
abbrev pub built_switch : Parameter → Rule
built_switch w = filled (switch_rule w)

-- all that a built command has: its options, its switches, its arguments and the flag for help
abbrev pub all_rules : List Choice → List Parameter → List Parameter → List Rule
all_rules options switches arguments = filled_from 1 ((map option_rule options ++ (map switch_rule switches ++ map rule arguments)) ++ help_rule ∷ [])

-- the option of a name
abbrev pub option_named : List Choice → Text → Option Choice
option_named options name = find (λ (o : Choice). bytes_eq o.takes.id name) options

-- the switch of a name
abbrev pub switch_named : List Parameter → Text → Option Parameter
switch_named switches name = find (λ (w : Parameter). bytes_eq w.id name) switches

-- the flag of a name that is no option: a switch, or else the flag for help
abbrev pub flag_named : List Parameter → Text → Option Rule
flag_named switches name = option_map_or (λ w. Some (built_switch w)) (switch_named switches name) (cond (has_long built_help name) (Some built_help) None)

-- a long name finds the option of that name, or else the switch, or else the flag for help, or nothing
pub by_long : (options : List Choice) (switches arguments : List Parameter) (name : Text) → arg_by_long (all_rules options switches arguments) name
    ≡ option_map_or (λ o. Some (built_option o)) (option_named options name) (flag_named switches name)
by_long [] switches arguments name = among switches
  where
    alone : (i : ℕ) (arguments : List Parameter) → arg_by_long (rules_from i arguments) name ≡ cond (has_long built_help name) (Some built_help) None
    alone i [] = refl
    alone i (a ∷ rest) = alone (position_after i) rest

    among : (switches : List Parameter) → arg_by_long (all_rules [] switches arguments) name ≡ flag_named switches name
    among [] = alone 1 arguments
    among (w ∷ ws) = go (bytes_eq w.id name) (among ws)
      where
        other : Option Rule
        other = cond (has_long built_help name) (Some built_help) None

        go : (t : Bool) → arg_by_long (all_rules [] ws arguments) name ≡ option_map_or (λ x. Some (built_switch x)) (switch_named ws name) other
            → cond (t || false) (Some (built_switch w)) (arg_by_long (all_rules [] ws arguments) name)
            ≡ option_map_or (λ x. Some (built_switch x)) (cond t (Some w) (switch_named ws name)) other
        go true later = refl
        go false later = later
by_long (o ∷ options) switches arguments name = go (bytes_eq o.takes.id name) (by_long options switches arguments name)
  where
    other : Option Rule
    other = flag_named switches name

    go : (t : Bool) → arg_by_long (all_rules options switches arguments) name ≡ option_map_or (λ c. Some (built_option c)) (option_named options name) other
        → cond (t || false) (Some (built_option o)) (arg_by_long (all_rules options switches arguments) name)
        ≡ option_map_or (λ c. Some (built_option c)) (cond t (Some o) (option_named options name)) other
    go true later = refl
    go false later = later

-- a short name finds the flag for help, or nothing
pub by_short : (options : List Choice) (switches arguments : List Parameter) (c : ℕ)
    → arg_by_short (all_rules options switches arguments) c ≡ cond (has_short built_help c) (Some built_help) None
by_short [] switches arguments c = among switches
  where
    alone : (i : ℕ) (arguments : List Parameter) → arg_by_short (rules_from i arguments) c ≡ cond (has_short built_help c) (Some built_help) None
    alone i [] = refl
    alone i (a ∷ rest) = alone (position_after i) rest

    among : (switches : List Parameter) → arg_by_short (all_rules [] switches arguments) c ≡ cond (has_short built_help c) (Some built_help) None
    among [] = alone 1 arguments
    among (w ∷ ws) = among ws
by_short (o ∷ options) switches arguments c = by_short options switches arguments c

-- an option is found by its name
pub by_id : (options : List Choice) (switches arguments : List Parameter) (o : Choice) → option_named options o.takes.id ≡ Some o
    → arg_by_id (all_rules options switches arguments) o.takes.id ≡ Some (built_option o)
by_id [] switches arguments o is = absurd cc
by_id (c ∷ options) switches arguments o is = go (bytes_eq c.takes.id o.takes.id) is (by_id options switches arguments o)
  where
    go : (t : Bool) → cond t (Some c) (option_named options o.takes.id) ≡ Some o
        → (option_named options o.takes.id ≡ Some o → arg_by_id (all_rules options switches arguments) o.takes.id ≡ Some (built_option o))
        → cond t (Some (built_option c)) (arg_by_id (all_rules options switches arguments) o.takes.id) ≡ Some (built_option o)
    go true is later = ap (λ x. Some (built_option x)) (same_Some c o is)
    go false is later = later is

-- from a position on, these arguments are found by their positions and by their names, and then none is
abbrev pub Ahead : List Rule → ℕ → List Parameter → Type 0
Ahead rules i [] = arg_by_index rules i ≡ None
Ahead rules i (a ∷ rest) = (arg_by_index rules i ≡ Some (built_rule i a)) × (arg_by_id rules a.id ≡ Some (built_rule i a)) × Ahead rules (position_after i) rest

-- so they are with one more argument before
ahead_behind : (b : Parameter) (j : ℕ) (rules : List Rule) (i : ℕ) (arguments : List Parameter) → j < i → j < usize_max → is_name_in arguments b.id ≡ false
    → Ahead rules i arguments → Ahead (built_rule j b ∷ rules) i arguments
ahead_behind b j rules i [] lt few none h =
    let apart : (j == i) ≡ false = ne_eqb j i (λ e. omega (arith, e)) in
    rw apart h
ahead_behind b j rules i (a ∷ rest) lt few none h =
    let apart : (j == i) ≡ false = ne_eqb j i (λ e. omega (arith, e)) in
    let named : bytes_eq b.id a.id ≡ false = (or_parts _ _ none).0 in
    (rw apart h.0, rw named h.1, ahead_behind b j rules (position_after i) rest (omega arith) few (or_parts _ _ none).1 h.2)

-- the arguments of a built command are ahead of its first position
pub ahead : (i : ℕ) (arguments : List Parameter) → i + length arguments ≤ usize_max → are_distinct arguments ≡ true → Ahead (rules_from i arguments) i arguments
ahead i [] few distinct = refl
ahead i (a ∷ rest) few distinct =
    let here : (i == i) ≡ true = eq-eqb i i refl in (
      rw here refl,
      rw (same_text a.id) refl,
      ahead_behind a i (rules_from (position_after i) rest) (position_after i) rest (omega arith) (omega arith) (distinct_parts a rest distinct).0
          (ahead (position_after i) rest (omega arith) (distinct_parts a rest distinct).1),
    )

-- no argument has the name of an option
abbrev pub are_apart : List Choice → List Parameter → Bool
are_apart options arguments = list_all (λ (a : Parameter). not (list_any (λ (o : Choice). bytes_eq o.takes.id a.id) options)) arguments

-- with one more option before, the arguments are ahead still
ahead_behind_option : (o : Choice) (rules : List Rule) (i : ℕ) (arguments : List Parameter) → are_apart (o ∷ []) arguments ≡ true
    → Ahead rules i arguments → Ahead (built_option o ∷ rules) i arguments
ahead_behind_option o rules i [] apart h = h
ahead_behind_option o rules i (a ∷ rest) apart h =
    let parts = both _ _ apart in
    let named : bytes_eq o.takes.id a.id ≡ false = (or_parts _ _ (not_true _ parts.0)).0 in
    (h.0, rw named h.1, ahead_behind_option o rules (position_after i) rest parts.1 h.2)

-- names apart from several options are apart from the first, and from the others
apart_parts : (o : Choice) (options : List Choice) (arguments : List Parameter) → are_apart (o ∷ options) arguments ≡ true
    → (are_apart (o ∷ []) arguments ≡ true) × (are_apart options arguments ≡ true)
apart_parts o options [] h = (refl, refl)
apart_parts o options (a ∷ rest) h =
    let parts = both _ _ h in
    let two = or_parts (bytes_eq o.takes.id a.id) (list_any (λ (x : Choice). bytes_eq x.takes.id a.id) options) (not_true _ parts.0) in
    let named : bytes_eq o.takes.id a.id ≡ false = two.0 in
    let others : list_any (λ (x : Choice). bytes_eq x.takes.id a.id) options ≡ false = two.1 in
    let later = apart_parts o options rest parts.1 in
    (rw named later.0, rw others later.1)

-- one of the switches has this name
abbrev pub is_switch : List Parameter → Text → Bool
is_switch switches name = list_any (λ (w : Parameter). bytes_eq w.id name) switches

-- no argument has the name of a switch
abbrev pub are_clear : List Parameter → List Parameter → Bool
are_clear switches arguments = list_all (λ (a : Parameter). not (is_switch switches a.id)) arguments

-- with one more switch before, the arguments are ahead still
ahead_behind_switch : (w : Parameter) (rules : List Rule) (i : ℕ) (arguments : List Parameter) → are_clear (w ∷ []) arguments ≡ true
    → Ahead rules i arguments → Ahead (built_switch w ∷ rules) i arguments
ahead_behind_switch w rules i [] clear h = h
ahead_behind_switch w rules i (a ∷ rest) clear h =
    let parts = both _ _ clear in
    let named : bytes_eq w.id a.id ≡ false = (or_parts _ _ (not_true _ parts.0)).0 in
    (h.0, rw named h.1, ahead_behind_switch w rules (position_after i) rest parts.1 h.2)

-- names clear of several switches are clear of the first, and of the others
clear_parts : (w : Parameter) (switches : List Parameter) (arguments : List Parameter) → are_clear (w ∷ switches) arguments ≡ true
    → (are_clear (w ∷ []) arguments ≡ true) × (are_clear switches arguments ≡ true)
clear_parts w switches [] h = (refl, refl)
clear_parts w switches (a ∷ rest) h =
    let parts = both _ _ h in
    let two = or_parts (bytes_eq w.id a.id) (is_switch switches a.id) (not_true _ parts.0) in
    let named : bytes_eq w.id a.id ≡ false = two.0 in
    let others : is_switch switches a.id ≡ false = two.1 in
    let later = clear_parts w switches rest parts.1 in
    (rw named later.0, rw others later.1)

-- so they are after all switches
switches_ahead : (switches arguments : List Parameter) → 1 + length arguments ≤ usize_max → are_distinct arguments ≡ true → are_clear switches arguments ≡ true
    → Ahead (all_rules [] switches arguments) 1 arguments
switches_ahead [] arguments few distinct clear = ahead 1 arguments few distinct
switches_ahead (w ∷ switches) arguments few distinct clear =
    let parts = clear_parts w switches arguments clear in
    ahead_behind_switch w (all_rules [] switches arguments) 1 arguments parts.0 (switches_ahead switches arguments few distinct parts.1)

-- and after all options
pub all_ahead : (options : List Choice) (switches arguments : List Parameter) → 1 + length arguments ≤ usize_max → are_distinct arguments ≡ true
    → are_clear switches arguments ≡ true → are_apart options arguments ≡ true → Ahead (all_rules options switches arguments) 1 arguments
all_ahead [] switches arguments few distinct clear apart = switches_ahead switches arguments few distinct clear
all_ahead (o ∷ options) switches arguments few distinct clear apart =
    let parts = apart_parts o options arguments apart in
    ahead_behind_option o (all_rules options switches arguments) 1 arguments parts.0 (all_ahead options switches arguments few distinct clear parts.1)
