-- What is given under a name is given to the option, the argument or the switch of that name.
use Rattle.std.proofs.Common.{◌≡◌, ◌∙◌, ◌||◌, ◌&&◌, Bool, cond, true, false, not, refl, sym, ap, ap₂, subst, List, [], ◌∷◌, Option, Some, None, codes, is_some, map, true≢false}
use Rattle.std.specs.Prelude.{find, option_and_then, option_map, slice_get, unwrap_or, IfSome}
use Rattle.std.specs.List.{All, list_all, list_any}
use Rattle.std.specs.Str.{bytes_eq}
use Rattle.std.proofs.lemmas.Bool.{or_parts}
use Rattle.std.proofs.lemmas.Option.{none-some, same_Some}
use Rattle.std.proofs.lemmas.Slice.Eq.{bytes_eq-Decides}
use Rattle.clap.specs.Walk.{Row, Text, first_of, has_row, one_of, row_text, with_default}
use Rattle.clap.proofs.WalkLemmas.{both}
use Rattle.command_line.specs.Forms.{Choice, Form, Parameter}
use Rattle.command_line.specs.Given.{Gives, HasOption, HasSwitch, Takes, Use, is_among, text_given}
use Rattle.command_line.specs.Given.Gives.{apart, joined, no_word, switched, then_values, to_next}
use Rattle.command_line.proofs.Firsts.{any_found, found_all, found_any, found_holds}
use Rattle.command_line.proofs.FormLevel.{IsReadable}
use Rattle.command_line.proofs.FormRules.{are_apart, are_clear, are_distinct, built_switch, distinct_parts, is_name_in, is_switch, not_true, option_named}
use Rattle.command_line.proofs.Follows.{no_option}
use Rattle.command_line.proofs.Settled.{found_row, is_used, row, row_used, use_named}
use Rattle.command_line.proofs.SwitchRows.{named_last, others_named, row_added, row_kept, row_named, with_switches}

-- the command has this argument, and it is the first of its name
abbrev pub HasArgument : Form → Parameter → Type 0
HasArgument form a = find (λ (other : Parameter). bytes_eq other.id a.id) form.arguments ≡ Some a

-- one of several has a name if it is the same as that of one that is found
named_any : {X : Type 0} (name : X → Text) (xs : List X) (x : X) (id : Text) → find (λ (y : X). bytes_eq (name y) (name x)) xs ≡ Some x → name x ≡ id
    → list_any (λ (y : X). bytes_eq (name y) id) xs ≡ true
named_any {X} name xs x id is same = subst (λ (n : Text). list_any (λ (y : X). bytes_eq (name y) n) xs ≡ true) same (found_any (λ (y : X). bytes_eq (name y) (name x)) xs x is)

-- ---- each use of a name

-- this holds of a use of each of these arguments that has the name
abbrev HoldsAhead : Text → (Use → Type 0) → List Parameter → Type 0
HoldsAhead id P [] = Unit {0}
HoldsAhead id P (a ∷ rest) = ((text : Text) → bytes_eq a.id id ≡ true → P (a, Some text)) × HoldsAhead id P rest

module _ (form : Form) (id : Text) (P : Use → Type 0) (of_option : (o : Choice) (text : Text) → HasOption form o → bytes_eq o.takes.id id ≡ true → P (o.takes, Some text))
    (of_switch : (w : Parameter) → HasSwitch form w → bytes_eq w.id id ≡ true → P (w, None)) where
  -- what holds of a first use of the name, and of the one that is found in the others, holds of the one that is found
  first_holds : (first : Use) (given : List Use) (u : Use) → (bytes_eq first.0.id id ≡ true → P first) → (use_named given id ≡ Some u → P u) → use_named (first ∷ given) id ≡ Some u → P u
  first_holds first given u here later is = go (bytes_eq first.0.id id) refl is
    where
      go : (t : Bool) → bytes_eq first.0.id id ≡ t → cond t (Some first) (use_named given id) ≡ Some u → P u
      go true e at_first = subst P (same_Some first u at_first) (here e)
      go false e behind = later behind

  -- what holds of the options, switches and arguments of the name holds of the use that is found
  use_holds : {ended : Bool} {ahead : List Parameter} {words : List Text} {given : List Use} → Gives form ended ahead words given → HoldsAhead id P ahead
      → (u : Use) → use_named given id ≡ Some u → P u
  use_holds no_word h u is = absurd cc
  use_holds (then_values dashes more) h u is = use_holds more h u is
  use_holds (to_next {ended} {a} {ahead} {word} {rest} {given} flag more) h u is = first_holds (a, Some word) given u (h.0 word) (use_holds more h.1 u) is
  use_holds (apart {o} {ahead} {word} {text} {rest} {given} has spelled flag more) h u is =
      first_holds (o.takes, Some text) given u (of_option o text has) (use_holds more h u) is
  use_holds (joined {o} {ahead} {word} {text} {rest} {given} has spelled more) h u is =
      first_holds (o.takes, Some text) given u (of_option o text has) (use_holds more h u) is
  use_holds (switched {s = w} {ahead} {word} {rest} {given} has spelled more) h u is = first_holds (w, None) given u (of_switch w has) (use_holds more h u) is

-- ---- a name that no switch has

module _ (form : Form) {words : List Text} {given : List Use} (gives : Gives form false form.arguments words given) (id : Text) (none : is_switch form.switches id ≡ false) where
  -- its use has a text
  own_text : (u : Use) → use_named given id ≡ Some u → is_some u.1 ≡ true
  own_text = use_holds form id (λ (u : Use). is_some u.1 ≡ true) (λ o text has e. refl)
      (λ w has e. absurd (true≢false (sym (named_any (λ (x : Parameter). x.id) form.switches w id has ((bytes_eq-Decides w.id id).0 e)) ∙ none))) gives (all_ahead form.arguments)
    where
      all_ahead : (ahead : List Parameter) → HoldsAhead id (λ (u : Use). is_some u.1 ≡ true) ahead
      all_ahead [] = tt
      all_ahead (a ∷ rest) = (λ text e. refl, all_ahead rest)

  -- which is given if and only if the name is used
  pub text_used : is_some (text_given id given) ≡ is_used id given
  text_used = go (use_named given id) refl ∙ sym (any_found (λ (u : Use). bytes_eq u.0.id id) given)
    where
      go : (o : Option Use) → use_named given id ≡ o → is_some (option_and_then (λ (u : Use). u.1) (use_named given id)) ≡ is_some (use_named given id)
      go None e = rw e refl
      go (Some u) e = rw e (own_text u e)

  -- and it is what is found
  module _ (read : Row → Option Text) (reads : (p : Parameter) (text : Text) → read (row (p, Some text)) ≡ Some text) where
    read_found : option_and_then read (row_named id (with_switches form.switches (map row given))) ≡ text_given id given
    read_found = ap (option_and_then read) (others_named id form.switches (map row given) none ∙ found_row id given) ∙ go (use_named given id) refl
      where
        of_text : (u : Use) → is_some u.1 ≡ true → read (row u) ≡ u.1
        of_text (p, Some text) h = reads p text
        of_text (p, None) h = absurd (true≢false (sym h))

        go : (o : Option Use) → use_named given id ≡ o → option_and_then read (option_map row (use_named given id)) ≡ option_and_then (λ (u : Use). u.1) (use_named given id)
        go None e = rw e refl
        go (Some u) e = rw e (of_text u (own_text u e))

  pub first_found : first_of id (with_switches form.switches (map row given)) ≡ text_given id given
  first_found = read_found (λ (r : Row). slice_get r.values 0) (λ p text. refl)

  pub one_found : one_of id (with_switches form.switches (map row given)) ≡ text_given id given
  one_found = read_found row_text (λ p text. refl)

-- so each argument has a text if it is used
pub texts_used : (form : Form) {words : List Text} {given : List Use} → Gives form false form.arguments words given → (arguments : List Parameter) → are_clear form.switches arguments ≡ true
    → list_all (λ (a : Parameter). is_some (text_given a.id given)) arguments ≡ list_all (λ (a : Parameter). is_used a.id given) arguments
texts_used form gives [] clear = refl
texts_used form gives (a ∷ rest) clear =
    let parts = both _ _ clear in
    ap₂ ◌&&◌ (text_used form gives a.id (not_true _ parts.0)) (texts_used form gives rest parts.1)

-- ---- options and arguments

-- this option or argument is alone with its name
pub record IsAlone (form : Form) (p : Parameter) : Type 0 where
  pub of_option : (o : Choice) → HasOption form o → bytes_eq o.takes.id p.id ≡ true → o.takes ≡ p
  pub no_switch : is_switch form.switches p.id ≡ false
  pub of_argument : HoldsAhead p.id (λ (u : Use). u.0 ≡ p) form.arguments

module _ (form : Form) (readable : IsReadable form) where
  -- an option is alone with its name among the options
  same_option : (mine other : Choice) → HasOption form mine → HasOption form other → bytes_eq other.takes.id mine.takes.id ≡ true → other.takes ≡ mine.takes
  same_option mine other has is named =
      let same : other.takes.id ≡ mine.takes.id = (bytes_eq-Decides other.takes.id mine.takes.id).0 named in
      sym (ap (λ (c : Choice). c.takes) (same_Some mine other (sym has ∙ ap (option_named form.options) (sym same) ∙ is)))

  module _ (mine : Choice) (has : HasOption form mine) where
    -- none of these parameters has its name
    off_option : (p : Parameter) → list_any (λ (c : Choice). bytes_eq c.takes.id p.id) form.options ≡ false → bytes_eq p.id mine.takes.id ≡ true → ⊥
    off_option p off named = true≢false
        (sym (named_any (λ (c : Choice). c.takes.id) form.options mine p.id has (sym ((bytes_eq-Decides p.id mine.takes.id).0 named))) ∙ off)

    off_switches : (switches : List Parameter) → are_apart form.options switches ≡ true → is_switch switches mine.takes.id ≡ false
    off_switches [] off = refl
    off_switches (w ∷ ws) off = go (bytes_eq w.id mine.takes.id) refl (off_switches ws (both _ _ off).1)
      where
        go : (t : Bool) → bytes_eq w.id mine.takes.id ≡ t → is_switch ws mine.takes.id ≡ false → (t || is_switch ws mine.takes.id) ≡ false
        go true e later = absurd (off_option w (not_true _ (both _ _ off).0) e)
        go false e later = later

    off_arguments : (arguments : List Parameter) → are_apart form.options arguments ≡ true → HoldsAhead mine.takes.id (λ (u : Use). u.0 ≡ mine.takes) arguments
    off_arguments [] off = tt
    off_arguments (a ∷ rest) off = (λ text e. absurd (off_option a (not_true _ (both _ _ off).0) e), off_arguments rest (both _ _ off).1)

    -- so it is alone
    option_alone : IsAlone form mine.takes
    option_alone = record {
      of_option = λ other is named. same_option mine other has is named;
      no_switch = off_switches form.switches readable.flags.apart;
      of_argument = off_arguments form.arguments readable.apart;
    }

  module _ (mine : Parameter) (has : HasArgument form mine) where
    -- no option has the name of an argument
    no_such_option : (o : Choice) → HasOption form o → bytes_eq o.takes.id mine.id ≡ true → ⊥
    no_such_option o is named = true≢false (sym (named_any (λ (c : Choice). c.takes.id) form.options o mine.id is ((bytes_eq-Decides o.takes.id mine.id).0 named))
        ∙ not_true _ (found_holds (λ (x : Parameter). bytes_eq x.id mine.id) (λ (x : Parameter). not (list_any (λ (c : Choice). bytes_eq c.takes.id x.id) form.options))
        form.arguments mine readable.apart has))

    -- no switch has it
    pub argument_off : is_switch form.switches mine.id ≡ false
    argument_off = not_true _ (found_holds (λ (x : Parameter). bytes_eq x.id mine.id) (λ (x : Parameter). not (is_switch form.switches x.id)) form.arguments mine readable.clear has)

    -- and no other argument
    none_named : (arguments : List Parameter) (id : Text) → is_name_in arguments id ≡ false → mine.id ≡ id → HoldsAhead mine.id (λ (u : Use). u.0 ≡ mine) arguments
    none_named [] id none same = tt
    none_named (a ∷ rest) id none same =
        let two = or_parts (bytes_eq id a.id) (is_name_in rest id) none in (
          λ text e. absurd (true≢false (sym ((bytes_eq-Decides id a.id).1 (sym same ∙ sym ((bytes_eq-Decides a.id mine.id).0 e))) ∙ two.0)),
          none_named rest id two.1 same,
        )

    alone_among : (arguments : List Parameter) → are_distinct arguments ≡ true → find (λ (x : Parameter). bytes_eq x.id mine.id) arguments ≡ Some mine
        → HoldsAhead mine.id (λ (u : Use). u.0 ≡ mine) arguments
    alone_among [] distinct is = tt
    alone_among (a ∷ rest) distinct is = go (bytes_eq a.id mine.id) refl is (alone_among rest two.1)
      where
        two : (is_name_in rest a.id ≡ false) × (are_distinct rest ≡ true)
        two = distinct_parts a rest distinct

        go : (t : Bool) → bytes_eq a.id mine.id ≡ t → cond t (Some a) (find (λ (x : Parameter). bytes_eq x.id mine.id) rest) ≡ Some mine
            → (find (λ (x : Parameter). bytes_eq x.id mine.id) rest ≡ Some mine → HoldsAhead mine.id (λ (u : Use). u.0 ≡ mine) rest)
            → HoldsAhead mine.id (λ (u : Use). u.0 ≡ mine) (a ∷ rest)
        go true e found later = (λ text h. same_Some a mine found, none_named rest a.id two.0 (sym ((bytes_eq-Decides a.id mine.id).0 e)))
        go false e found later = (λ text h. absurd (true≢false (sym h ∙ e)), later found)

    argument_alone : IsAlone form mine
    argument_alone = record {
      of_option = λ o is named. absurd (no_such_option o is named);
      no_switch = argument_off;
      of_argument = alone_among form.arguments readable.distinct has;
    }

  module _ {words : List Text} {given : List Use} (gives : Gives form false form.arguments words given) where
    -- the text of what is alone with its name is one that it takes
    alone_fits : (p : Parameter) → IsAlone form p → All (λ (u : Use). IfSome u.1 (Takes u.0)) given → IfSome (text_given p.id given) (Takes p)
    alone_fits p alone fit = go (use_named given p.id) refl
      where
        own : (u : Use) → use_named given p.id ≡ Some u → u.0 ≡ p
        own = use_holds form p.id (λ (u : Use). u.0 ≡ p) (λ o text has e. alone.of_option o has e)
            (λ w has e. absurd (true≢false (sym (named_any (λ (x : Parameter). x.id) form.switches w p.id has ((bytes_eq-Decides w.id p.id).0 e)) ∙ alone.no_switch)))
            gives alone.of_argument

        go : (r : Option Use) → use_named given p.id ≡ r → IfSome (option_and_then (λ (u : Use). u.1) (use_named given p.id)) (Takes p)
        go None e = rw e _
        go (Some u) e =
            let takes : IfSome u.1 (Takes u.0) = found_all (λ (x : Use). bytes_eq x.0.id p.id) (λ (x : Use). IfSome x.1 (Takes x.0)) given u fit e in
            let mine : IfSome u.1 (Takes p) = subst (λ (q : Parameter). IfSome u.1 (Takes q)) (own u e) takes in
            rw e mine

    pub option_fits : (o : Choice) → HasOption form o → All (λ (u : Use). IfSome u.1 (Takes u.0)) given → IfSome (text_given o.takes.id given) (Takes o.takes)
    option_fits o has = alone_fits o.takes (option_alone o has)

    pub argument_fits : (a : Parameter) → HasArgument form a → All (λ (u : Use). IfSome u.1 (Takes u.0)) given → IfSome (text_given a.id given) (Takes a)
    argument_fits a has = alone_fits a (argument_alone a has)

    -- an option has its own name too
    pub option_off : (o : Choice) → HasOption form o → is_switch form.switches o.takes.id ≡ false
    option_off o has = (option_alone o has).no_switch

    -- ---- switches

    module _ (w : Parameter) (has : HasSwitch form w) where
      -- a switch has no text
      no_text : (u : Use) → use_named given w.id ≡ Some u → u.1 ≡ None
      no_text = use_holds form w.id (λ (u : Use). u.1 ≡ None)
          (λ o text is e. absurd (none-some o (sym (no_option form readable.flags w has) ∙ ap (option_named form.options) (sym ((bytes_eq-Decides o.takes.id w.id).0 e)) ∙ is)))
          (λ x is e. refl) gives (off_ahead form.arguments readable.clear)
        where
          off_ahead : (arguments : List Parameter) → are_clear form.switches arguments ≡ true → HoldsAhead w.id (λ (u : Use). u.1 ≡ None) arguments
          off_ahead [] clear = tt
          off_ahead (a ∷ rest) clear =
              let parts = both _ _ clear in (
                λ text e. absurd (true≢false (sym (named_any (λ (x : Parameter). x.id) form.switches w a.id has (sym ((bytes_eq-Decides a.id w.id).0 e))) ∙ not_true _ parts.0)),
                off_ahead rest parts.1,
              )

      -- what is found of it says whether it is given
      pub switch_found : one_of w.id (with_default (map row given) (built_switch w)) ≡ Some (cond (is_used w.id given) (codes "true") (codes "false"))
      switch_found = go (is_used w.id given) refl
        where
          on_text : (u : Use) → u.1 ≡ None → row_text (row u) ≡ Some (codes "true")
          on_text u none = ap (λ (o : Option Text). Some (unwrap_or o (codes "true"))) none

          on : (r : Option Use) → use_named given w.id ≡ r → is_some r ≡ true → option_and_then row_text (option_map row (use_named given w.id)) ≡ Some (codes "true")
          on None e there = absurd (true≢false (sym there))
          on (Some u) e there = rw e (on_text u (no_text u e))

          go : (t : Bool) → is_used w.id given ≡ t → one_of w.id (with_default (map row given) (built_switch w)) ≡ Some (cond (is_used w.id given) (codes "true") (codes "false"))
          go true e =
              let kept : with_default (map row given) (built_switch w) ≡ map row given = row_kept w (map row given) (row_used w.id given ∙ e) in
              ap (one_of w.id) kept ∙ ap (option_and_then row_text) (found_row w.id given)
              ∙ on (use_named given w.id) refl (sym (any_found (λ (u : Use). bytes_eq u.0.id w.id) given) ∙ e) ∙ rw e refl
          go false e =
              let none : has_row w.id (map row given) ≡ false = row_used w.id given ∙ e in
              ap (one_of w.id) (row_added w (map row given) none) ∙ ap (option_and_then row_text) (named_last w (map row given) none) ∙ rw e refl

-- a switch is given if it is used
pub among_used : (id : Text) (given : List Use) → is_among id given ≡ is_used id given
among_used id [] = refl
among_used id (u ∷ us) = ap₂ ◌||◌ (turned id u.0.id) (among_used id us)
  where
    -- two texts are the same in either order
    turned : (a b : Text) → bytes_eq a b ≡ bytes_eq b a
    turned a b = go (bytes_eq a b) refl (bytes_eq b a) refl
      where
        go : (x : Bool) → bytes_eq a b ≡ x → (y : Bool) → bytes_eq b a ≡ y → bytes_eq a b ≡ bytes_eq b a
        go true e y f = e ∙ sym ((bytes_eq-Decides b a).1 (sym ((bytes_eq-Decides a b).0 e)))
        go false e true f = absurd (true≢false (sym ((bytes_eq-Decides a b).1 (sym ((bytes_eq-Decides b a).0 f))) ∙ e))
        go false e false f = e ∙ sym f
