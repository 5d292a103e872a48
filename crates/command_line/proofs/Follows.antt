-- What clap makes of words that use the arguments, options and switches of a command: their uses, in turn.
use Rattle.std.proofs.Common.{◌≡◌, ◌∙◌, ℕ, Bool, cond, not, refl, sym, ap, ap₂, true, false, List, [], ◌∷◌, ◌++◌, Option, Some, None, codes, fold, append-nil}
use Rattle.std.specs.List.{list_all, list_any}
use Rattle.std.specs.Str.{bytes_eq}
use Rattle.std.proofs.lemmas.Bool.{and_right}
use Rattle.std.proofs.lemmas.Slice.Eq.{bytes_eq-Decides}
use Rattle.clap.specs.Lexer.{long_of}
use Rattle.clap.specs.Walk.{Row, Text, Walk, arg_by_id, arg_by_long, finished, is_pending, walked}
use Rattle.clap.specs.Kinds.{Kinds, or_else}
use Rattle.clap.specs.Simple.{Shape}
use Rattle.clap.specs.Faults.{turn_fault}
use Rattle.clap.specs.declared.error.kind.ErrorKind.TheVariants as kind
use Rattle.command_line.specs.Forms.{Choice, Form, Parameter}
use Rattle.command_line.specs.Given.{Gives, HasOption, HasSwitch, Use, is_flag}
use Rattle.command_line.specs.Given.Gives.{apart, joined, no_word, switched, then_values, to_next}
use Rattle.command_line.proofs.Firsts.{found_holds, none_found}
use Rattle.command_line.proofs.KindLists.{or_else_in}
use Rattle.command_line.proofs.Levels.{shape}
use Rattle.command_line.proofs.Lexed.{bare_read, is_name, no_dashes, value_read}
use Rattle.command_line.proofs.LevelSteps.{at, behind, dashes_place, dashes_turn, end_from, fault_after, fault_from, joined_place, joined_turn, option_place, option_turn, plain_ends_nothing, plain_place, plain_turn, switch_place, switch_turn, text_place, text_turn, trailing_place, value_fault, waiting_for}
use Rattle.command_line.proofs.FormRules.{Ahead, are_apart, built_option, built_rule, built_switch, by_id, by_long, not_true, option_named, position_after, same_text}
use Rattle.command_line.proofs.SwitchRows.{with_switches}
use Rattle.command_line.proofs.Uses.{AreKnown, Value, and_then, argument_known, at_end, base, found_at_end, held, is_missing, option_known, pending_kinds, settle_is, settled_is, use_kinds, use_of}

-- the name of each option and of each switch is one that a flag can have, and no switch has the name of an option
pub record AreFlags (form : Form) : Type 0 where
  pub options : list_all (λ (o : Choice). is_name o.takes.id) form.options ≡ true
  pub switches : list_all (λ (w : Parameter). is_name w.id) form.switches ≡ true
  pub apart : are_apart form.options form.switches ≡ true

module _ (form : Form) (flags : AreFlags form) where
  -- so is that of an option or a switch that is found
  option_name : (o : Choice) → HasOption form o → is_name o.takes.id ≡ true
  option_name o has = found_holds (λ (c : Choice). bytes_eq c.takes.id o.takes.id) (λ (c : Choice). is_name c.takes.id) form.options o flags.options has

  switch_name : (w : Parameter) → HasSwitch form w → is_name w.id ≡ true
  switch_name w has = found_holds (λ (x : Parameter). bytes_eq x.id w.id) (λ (x : Parameter). is_name x.id) form.switches w flags.switches has

  -- and no option has the name of a switch
  pub no_option : (w : Parameter) → HasSwitch form w → option_named form.options w.id ≡ None
  no_option w has = none_found (λ (o : Choice). bytes_eq o.takes.id w.id) form.options (not_true _
      (found_holds (λ (x : Parameter). bytes_eq x.id w.id) (λ (x : Parameter). not (list_any (λ (o : Choice). bytes_eq o.takes.id x.id) form.options)) form.switches w flags.apart has))

module _ (form : Form) where
  abbrev s : Shape
  s = shape form

  -- what is wrong with uses, one after the other, and then with what is missing
  abbrev pub kinds_of : List Row → List Use → Kinds
  kinds_of rows [] = cond (list_any (is_missing rows) form.arguments) (kind.MissingRequiredArgument ∷ []) []
  kinds_of rows (u ∷ us) = or_else (use_kinds rows u) (kinds_of (use_of rows u) us)

  -- with a use that is pending
  kinds_then : (rows : List Row) (pending : Option Value) (us : List Use) → kinds_of rows (and_then pending us) ≡ or_else (pending_kinds rows pending) (kinds_of (base rows pending) us)
  kinds_then rows None us = refl
  kinds_then rows (Some v) us = refl

  rows_then : (rows : List Row) (pending : Option Value) (us : List Use) → fold use_of rows (and_then pending us) ≡ fold use_of (base rows pending) us
  rows_then rows None us = refl
  rows_then rows (Some v) us = refl

  -- the position of the walk
  abbrev pub now : List Row → Option Value → ℕ → Bool → Walk
  now rows pending position ended = at rows (held pending) position ended

  module _ (rows : List Row) (pending : Option Value) (known : AreKnown form pending) where
    -- a word that the next argument takes
    module _ (position : ℕ) (a : Parameter) (rest : List Parameter) (next : Ahead s.rules position (a ∷ rest)) (word : Text) (words : List Text) where
      turn_value : value_fault s rows (held pending) position ≡ pending_kinds rows pending
      turn_value = rw (next.0, and_right (is_pending (built_rule position a) (held pending)) false refl) (settle_is form rows pending known)

      place_value : (t : Bool) → behind s rows (held pending) position t word ≡ now (base rows pending) (Some (a, word)) (position_after position) t
      place_value true = rw (next.0, and_right (is_pending (built_rule position a) (held pending)) false refl, settled_is form rows pending known) refl
      place_value false = rw (next.0, and_right (is_pending (built_rule position a) (held pending)) false refl, settled_is form rows pending known) refl

      place_after : (t : Bool) → (t ≡ false → is_flag word ≡ false)
          → walked s.rules [] (now rows pending position t) word ≡ now (base rows pending) (Some (a, word)) (position_after position) t
      place_after true flag = trailing_place s rows (held pending) position word ∙ place_value true
      place_after false flag = plain_place s rows (held pending) position word (plain_ends_nothing word (flag refl)) (flag refl) ∙ place_value false

      turn_after : (t : Bool) → (t ≡ false → is_flag word ≡ false) → turn_fault s [] (now rows pending position t) word ≡ pending_kinds rows pending
      turn_after true flag = turn_value
      turn_after false flag = plain_turn s rows (held pending) position word (plain_ends_nothing word (flag refl)) (flag refl) ∙ turn_value

      pub value_after : (t : Bool) → (t ≡ false → is_flag word ≡ false) → fault_from s (now rows pending position t) (word ∷ words)
          ≡ or_else (pending_kinds rows pending) (fault_from s (now (base rows pending) (Some (a, word)) (position_after position) t) words)
      value_after t flag = fault_after s (now rows pending position t) word words
          ∙ ap₂ (λ k w. or_else k (fault_from s w words)) (turn_after t flag) (place_after t flag)

      pub value_end : (t : Bool) → (t ≡ false → is_flag word ≡ false) → end_from s (now rows pending position t) (word ∷ words)
          ≡ end_from s (now (base rows pending) (Some (a, word)) (position_after position) t) words
      value_end t flag = ap (λ w. end_from s w words) (place_after t flag)

    -- a first `--`
    module _ (position : ℕ) (word : Text) (words : List Text) (dashes : bytes_eq word (codes "--") ≡ true) where
      pub dashes_after : fault_from s (now rows pending position false) (word ∷ words) ≡ fault_from s (now rows pending position true) words
      dashes_after = fault_after s (now rows pending position false) word words
          ∙ ap₂ (λ k w. or_else k (fault_from s w words)) (dashes_turn s rows (held pending) position word dashes) (dashes_place s rows (held pending) position word dashes)

      pub dashes_end : end_from s (now rows pending position false) (word ∷ words) ≡ end_from s (now rows pending position true) words
      dashes_end = ap (λ w. end_from s w words) (dashes_place s rows (held pending) position word dashes)

    -- an option
    module _ (position : ℕ) (o : Choice) (has : HasOption form o) (word : Text) (dashes : bytes_eq word (codes "--") ≡ false) where
      found_long : arg_by_long s.rules o.takes.id ≡ Some (built_option o)
      found_long = by_long form.options form.switches form.arguments o.takes.id ∙ rw has refl

      found_id : arg_by_id s.rules o.takes.id ≡ Some (built_option o)
      found_id = by_id form.options form.switches form.arguments o has

      -- with its text in the word
      module _ (text : Text) (read : long_of word ≡ Some (o.takes.id, Some text)) (words : List Text) where
        joined_here : walked s.rules [] (now rows pending position false) word ≡ now (use_of (base rows pending) (o.takes, Some text)) None position false
        joined_here = joined_place s rows (held pending) position word dashes (built_option o) o.takes.id text read found_long refl
            ∙ rw (settled_is form rows pending known) refl

        pub joined_after : fault_from s (now rows pending position false) (word ∷ words)
            ≡ or_else (pending_kinds rows pending) (or_else (use_kinds (base rows pending) (o.takes, Some text)) (fault_from s (now (use_of (base rows pending) (o.takes, Some text)) None position false) words))
        joined_after =
            let turn : turn_fault s [] (now rows pending position false) word ≡ or_else (pending_kinds rows pending) (use_kinds (base rows pending) (o.takes, Some text)) =
            joined_turn s rows (held pending) position word dashes (built_option o) o.takes.id text read found_long refl
            ∙ rw (settle_is form rows pending known, settled_is form rows pending known) refl in
            fault_after s (now rows pending position false) word words ∙ ap₂ (λ k w. or_else k (fault_from s w words)) turn joined_here
            ∙ or_else_in (pending_kinds rows pending) (use_kinds (base rows pending) (o.takes, Some text)) (fault_from s (now (use_of (base rows pending) (o.takes, Some text)) None position false) words)

        pub joined_end : end_from s (now rows pending position false) (word ∷ words) ≡ end_from s (now (use_of (base rows pending) (o.takes, Some text)) None position false) words
        joined_end = ap (λ w. end_from s w words) joined_here

      -- with its text in the next word
      module _ (read : long_of word ≡ Some (o.takes.id, None)) where
        option_here : walked s.rules [] (now rows pending position false) word ≡ waiting_for (base rows pending) o.takes.id position
        option_here = option_place s rows (held pending) position word dashes (built_option o) o.takes.id read found_long refl ∙ rw (settled_is form rows pending known) refl

        pub option_after : (words : List Text) → fault_from s (now rows pending position false) (word ∷ words)
            ≡ or_else (pending_kinds rows pending) (fault_from s (waiting_for (base rows pending) o.takes.id position) words)
        option_after words = fault_after s (now rows pending position false) word words
            ∙ ap₂ (λ k w. or_else k (fault_from s w words))
            (option_turn s rows (held pending) position word dashes (built_option o) o.takes.id read found_long refl ∙ settle_is form rows pending known) option_here

        module _ (text : Text) (flag : is_flag text ≡ false) (words : List Text) where
          text_here : walked s.rules [] (waiting_for (base rows pending) o.takes.id position) text ≡ now (base rows pending) (Some (o.takes, text)) position false
          text_here = text_place s (base rows pending) o.takes.id position text flag (built_option o) found_id (same_text o.takes.id) refl

          pub apart_after : fault_from s (now rows pending position false) (word ∷ text ∷ words)
              ≡ or_else (pending_kinds rows pending) (fault_from s (now (base rows pending) (Some (o.takes, text)) position false) words)
          apart_after = option_after (text ∷ words) ∙ ap (or_else (pending_kinds rows pending))
              (fault_after s (waiting_for (base rows pending) o.takes.id position) text words
              ∙ ap₂ (λ k w. or_else k (fault_from s w words)) (text_turn s (base rows pending) o.takes.id position text flag) text_here)

          pub apart_end : end_from s (now rows pending position false) (word ∷ text ∷ words) ≡ end_from s (now (base rows pending) (Some (o.takes, text)) position false) words
          apart_end = ap (λ w. end_from s (walked s.rules [] w text) words) option_here ∙ ap (λ w. end_from s w words) text_here

    -- a switch
    module _ (position : ℕ) (w : Parameter) (has : HasSwitch form w) (none : option_named form.options w.id ≡ None) (word : Text) (dashes : bytes_eq word (codes "--") ≡ false)
        (read : long_of word ≡ Some (w.id, None)) (words : List Text) where
      found_switch : arg_by_long s.rules w.id ≡ Some (built_switch w)
      found_switch = by_long form.options form.switches form.arguments w.id ∙ rw (none, has) refl

      switched_here : walked s.rules [] (now rows pending position false) word ≡ now (use_of (base rows pending) (w, None)) None position false
      switched_here = switch_place s rows (held pending) position word dashes (built_switch w) w.id read found_switch refl
          ∙ rw (settled_is form rows pending known) refl

      pub switched_after : fault_from s (now rows pending position false) (word ∷ words)
          ≡ or_else (pending_kinds rows pending) (or_else (use_kinds (base rows pending) (w, None)) (fault_from s (now (use_of (base rows pending) (w, None)) None position false) words))
      switched_after =
          let turn : turn_fault s [] (now rows pending position false) word ≡ or_else (pending_kinds rows pending) (use_kinds (base rows pending) (w, None)) =
          switch_turn s rows (held pending) position word dashes (built_switch w) w.id read found_switch refl
          ∙ rw (settle_is form rows pending known, settled_is form rows pending known) refl in
          fault_after s (now rows pending position false) word words ∙ ap₂ (λ k x. or_else k (fault_from s x words)) turn switched_here
          ∙ or_else_in (pending_kinds rows pending) (use_kinds (base rows pending) (w, None)) (fault_from s (now (use_of (base rows pending) (w, None)) None position false) words)

      pub switched_end : end_from s (now rows pending position false) (word ∷ words) ≡ end_from s (now (use_of (base rows pending) (w, None)) None position false) words
      switched_end = ap (λ x. end_from s x words) switched_here

  -- what is wrong with the words is what is wrong with these uses, and the rows at the end are theirs, with one for
  -- each switch that was not given
  pub record Follows (rows : List Row) (pending : Option Value) (position : ℕ) (ended : Bool) (words : List Text) (given : List Use) : Type 0 where
    pub kinds : fault_from s (now rows pending position ended) words ≡ kinds_of rows (and_then pending given)
    pub rows_are : finished s.rules (end_from s (now rows pending position ended) words) ≡ with_switches form.switches (fold use_of rows (and_then pending given))

  -- the rows of the uses, with those of the switches
  rows_with : (rows : List Row) (pending : Option Value) (us : List Use)
      → with_switches form.switches (fold use_of (base rows pending) us) ≡ with_switches form.switches (fold use_of rows (and_then pending us))
  rows_with rows pending us = ap (with_switches form.switches) (sym (rows_then rows pending us))

  -- words that give texts are followed by their uses
  pub follows : (flags : AreFlags form) {ended : Bool} {ahead : List Parameter} {words : List Text} {given : List Use} → Gives form ended ahead words given
      → (rows : List Row) (pending : Option Value) → AreKnown form pending → (position : ℕ) → Ahead s.rules position ahead → Follows rows pending position ended words given
  follows flags (no_word {ended} {ahead}) rows pending known position next = record {
    kinds = at_end form rows pending known position ended ∙ sym (kinds_then rows pending []);
    rows_are = found_at_end form rows pending known position ended ∙ rows_with rows pending [];
  }
  follows flags (then_values {ahead} {word} {rest} {given} is more) rows pending known position next =
      let dashes : bytes_eq word (codes "--") ≡ true = (bytes_eq-Decides word (codes "--")).1 is in
      let later = follows flags more rows pending known position next in
      record {
        kinds = dashes_after rows pending known position word rest dashes ∙ later.kinds;
        rows_are = ap (finished s.rules) (dashes_end rows pending known position word rest dashes) ∙ later.rows_are;
      }
  follows flags (to_next {ended} {a} {ahead} {word} {rest} {given} flag more) rows pending known position next =
      let later = follows flags more (base rows pending) (Some (a, word)) (argument_known form position a next.1) (position_after position) next.2 in
      record {
        kinds = value_after rows pending known position a ahead next word rest ended flag
            ∙ ap (or_else (pending_kinds rows pending)) later.kinds ∙ sym (kinds_then rows pending ((a, Some word) ∷ given));
        rows_are = ap (finished s.rules) (value_end rows pending known position a ahead next word rest ended flag)
            ∙ later.rows_are ∙ rows_with rows pending ((a, Some word) ∷ given);
      }
  follows flags (apart {o} {ahead} {word} {text} {rest} {given} has is flag more) rows pending known position next =
      let named = option_name form flags o has in
      let dashes : bytes_eq word (codes "--") ≡ false = ap (λ (w : Text). bytes_eq w (codes "--")) (is ∙ ap (λ (n : Text). codes "--" ++ n) (sym (append-nil o.takes.id))) ∙ no_dashes o.takes.id [] named in
      let read : long_of word ≡ Some (o.takes.id, None) = ap long_of is ∙ bare_read o.takes.id named in
      let later = follows flags more (base rows pending) (Some (o.takes, text)) (option_known form o (by_id form.options form.switches form.arguments o has)) position next in
      record {
        kinds = apart_after rows pending known position o has word dashes read text flag rest
            ∙ ap (or_else (pending_kinds rows pending)) later.kinds ∙ sym (kinds_then rows pending ((o.takes, Some text) ∷ given));
        rows_are = ap (finished s.rules) (apart_end rows pending known position o has word dashes read text flag rest)
            ∙ later.rows_are ∙ rows_with rows pending ((o.takes, Some text) ∷ given);
      }
  follows flags (joined {o} {ahead} {word} {text} {rest} {given} has is more) rows pending known position next =
      let named = option_name form flags o has in
      let dashes : bytes_eq word (codes "--") ≡ false = ap (λ (w : Text). bytes_eq w (codes "--")) is ∙ no_dashes o.takes.id (61 ∷ text) named in
      let read : long_of word ≡ Some (o.takes.id, Some text) = ap long_of is ∙ value_read o.takes.id text named in
      let later = follows flags more (use_of (base rows pending) (o.takes, Some text)) None tt position next in
      record {
        kinds = joined_after rows pending known position o has word dashes text read rest
            ∙ ap (λ k. or_else (pending_kinds rows pending) (or_else (use_kinds (base rows pending) (o.takes, Some text)) k)) later.kinds
            ∙ sym (kinds_then rows pending ((o.takes, Some text) ∷ given));
        rows_are = ap (finished s.rules) (joined_end rows pending known position o has word dashes text read rest)
            ∙ later.rows_are ∙ rows_with rows pending ((o.takes, Some text) ∷ given);
      }
  follows flags (switched {s = w} {ahead} {word} {rest} {given} has is more) rows pending known position next =
      let named = switch_name form flags w has in
      let none = no_option form flags w has in
      let dashes : bytes_eq word (codes "--") ≡ false = ap (λ (x : Text). bytes_eq x (codes "--")) (is ∙ ap (λ (n : Text). codes "--" ++ n) (sym (append-nil w.id))) ∙ no_dashes w.id [] named in
      let read : long_of word ≡ Some (w.id, None) = ap long_of is ∙ bare_read w.id named in
      let later = follows flags more (use_of (base rows pending) (w, None)) None tt position next in
      record {
        kinds = switched_after rows pending known position w has none word dashes read rest
            ∙ ap (λ k. or_else (pending_kinds rows pending) (or_else (use_kinds (base rows pending) (w, None)) k)) later.kinds
            ∙ sym (kinds_then rows pending ((w, None) ∷ given));
        rows_are = ap (finished s.rules) (switched_end rows pending known position w has none word dashes read rest)
            ∙ later.rows_are ∙ rows_with rows pending ((w, None) ∷ given);
      }
