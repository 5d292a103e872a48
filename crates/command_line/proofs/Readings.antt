-- Words after a command's name use its arguments, options and switches, or clap refuses them.
use Rattle.std.proofs.Common.{◌≡◌, ◌∙◌, ◌⊎◌, ◌==◌, ◌||◌, ℕ, Bool, cond, refl, sym, ap, subst, true, false, List, [], ◌∷◌, ◌++◌, Option, Some, None, codes, inl, inr, true≢false}
use Rattle.std.specs.List.{All, list_any}
use Rattle.std.specs.Str.{IsUtf8, bytes_eq}
use Rattle.std.proofs.lemmas.Bool.{and_right, eqb-true, or_right}
use Rattle.std.proofs.lemmas.List.Elements.{All-head, All-tail}
use Rattle.std.proofs.lemmas.Slice.Eq.{bytes_eq-Decides}
use Rattle.clap.specs.Lexer.{long_of}
use Rattle.clap.specs.Walk.{Row, Text, Walk, arg_by_index, arg_by_long, arg_by_short, is_pending, idle, walked}
use Rattle.clap.specs.Kinds.{or_else}
use Rattle.clap.specs.Simple.{Shape, filled}
use Rattle.clap.specs.Faults.{bundle_fault, flags_fault, long_fault, settle_fault, turn_fault, word_fault}
use Rattle.clap.specs.declared.error.kind.ErrorKind.TheVariants as kind
use Rattle.command_line.specs.AskedTasks.{is_help}
use Rattle.command_line.specs.Forms.{Choice, Form, Parameter}
use Rattle.command_line.specs.Given.{Gives, HasOption, HasSwitch, Use, is_flag}
use Rattle.command_line.specs.Given.Gives.{apart, joined, no_word, switched, then_values, to_next}
use Rattle.command_line.specs.Parser.{rule}
use Rattle.command_line.proofs.Calm.{use_no_answer}
use Rattle.command_line.proofs.Firsts.{found_passes}
use Rattle.command_line.proofs.KindLists.{NoAnswer, Refuses, refuses_after, refuses_calm, refuses_first, refuses_help, refuses_more}
use Rattle.command_line.proofs.Levels.{shape}
use Rattle.command_line.proofs.Lexed.{IsBundle, IsLong, flag_read, name_with}
use Rattle.command_line.proofs.LevelSteps.{at, built_help, end_fault, fault_after, fault_at_end, fault_from, holding, plain_turn, plain_ends_nothing, value_fault, waiting_for}
use Rattle.command_line.proofs.FormRules.{Ahead, built_option, built_rule, built_switch, by_id, by_long, by_short, option_named, position_after, switch_named}
use Rattle.command_line.proofs.Uses.{AreKnown, Value, argument_known, base, held, option_known, pending_kinds, settle_is, use_of}
use Rattle.command_line.proofs.Follows.{AreFlags, apart_after, dashes_after, joined_after, no_option, now, option_after, switched_after, value_after}

-- no answer comes of what is pending
pending_calm : (rows : List Row) (pending : Option Value) → NoAnswer (pending_kinds rows pending)
pending_calm rows None = refl
pending_calm rows (Some v) = use_no_answer false (filled (rule v.0)) rows (v.1 ∷ []) refl

module _ (form : Form) (flags : AreFlags form) where
  abbrev s : Shape
  s = shape form

  -- ---- a flag that is no option, and no switch without a value

  module _ (helps : Bool) (rows : List Row) (pending : Option (Text × List Text)) (calm : NoAnswer (settle_fault s.rules false (holding rows pending))) (word : Text)
      (reported : is_help word ≡ true → helps ≡ true) where
    -- it is refused if it is long
    long_refused : (flag : IsLong word) → option_named form.options flag.name ≡ None → switch_named form.switches flag.name ≡ None
        → Refuses helps (long_fault s.rules false (arg_by_long s.rules flag.name) flag.value (holding rows pending))
    long_refused flag none off = go flag.value flag.help (bytes_eq (codes "help") flag.name) refl
      where
        is : arg_by_long s.rules flag.name ≡ cond (bytes_eq (codes "help") flag.name || false) (Some built_help) None
        is = by_long form.options form.switches form.arguments flag.name ∙ rw (none, off) refl

        go : (v : Option Text) → (flag.name ≡ codes "help" → v ≡ None → is_help word ≡ true) → (t : Bool) → bytes_eq (codes "help") flag.name ≡ t
            → Refuses helps (long_fault s.rules false (arg_by_long s.rules flag.name) v (holding rows pending))
        go v help false e = rw (is, e) (refuses_calm helps kind.UnknownArgument [] refl)
        go (Some x) help true e = rw (is, e) (refuses_calm helps kind.TooManyValues [] refl)
        go None help true e = rw (is, e)
            (refuses_after helps _ _ calm (refuses_help helps (reported (help (sym ((bytes_eq-Decides (codes "help") flag.name).0 e)) refl))))

    -- it is refused with a value if it is a switch
    valued_refused : (flag : IsLong word) (w : Parameter) (v : Text) → option_named form.options flag.name ≡ None → switch_named form.switches flag.name ≡ Some w
        → Refuses helps (long_fault s.rules false (arg_by_long s.rules flag.name) (Some v) (holding rows pending))
    valued_refused flag w v none is =
        let found : arg_by_long s.rules flag.name ≡ Some (built_switch w) = by_long form.options form.switches form.arguments flag.name ∙ rw (none, is) refl in
        rw found (refuses_calm helps kind.TooManyValues [] refl)

    -- and if it is a bundle
    bundle_refused : (flag : IsBundle word) → Refuses helps (bundle_fault s.rules false (flag.byte ∷ flag.bytes) (holding rows pending))
    unfolding flags_fault
    bundle_refused flag = go (104 == flag.first) refl
      where
        go : (t : Bool) → (104 == flag.first) ≡ t → Refuses helps (bundle_fault s.rules false (flag.byte ∷ flag.bytes) (holding rows pending))
        go false e =
            let is : arg_by_short s.rules flag.first ≡ None = by_short form.options form.switches form.arguments flag.first ∙ rw e refl in
            rw (flag.begins, is) (refuses_calm helps kind.UnknownArgument [] refl)
        go true e =
            let is : arg_by_short s.rules flag.first ≡ Some built_help = by_short form.options form.switches form.arguments flag.first ∙ rw e refl in
            rw (flag.begins, is) (refuses_first helps _ _ (refuses_after helps _ _ calm (refuses_help helps (reported (flag.help (sym (eqb-true 104 flag.first e)))))))

  -- a word that no argument takes is refused
  module _ (helps : Bool) (rows : List Row) (pending : Option (Text × List Text)) (position : ℕ) (none : arg_by_index s.rules position ≡ None) (word : Text) (words : List Text) where
    stray_turn : (ended : Bool) → (ended ≡ false → is_flag word ≡ false) → Refuses helps (turn_fault s [] (at rows pending position ended) word)
    stray_turn ended flag =
        let is : value_fault s rows pending position ≡ kind.UnknownArgument ∷ [] = rw none refl in
        go ended flag (subst (Refuses helps) (sym is) (refuses_calm helps kind.UnknownArgument [] refl))
      where
        go : (t : Bool) → (t ≡ false → is_flag word ≡ false) → Refuses helps (value_fault s rows pending position) → Refuses helps (turn_fault s [] (at rows pending position t) word)
        go true flag h = h
        go false flag h = subst (Refuses helps) (sym (plain_turn s rows pending position word (plain_ends_nothing word (flag refl)) (flag refl))) h

    stray : (ended : Bool) → (ended ≡ false → is_flag word ≡ false) → Refuses helps (fault_from s (at rows pending position ended) (word ∷ words))
    stray ended flag = subst (Refuses helps) (sym (fault_after s (at rows pending position ended) word words)) (refuses_first helps _ _ (stray_turn ended flag))

  -- ---- an option without its text

  module _ (helps : Bool) (rows : List Row) (position : ℕ) (o : Choice) (has : HasOption form o) where
    -- it is refused as soon as it is settled
    unfilled : settle_fault s.rules false (holding rows (Some (o.takes.id, []))) ≡ kind.InvalidValue ∷ []
    unfilled = rw (by_id form.options form.switches form.arguments o has) refl

    refused_unfilled : Refuses helps (settle_fault s.rules false (holding rows (Some (o.takes.id, []))))
    refused_unfilled = subst (Refuses helps) (sym unfilled) (refuses_calm helps kind.InvalidValue [] refl)

    -- at the end of the words
    waits_at_end : (w : Walk) → w.held ≡ holding rows (Some (o.takes.id, [])) → Refuses helps (fault_from s w [])
    waits_at_end w is = subst (Refuses helps) (sym (fault_at_end s w ∙ ap (end_fault s) is)) (refuses_first helps _ _ refused_unfilled)

    -- after `--`
    waits_behind : (ahead : List Parameter) → Ahead s.rules position ahead → (words : List Text)
        → Refuses helps (fault_from s (record (waiting_for rows o.takes.id position) { is_trailing = true }) words)
    waits_behind ahead next [] = waits_at_end (record (waiting_for rows o.takes.id position) { is_trailing = true }) refl
    waits_behind ahead next (y ∷ words) =
        subst (Refuses helps) (sym (fault_after s (record (waiting_for rows o.takes.id position) { is_trailing = true }) y words)) (refuses_first helps _ _ (go ahead next))
      where
        go : (ahead : List Parameter) → Ahead s.rules position ahead → Refuses helps (value_fault s rows (Some (o.takes.id, [])) position)
        go [] next =
            let is : value_fault s rows (Some (o.takes.id, [])) position ≡ kind.UnknownArgument ∷ [] = rw next refl in
            subst (Refuses helps) (sym is) (refuses_calm helps kind.UnknownArgument [] refl)
        go (a ∷ rest) next =
            let is : value_fault s rows (Some (o.takes.id, [])) position ≡ settle_fault s.rules false (holding rows (Some (o.takes.id, []))) =
            rw (next.0, and_right (is_pending (built_rule position a) (Some (o.takes.id, []))) false refl) refl in
            subst (Refuses helps) (sym is) refused_unfilled

    -- and before a flag
    waits_before : (word : Text) → IsUtf8 word → bytes_eq word (codes "--") ≡ false → is_flag word ≡ true → (is_help word ≡ true → helps ≡ true) → (words : List Text)
        → Refuses helps (fault_from s (waiting_for rows o.takes.id position) (word ∷ words))
    waits_before word utf8 dashes flag reported words =
        subst (Refuses helps) (sym (fault_after s (waiting_for rows o.takes.id position) word words)) (refuses_first helps _ _ (refuses_first helps _ _ (go (flag_read word utf8 dashes flag))))
      where
        calm : NoAnswer (settle_fault s.rules false (holding rows (Some (o.takes.id, []))))
        calm = subst NoAnswer (sym unfilled) refl

        long : (flag : IsLong word) → (r : Option Choice) → option_named form.options flag.name ≡ r
            → Refuses helps (long_fault s.rules false (arg_by_long s.rules flag.name) flag.value (holding rows (Some (o.takes.id, []))))
        long flag None e = other (switch_named form.switches flag.name) refl
          where
            other : (r : Option Parameter) → switch_named form.switches flag.name ≡ r
                → Refuses helps (long_fault s.rules false (arg_by_long s.rules flag.name) flag.value (holding rows (Some (o.takes.id, []))))
            other None f = long_refused helps rows (Some (o.takes.id, [])) calm word reported flag e f
            other (Some w) f = at_value flag.value
              where
                is : arg_by_long s.rules flag.name ≡ Some (built_switch w)
                is = by_long form.options form.switches form.arguments flag.name ∙ rw (e, f) refl

                at_value : (v : Option Text) → Refuses helps (long_fault s.rules false (arg_by_long s.rules flag.name) v (holding rows (Some (o.takes.id, []))))
                at_value None = rw is (refuses_first helps _ _ refused_unfilled)
                at_value (Some v) = rw is (refuses_calm helps kind.TooManyValues [] refl)
        long flag (Some c) e = at_value flag.value
          where
            is : arg_by_long s.rules flag.name ≡ Some (built_option c)
            is = by_long form.options form.switches form.arguments flag.name ∙ rw e refl

            at_value : (v : Option Text) → Refuses helps (long_fault s.rules false (arg_by_long s.rules flag.name) v (holding rows (Some (o.takes.id, []))))
            at_value None = rw is refused_unfilled
            at_value (Some v) = rw is (refuses_first helps _ _ refused_unfilled)

        go : IsLong word ⊎ IsBundle word → Refuses helps (word_fault s [] false idle word (holding rows (Some (o.takes.id, []))))
        go (inl flag) = rw (dashes, flag.read) (long flag (option_named form.options flag.name) refl)
        go (inr flag) = rw (dashes, flag.no_long, flag.read) (bundle_refused helps rows (Some (o.takes.id, [])) calm word reported flag)

  -- ---- all words

  -- clap refuses the words, whatever came before
  abbrev pub AreRefused : Bool → ℕ → List Text → Type 0
  AreRefused ended position words =
      (rows : List Row) (pending : Option Value) → AreKnown form pending → Refuses (list_any is_help words) (fault_from s (now form rows pending position ended) words)

  -- the words give texts, or clap refuses them
  abbrev pub Reading : Bool → List Parameter → ℕ → List Text → Type 0
  Reading ended ahead position words = ((given : List Use) × Gives form ended ahead words given) ⊎ AreRefused ended position words

  -- one of more words is for help if one of these is
  help_behind : (word : Text) (words : List Text) → list_any is_help words ≡ true → list_any is_help (word ∷ words) ≡ true
  help_behind word words h = or_right (is_help word) (list_any is_help words) h

  help_first : (word : Text) (words : List Text) → is_help word ≡ true → list_any is_help (word ∷ words) ≡ true
  help_first word words h = rw h refl

  -- with one more word that goes to the next argument, or to none
  one_more : (ended : Bool) (word : Text) (words : List Text) → (ended ≡ false → is_flag word ≡ false) → (ahead : List Parameter) (position : ℕ) → Ahead s.rules position ahead
      → ((rest : List Parameter) → Ahead s.rules (position_after position) rest → Reading ended rest (position_after position) words) → Reading ended ahead position (word ∷ words)
  one_more ended word words flag [] position next later =
      inr (λ rows pending known. stray (list_any is_help (word ∷ words)) rows (held pending) position next word words ended flag)
  one_more ended word words flag (a ∷ rest) position next later = go (later rest next.2)
    where
      go : Reading ended rest (position_after position) words → Reading ended (a ∷ rest) position (word ∷ words)
      go (inl (given, g)) = inl ((a, Some word) ∷ given, to_next flag g)
      go (inr bad) = inr (λ rows pending known.
          subst (Refuses (list_any is_help (word ∷ words))) (sym (value_after form rows pending known position a rest next word words ended flag))
          (refuses_after _ _ _ (pending_calm rows pending) (refuses_more _ _ _ (help_behind word words)
          (bad (base rows pending) (Some (a, word)) (argument_known form position a next.1)))))

  -- words after `--`
  ended_reading : (words : List Text) (ahead : List Parameter) (position : ℕ) → Ahead s.rules position ahead → Reading true ahead position words
  ended_reading [] ahead position next = inl ([], no_word)
  ended_reading (word ∷ words) ahead position next =
      one_more true word words (λ e. absurd (true≢false e)) ahead position next (λ rest h. ended_reading words rest (position_after position) h)

  -- the words read so at each position
  abbrev ReadsHere : List Text → Type 0
  ReadsHere words = (ahead : List Parameter) (position : ℕ) → Ahead s.rules position ahead → Reading false ahead position words

  -- the words after the first
  abbrev behind_first : List Text → List Text
  behind_first [] = []
  behind_first (word ∷ words) = words

  -- an option is met, with its text or without
  module _ (word : Text) (words : List Text) (utf8 : All IsUtf8 words) (dashes : bytes_eq word (codes "--") ≡ false) (here : ReadsHere words) (later : ReadsHere (behind_first words))
      (o : Choice) (has : HasOption form o) (ahead : List Parameter) (position : ℕ) (next : Ahead s.rules position ahead) where
    joined_reading : (text : Text) → long_of word ≡ Some (o.takes.id, Some text) → word ≡ codes "--" ++ (o.takes.id ++ (codes "=" ++ text)) → Reading false ahead position (word ∷ words)
    joined_reading text read is = go (here ahead position next)
      where
        go : Reading false ahead position words → Reading false ahead position (word ∷ words)
        go (inl (given, g)) = inl ((o.takes, Some text) ∷ given, joined has is g)
        go (inr bad) = inr (λ rows pending known.
            subst (Refuses (list_any is_help (word ∷ words))) (sym (joined_after form rows pending known position o has word dashes text read words))
            (refuses_after _ _ _ (pending_calm rows pending) (refuses_after _ _ _ (use_no_answer false (filled (rule o.takes)) (base rows pending) (text ∷ []) refl)
            (refuses_more _ _ _ (help_behind word words) (bad (use_of (base rows pending) (o.takes, Some text)) None tt)))))

    -- what is refused after the option is refused with it
    waits : long_of word ≡ Some (o.takes.id, None)
        → ((rows : List Row) → Refuses (list_any is_help words) (fault_from s (waiting_for rows o.takes.id position) words)) → AreRefused false position (word ∷ words)
    waits read bad = λ rows pending known.
        subst (Refuses (list_any is_help (word ∷ words))) (sym (option_after form rows pending known position o has word dashes read words))
        (refuses_after _ _ _ (pending_calm rows pending) (refuses_more _ _ _ (help_behind word words) (bad (base rows pending))))

  apart_reading : (word : Text) (words : List Text) → All IsUtf8 words → bytes_eq word (codes "--") ≡ false → ReadsHere (behind_first words)
      → (o : Choice) → HasOption form o → (ahead : List Parameter) (position : ℕ) → Ahead s.rules position ahead
      → long_of word ≡ Some (o.takes.id, None) → word ≡ codes "--" ++ o.takes.id → Reading false ahead position (word ∷ words)
  unfolding walked
  apart_reading word [] utf8 dashes later o has ahead position next read is =
      inr (waits word [] utf8 dashes (λ a p h. inl ([], no_word)) later o has ahead position next read
      (λ rows. waits_at_end false rows position o has (waiting_for rows o.takes.id position) refl))
  apart_reading word (text ∷ rest) utf8 dashes later o has ahead position next read is = go (bytes_eq text (codes "--")) refl (is_flag text) refl
    where
      refused : ((rows : List Row) → Refuses (list_any is_help (text ∷ rest)) (fault_from s (waiting_for rows o.takes.id position) (text ∷ rest))) → Reading false ahead position (word ∷ text ∷ rest)
      refused bad = inr (λ rows pending known.
          subst (Refuses (list_any is_help (word ∷ text ∷ rest))) (sym (option_after form rows pending known position o has word dashes read (text ∷ rest)))
          (refuses_after _ _ _ (pending_calm rows pending) (refuses_more _ _ _ (help_behind word (text ∷ rest)) (bad (base rows pending)))))

      given : is_flag text ≡ false → Reading false ahead position rest → Reading false ahead position (word ∷ text ∷ rest)
      given flag (inl (g, gives)) = inl ((o.takes, Some text) ∷ g, apart has is flag gives)
      given flag (inr bad) = inr (λ rows pending known.
          subst (Refuses (list_any is_help (word ∷ text ∷ rest))) (sym (apart_after form rows pending known position o has word dashes read text flag rest))
          (refuses_after _ _ _ (pending_calm rows pending) (refuses_more _ _ _ (λ h. help_behind word (text ∷ rest) (help_behind text rest h))
          (bad (base rows pending) (Some (o.takes, text)) (option_known form o (by_id form.options form.switches form.arguments o has))))))

      ends : bytes_eq text (codes "--") ≡ true → (rows : List Row) → Refuses (list_any is_help (text ∷ rest)) (fault_from s (waiting_for rows o.takes.id position) (text ∷ rest))
      ends e rows = subst (Refuses (list_any is_help (text ∷ rest))) (sym (fault_after s (waiting_for rows o.takes.id position) text rest ∙ turned))
          (waits_behind (list_any is_help (text ∷ rest)) rows position o has ahead next rest)
        where
          turned : or_else (turn_fault s [] (waiting_for rows o.takes.id position) text) (fault_from s (walked s.rules [] (waiting_for rows o.takes.id position) text) rest)
              ≡ fault_from s (record (waiting_for rows o.takes.id position) { is_trailing = true }) rest
          turned = rw e refl

      go : (d : Bool) → bytes_eq text (codes "--") ≡ d → (f : Bool) → is_flag text ≡ f → Reading false ahead position (word ∷ text ∷ rest)
      go true e f h = refused (ends e)
      go false e true h = refused (λ rows. waits_before (list_any is_help (text ∷ rest)) rows position o has text (All-head IsUtf8 text rest utf8) e h (help_first text rest) rest)
      go false e false h = given h (later ahead position next)

  -- a switch is met
  switched_reading : (word : Text) (words : List Text) → bytes_eq word (codes "--") ≡ false → ReadsHere words
      → (w : Parameter) → HasSwitch form w → (ahead : List Parameter) (position : ℕ) → Ahead s.rules position ahead
      → long_of word ≡ Some (w.id, None) → word ≡ codes "--" ++ w.id → Reading false ahead position (word ∷ words)
  switched_reading word words dashes here w has ahead position next read is = go (here ahead position next)
    where
      none : option_named form.options w.id ≡ None
      none = no_option form flags w has

      go : Reading false ahead position words → Reading false ahead position (word ∷ words)
      go (inl (given, g)) = inl ((w, None) ∷ given, switched has is g)
      go (inr bad) = inr (λ rows pending known.
          subst (Refuses (list_any is_help (word ∷ words))) (sym (switched_after form rows pending known position w has none word dashes read words))
          (refuses_after _ _ _ (pending_calm rows pending) (refuses_after _ _ _ (use_no_answer false (built_switch w) (base rows pending) [] refl)
          (refuses_more _ _ _ (help_behind word words) (bad (use_of (base rows pending) (w, None)) None tt)))))

  -- a flag that is neither an option nor a switch is refused with the words after it
  flagged : (word : Text) (words : List Text) → (position : ℕ) → ((rows : List Row) (pending : Option Value) → AreKnown form pending
      → Refuses (list_any is_help (word ∷ words)) (word_fault s [] false idle word (holding rows (held pending)))) → AreRefused false position (word ∷ words)
  flagged word words position bad = λ rows pending known.
      subst (Refuses (list_any is_help (word ∷ words))) (sym (fault_after s (now form rows pending position false) word words))
      (refuses_first _ _ _ (refuses_first _ _ _ (bad rows pending known)))

  -- what is pending settles without an answer
  settle_calm : (rows : List Row) (pending : Option Value) → AreKnown form pending → NoAnswer (settle_fault s.rules false (holding rows (held pending)))
  settle_calm rows pending known = subst NoAnswer (sym (settle_is form rows pending known)) (pending_calm rows pending)

  -- words that begin with a flag
  flag_reading : (word : Text) (words : List Text) → IsUtf8 word → All IsUtf8 words → bytes_eq word (codes "--") ≡ false → is_flag word ≡ true
      → ReadsHere words → ReadsHere (behind_first words) → ReadsHere (word ∷ words)
  flag_reading word words utf8 others dashes flag here later ahead position next = go (flag_read word utf8 dashes flag)
    where
      at_option : (l : IsLong word) → (o : Choice) → option_named form.options l.name ≡ Some o → Reading false ahead position (word ∷ words)
      at_option l o e = by_value l.value l.read l.spelled
        where
          same : l.name ≡ o.takes.id
          same = sym ((bytes_eq-Decides o.takes.id l.name).0 (found_passes (λ (c : Choice). bytes_eq c.takes.id l.name) form.options o e))

          has : HasOption form o
          has = ap (option_named form.options) (sym same) ∙ e

          by_value : (v : Option Text) → long_of word ≡ Some (l.name, v) → word ≡ codes "--" ++ name_with l.name v → Reading false ahead position (word ∷ words)
          by_value None read is = apart_reading word words others dashes later o has ahead position next
              (read ∙ ap (λ (n : Text). Some (n, None)) same) (is ∙ ap (λ (n : Text). codes "--" ++ n) same)
          by_value (Some v) read is = joined_reading word words others dashes here later o has ahead position next v
              (read ∙ ap (λ (n : Text). Some (n, Some v)) same) (is ∙ ap (λ (n : Text). codes "--" ++ (n ++ 61 ∷ v)) same)

      at_switch : (l : IsLong word) → option_named form.options l.name ≡ None → (w : Parameter) → switch_named form.switches l.name ≡ Some w → Reading false ahead position (word ∷ words)
      at_switch l none w e = by_value l.value refl l.read l.spelled
        where
          same : l.name ≡ w.id
          same = sym ((bytes_eq-Decides w.id l.name).0 (found_passes (λ (x : Parameter). bytes_eq x.id l.name) form.switches w e))

          has : HasSwitch form w
          has = ap (switch_named form.switches) (sym same) ∙ e

          by_value : (v : Option Text) → l.value ≡ v → long_of word ≡ Some (l.name, v) → word ≡ codes "--" ++ name_with l.name v → Reading false ahead position (word ∷ words)
          by_value None is read spelled = switched_reading word words dashes here w has ahead position next
              (read ∙ ap (λ (n : Text). Some (n, None)) same) (spelled ∙ ap (λ (n : Text). codes "--" ++ n) same)
          by_value (Some v) is read spelled = inr (flagged word words position (λ rows pending known.
              rw (dashes, read) (valued_refused (list_any is_help (word ∷ words)) rows (held pending) (settle_calm rows pending known) word (help_first word words) l w v none e)))

      at_long : (l : IsLong word) → (r : Option Choice) → option_named form.options l.name ≡ r → Reading false ahead position (word ∷ words)
      at_long l (Some o) e = at_option l o e
      at_long l None e = other (switch_named form.switches l.name) refl
        where
          other : (r : Option Parameter) → switch_named form.switches l.name ≡ r → Reading false ahead position (word ∷ words)
          other None f = inr (flagged word words position (λ rows pending known.
              rw (dashes, l.read) (long_refused (list_any is_help (word ∷ words)) rows (held pending) (settle_calm rows pending known) word (help_first word words) l e f)))
          other (Some w) f = at_switch l e w f

      go : IsLong word ⊎ IsBundle word → Reading false ahead position (word ∷ words)
      go (inl l) = at_long l (option_named form.options l.name) refl
      go (inr b) = inr (flagged word words position (λ rows pending known.
          rw (dashes, b.no_long, b.read) (bundle_refused (list_any is_help (word ∷ words)) rows (held pending) (settle_calm rows pending known) word (help_first word words) b)))

  -- words that begin with `--`
  dashes_reading : (word : Text) (words : List Text) → bytes_eq word (codes "--") ≡ true → ReadsHere (word ∷ words)
  dashes_reading word words e ahead position next = go (ended_reading words ahead position next)
    where
      go : Reading true ahead position words → Reading false ahead position (word ∷ words)
      go (inl (given, g)) = inl (given, then_values ((bytes_eq-Decides word (codes "--")).0 e) g)
      go (inr bad) = inr (λ rows pending known.
          subst (Refuses (list_any is_help (word ∷ words))) (sym (dashes_after form rows pending known position word words e))
          (refuses_more _ _ _ (help_behind word words) (bad rows pending known)))

  -- all words read so, and those after the first
  readings : (words : List Text) → All IsUtf8 words → ReadsHere words × ReadsHere (behind_first words)
  readings [] utf8 = (λ ahead position next. inl ([], no_word), λ ahead position next. inl ([], no_word))
  readings (word ∷ words) utf8 =
      let more = readings words (All-tail IsUtf8 word words utf8) in
      (go more (bytes_eq word (codes "--")) refl (is_flag word) refl, more.0)
    where
      go : ReadsHere words × ReadsHere (behind_first words) → (d : Bool) → bytes_eq word (codes "--") ≡ d → (f : Bool) → is_flag word ≡ f → ReadsHere (word ∷ words)
      go more true e f h = dashes_reading word words e
      go more false e true h = flag_reading word words (All-head IsUtf8 word words utf8) (All-tail IsUtf8 word words utf8) e h more.0 more.1
      go more false e false h = λ ahead position next. one_more false word words (λ _. h) ahead position next (λ rest n. more.0 rest (position_after position) n)

  -- the words after a command's name give texts, or clap refuses them
  pub reading : (words : List Text) → All IsUtf8 words → Ahead s.rules 1 form.arguments → Reading false form.arguments 1 words
  reading words utf8 next = (readings words utf8).0 form.arguments 1 next
