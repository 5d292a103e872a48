-- When clap finds no fault in uses: each name is used once, each text is one that is taken, and no argument is
-- missing. Its rows are then theirs.
use Rattle.std.proofs.Common.{◌≡◌, ◌∙◌, ◌<◌, ◌≤◌, ◌^◌, ◌&&◌, ◌||◌, ℕ, Bool, cond, refl, sym, ap, ap₂, true, false, not, List, [], ◌∷◌, ◌++◌, Option, Some, None, codes, fold, map, append-nil, append_assoc}
use Rattle.std.specs.Prelude.{find, option_map, IfSome, unwrap_or}
use Rattle.std.specs.List.{All, list_all, list_any}
use Rattle.std.specs.Option.{option_map_or}
use Rattle.std.specs.Str.{bytes_eq}
use Rattle.std.specs.Str.Parse.{digits_value, without_leading_plus}
use Rattle.std.proofs.lemmas.Bool.{or_from, or_parts}
use Rattle.std.proofs.lemmas.List.{map-append}
use Rattle.std.proofs.lemmas.List.Elements.{All-cons, All-head, All-nil, All-tail}
use Rattle.std.proofs.lemmas.List.Folds.{list_any-append}
use Rattle.clap.specs.Facts.{explicit_source}
use Rattle.clap.specs.Kinds.{or_else}
use Rattle.clap.specs.Simple.{filled}
use Rattle.clap.specs.Takes.{is_given}
use Rattle.clap.specs.Values.{Accepts, reading_of, refused_kind}
use Rattle.clap.specs.ValueTests.{accepts}
use Rattle.clap.specs.Walk.{Row, Text, at_row, has_row, more_values, with_values, without}
use Rattle.clap.specs.declared.builder.value_parser.Reading.{Reading}
use Rattle.clap.specs.declared.builder.value_parser.Reading.TheVariants.{AsWritten}
use Rattle.clap.specs.declared.builder.value_parser.ValueParser.{ValueParser}
use Rattle.clap.specs.declared.builder.value_parser.ValueParser.TheVariants as vp
use Rattle.clap.specs.declared.error.kind.ErrorKind.TheVariants as kind
use Rattle.clap.specs.declared.parser.matches.ValueSource.TheVariants.{CommandLine}
use Rattle.clap.proofs.ValueTestLemmas.{accepts-Accepts, Accepts-accepts}
use Rattle.clap.proofs.WalkLemmas.{both, find-map, list_any-map}
use Rattle.command_line.specs.Forms.{Form, Parameter}
use Rattle.command_line.specs.Given.{IsNumber, Takes, Use, are_once, is_among}
use Rattle.command_line.specs.Parser.{rule}
use Rattle.command_line.proofs.Calm.{use_no_answer}
use Rattle.command_line.proofs.KindLists.{NoAnswer, neither, no_answer_cond, no_answer_or, one_kind}
use Rattle.command_line.proofs.FormRules.{built_switch, not_true}
use Rattle.command_line.proofs.SwitchRows.{at_row_fresh, row_named}
use Rattle.command_line.proofs.Uses.{is_missing, use_kinds, use_of}
use Rattle.command_line.proofs.Follows.{kinds_of}

-- ---- what is taken

-- the parser of an argument or option, by its bounds
abbrev parser_by : Option (ℕ × ℕ) → ValueParser
parser_by bounds = unwrap_or (option_map (λ (b : ℕ × ℕ). vp.Unsigned b.0 b.1) bounds) vp.String

-- the texts that it takes are those within the bounds
takes_from : (bounds : Option (ℕ × ℕ)) (text : Text) → accepts false (parser_by bounds) text ≡ true
    → IfSome bounds (λ b. (n : ℕ) × IsNumber text n × (b.0 ≤ n) × (n ≤ b.1))
takes_from None text h = _
takes_from (Some b) text h =
    let is : Accepts false (vp.Unsigned b.0 b.1) text = accepts-Accepts false (vp.Unsigned b.0 b.1) text h in
    (digits_value 10 (without_leading_plus text), record { numeral = is.0; value = refl; fits = is.1 }, is.2, is.3)

takes_to : (bounds : Option (ℕ × ℕ)) (text : Text) → IfSome bounds (λ b. (n : ℕ) × IsNumber text n × (b.0 ≤ n) × (n ≤ b.1))
    → accepts false (parser_by bounds) text ≡ true
takes_to None text h = refl
takes_to (Some b) text (n, number, low, high) =
    let fits : digits_value 10 (without_leading_plus text) < 2 ^ 64 = rw (← number.value) number.fits in
    let least : b.0 ≤ digits_value 10 (without_leading_plus text) = rw (← number.value) low in
    let most : digits_value 10 (without_leading_plus text) ≤ b.1 = rw (← number.value) high in
    Accepts-accepts false (vp.Unsigned b.0 b.1) text (number.numeral, fits, least, most)

-- ---- rows of uses

-- the value of a use: its text, or `true` for a switch
abbrev pub value_of : Use → Text
value_of u = unwrap_or u.1 (codes "true")

-- the row of a use
abbrev pub row : Use → Row
row u = record { id = u.0.id; values = value_of u ∷ []; count = None; source = Some CommandLine; reading = AsWritten }

-- each parser reads a value as it is written
read_by : (bounds : Option (ℕ × ℕ)) → reading_of (parser_by bounds) ≡ AsWritten
read_by None = refl
read_by (Some b) = refl

-- one of the uses has this name
abbrev pub is_used : Text → List Use → Bool
is_used id done = list_any (λ (u : Use). bytes_eq u.0.id id) done

-- none of these uses has the name of one of those
abbrev pub AreFresh : List Use → List Use → Type 0
AreFresh done [] = Unit {0}
AreFresh done (u ∷ us) = (is_used u.0.id done ≡ false) × AreFresh done us

-- a value that is set has its row after the others, if its name has no row
set_last : (u : Use) (rows : List Row) → has_row u.0.id rows ≡ false → with_values u.0.id AsWritten CommandLine (value_of u ∷ []) (without u.0.id rows) ≡ rows ++ row u ∷ []
set_last u rows none =
    let same : without u.0.id rows ≡ rows = at_row_fresh u.0.id (λ _. []) [] rows none ∙ append-nil rows in
    ap (at_row u.0.id (more_values CommandLine (value_of u ∷ [])) (row u ∷ [])) same ∙ at_row_fresh u.0.id (more_values CommandLine (value_of u ∷ [])) (row u ∷ []) rows none

-- so does a use
used_fresh : (u : Use) (rows : List Row) → has_row u.0.id rows ≡ false → use_of rows u ≡ rows ++ row u ∷ []
used_fresh (p, Some text) rows none =
    ap (λ (how : Reading). with_values p.id how CommandLine (text ∷ []) (without p.id rows)) (read_by p.bounds) ∙ set_last (p, Some text) rows none
used_fresh (p, None) rows none = set_last (p, None) rows none

-- a name has a row if it is used
pub row_used : (id : Text) (done : List Use) → has_row id (map row done) ≡ is_used id done
row_used id done = sym (list_any-map (λ (r : Row). bytes_eq r.id id) row done)

-- so a fresh use is the last of all
used_last : (u : Use) (done : List Use) → is_used u.0.id done ≡ false → use_of (map row done) u ≡ map row (done ++ u ∷ [])
used_last u done fresh = used_fresh u (map row done) (row_used u.0.id done ∙ fresh) ∙ sym (map-append row done (u ∷ []))

-- uses that are fresh after one more are fresh, and its name is not among theirs
fresh_before : (done : List Use) (d : Use) (us : List Use) → AreFresh (done ++ d ∷ []) us → AreFresh done us × (is_among d.0.id us ≡ false)
fresh_before done d [] h = (tt, refl)
fresh_before done d (u ∷ us) h =
    let two = or_parts (is_used u.0.id done) (is_used u.0.id (d ∷ [])) (sym (list_any-append (λ (x : Use). bytes_eq x.0.id u.0.id) done (d ∷ [])) ∙ h.0) in
    let later = fresh_before done d us h.1 in
    ((two.0, later.0), or_from _ _ (or_parts (bytes_eq d.0.id u.0.id) false two.1).0 later.1)

fresh_behind : (done : List Use) (d : Use) (us : List Use) → AreFresh done us → is_among d.0.id us ≡ false → AreFresh (done ++ d ∷ []) us
fresh_behind done d [] h apart = tt
fresh_behind done d (u ∷ us) h apart =
    let two = or_parts (bytes_eq d.0.id u.0.id) (is_among d.0.id us) apart in
    (list_any-append (λ (x : Use). bytes_eq x.0.id u.0.id) done (d ∷ []) ∙ or_from _ _ h.0 (or_from _ _ two.0 refl), fresh_behind done d us h.1 two.1)

-- whether the text of a use is taken; a switch has none
abbrev is_taken : Use → Bool
is_taken u = option_map_or (λ (text : Text). accepts false (parser_by u.0.bounds) text) u.1 true

-- the texts of uses are taken if they are within the bounds
taken_from : (u : Use) → is_taken u ≡ true → IfSome u.1 (Takes u.0)
taken_from (p, Some text) h = takes_from p.bounds text h
taken_from (p, None) h = _

taken_to : (u : Use) → IfSome u.1 (Takes u.0) → is_taken u ≡ true
taken_to (p, Some text) h = takes_to p.bounds text h
taken_to (p, None) h = refl

-- a use that is fresh has a fault if and only if its text is not taken; one that is not fresh is repeated
fresh_use : (u : Use) (rows : List Row) → has_row u.0.id rows ≡ false → use_kinds rows u ≡ cond (is_taken u) [] (refused_kind (parser_by u.0.bounds) ∷ [])
fresh_use (p, Some text) rows none = go (accepts false (parser_by p.bounds) text) refl
  where
    go : (t : Bool) → accepts false (parser_by p.bounds) text ≡ t
        → use_kinds rows (p, Some text) ≡ cond (accepts false (parser_by p.bounds) text) [] (refused_kind (parser_by p.bounds) ∷ [])
    go true e = rw (none, e) refl
    go false e = rw (none, e) refl
fresh_use (p, None) rows none = rw none refl

repeated_use : (u : Use) (rows : List Row) → has_row u.0.id rows ≡ true → use_kinds rows u ≡ kind.ArgumentConflict ∷ []
repeated_use (p, Some text) rows has = rw has refl
repeated_use (p, None) rows has = rw has refl

-- no answer comes of a use
use_calm : (rows : List Row) (u : Use) → NoAnswer (use_kinds rows u)
use_calm rows (p, Some text) = use_no_answer false (filled (rule p)) rows (text ∷ []) refl
use_calm rows (p, None) = use_no_answer false (built_switch p) rows [] refl

-- ---- what is found

-- the first use of a name
abbrev pub use_named : List Use → Text → Option Use
use_named given id = find (λ (u : Use). bytes_eq u.0.id id) given

-- what is found of a name is what is given to it
pub given_found : (id : Text) (given : List Use) → is_given id (map row given) ≡ is_used id given
given_found id [] = refl
given_found id (u ∷ us) = go (bytes_eq u.0.id id) (given_found id us)
  where
    go : (t : Bool) → is_given id (map row us) ≡ is_used id us
        → option_map_or (λ (r : Row). explicit_source r.source) (cond t (Some (row u)) (row_named id (map row us))) false ≡ (t || is_used id us)
    go true later = refl
    go false later = later

-- the row of a name is that of its use
pub found_row : (id : Text) (given : List Use) → row_named id (map row given) ≡ option_map row (use_named given id)
found_row id given = sym (find-map (λ (r : Row). bytes_eq r.id id) row given)

-- ---- when nothing is wrong

module _ (form : Form) where
  -- each argument is used
  abbrev pub is_whole : List Use → Bool
  is_whole given = list_all (λ (a : Parameter). is_used a.id given) form.arguments

  -- none is then missing, and the other way round
  none_missing : (given : List Use) (arguments : List Parameter) → list_all (λ (a : Parameter). is_used a.id given) arguments ≡ true
      → list_any (is_missing (map row given)) arguments ≡ false
  none_missing given [] h = refl
  none_missing given (a ∷ rest) h =
      let parts = both _ _ h in
      let there : is_given a.id (map row given) ≡ true = given_found a.id given ∙ parts.0 in
      or_from _ _ (ap not there) (none_missing given rest parts.1)

  all_there : (given : List Use) (arguments : List Parameter) → list_any (is_missing (map row given)) arguments ≡ false
      → list_all (λ (a : Parameter). is_used a.id given) arguments ≡ true
  all_there given [] h = refl
  all_there given (a ∷ rest) h =
      let parts = or_parts _ _ h in
      let there : is_used a.id given ≡ true = sym (given_found a.id given) ∙ go (is_given a.id (map row given)) parts.0 in
      ap₂ ◌&&◌ there (all_there given rest parts.1)
    where
      go : (t : Bool) → not t ≡ false → t ≡ true
      go true e = refl
      go false e = sym e

  -- uses without a fault, after those that were done
  pub record AreWell (done us : List Use) : Type 0 where
    pub fresh : AreFresh done us
    pub once : are_once us ≡ true
    pub fit : All (λ u. IfSome u.1 (Takes u.0)) us
    pub whole : is_whole (done ++ us) ≡ true

  -- if there is no fault they are so, and their rows are then after the others
  pub well_from : (done us : List Use) → kinds_of form (map row done) us ≡ [] → AreWell done us × (fold use_of (map row done) us ≡ map row (done ++ us))
  well_from done [] none = (
    record {
      fresh = tt;
      once = refl;
      fit = All-nil (λ (x : Use). IfSome x.1 (Takes x.0));
      whole = ap is_whole (append-nil done) ∙ all_there done form.arguments (calm (list_any (is_missing (map row done)) form.arguments) none);
    },
    ap (map row) (sym (append-nil done)),
  )
    where
      calm : (t : Bool) → cond t (kind.MissingRequiredArgument ∷ []) [] ≡ [] → t ≡ false
      calm true e = absurd (one_kind kind.MissingRequiredArgument e)
      calm false e = refl
  well_from done (u ∷ us) none = go (is_used u.0.id done) refl (λ h. well_from (done ++ u ∷ []) us h)
    where
      parts : (use_kinds (map row done) u ≡ []) × (kinds_of form (use_of (map row done) u) us ≡ [])
      parts = neither _ _ none

      go : (t : Bool) → is_used u.0.id done ≡ t
          → (kinds_of form (map row (done ++ u ∷ [])) us ≡ [] → AreWell (done ++ u ∷ []) us × (fold use_of (map row (done ++ u ∷ [])) us ≡ map row ((done ++ u ∷ []) ++ us)))
          → AreWell done (u ∷ us) × (fold use_of (map row done) (u ∷ us) ≡ map row (done ++ u ∷ us))
      go true e next = absurd (one_kind kind.ArgumentConflict (sym (repeated_use u (map row done) (row_used u.0.id done ∙ e)) ∙ parts.0))
      go false e next =
          let last = used_last u done e in
          let later = next (ap (λ rows. kinds_of form rows us) (sym last) ∙ parts.1) in
          let apart = fresh_before done u us later.0.fresh in
          let taken = taken_from u (accepted (is_taken u) refl (sym (fresh_use u (map row done) (row_used u.0.id done ∙ e)) ∙ parts.0)) in (
            record {
              fresh = (e, apart.0);
              once = rw apart.1 later.0.once;
              fit = All-cons (λ (x : Use). IfSome x.1 (Takes x.0)) u us taken later.0.fit;
              whole = ap is_whole (sym (append_assoc done (u ∷ []) us)) ∙ later.0.whole;
            },
            ap (λ rows. fold use_of rows us) last ∙ later.1 ∙ ap (map row) (append_assoc done (u ∷ []) us),
          )
        where
          accepted : (t : Bool) → is_taken u ≡ t → cond (is_taken u) [] (refused_kind (parser_by u.0.bounds) ∷ []) ≡ [] → is_taken u ≡ true
          accepted true e h = e
          accepted false e h = absurd (one_kind (refused_kind (parser_by u.0.bounds)) (rw e at h))

  -- and if they are so, there is no fault
  pub well_to : (done us : List Use) → AreWell done us → kinds_of form (map row done) us ≡ []
  well_to done [] well =
      let none : list_any (is_missing (map row done)) form.arguments ≡ false = none_missing done form.arguments (ap is_whole (sym (append-nil done)) ∙ well.whole) in
      rw none refl
  well_to done (u ∷ us) well =
      let fresh : has_row u.0.id (map row done) ≡ false = row_used u.0.id done ∙ well.fresh.0 in
      let takes : is_taken u ≡ true = taken_to u (All-head (λ (x : Use). IfSome x.1 (Takes x.0)) u us well.fit) in
      let calm : use_kinds (map row done) u ≡ [] = fresh_use u (map row done) fresh ∙ rw takes refl in
      let apart : is_among u.0.id us ≡ false = not_true (is_among u.0.id us) (both _ _ well.once).0 in
      let later : AreWell (done ++ u ∷ []) us = record {
        fresh = fresh_behind done u us well.fresh.1 apart;
        once = (both _ _ well.once).1;
        fit = All-tail (λ (x : Use). IfSome x.1 (Takes x.0)) u us well.fit;
        whole = ap is_whole (append_assoc done (u ∷ []) us) ∙ well.whole;
      } in
      ap₂ or_else calm (ap (λ rows. kinds_of form rows us) (used_last u done well.fresh.0) ∙ well_to (done ++ u ∷ []) us later)

  -- no answer comes of uses
  pub uses_calm : (rows : List Row) (us : List Use) → NoAnswer (kinds_of form rows us)
  uses_calm rows [] = no_answer_cond (list_any (is_missing rows) form.arguments) (kind.MissingRequiredArgument ∷ []) [] refl refl
  uses_calm rows (u ∷ us) = no_answer_or (use_kinds rows u) (kinds_of form (use_of rows u) us) (use_calm rows u) (uses_calm (use_of rows u) us)
