-- The rows of switches that were not given, which clap adds after the others.
use Rattle.std.proofs.Common.{◌≡◌, ◌∙◌, Bool, cond, true, false, refl, sym, ap, List, [], ◌∷◌, ◌++◌, Option, Some, None, codes, fold, is_some}
use Rattle.std.specs.Prelude.{find}
use Rattle.std.specs.Option.{option_map_or}
use Rattle.std.specs.Str.{bytes_eq}
use Rattle.std.proofs.lemmas.Bool.{or_parts}
use Rattle.clap.specs.Facts.{explicit_source}
use Rattle.clap.specs.Takes.{is_given}
use Rattle.clap.specs.Walk.{Row, Text, at_row, has_row, more_values, with_default}
use Rattle.clap.specs.declared.builder.value_parser.Reading.TheVariants.{AsWritten}
use Rattle.clap.specs.declared.parser.matches.ValueSource.TheVariants.{DefaultValue}
use Rattle.command_line.specs.Forms.{Parameter}
use Rattle.command_line.proofs.Firsts.{any_found}
use Rattle.command_line.proofs.FormRules.{built_switch, is_switch, same_text}

-- if there is no row of a name, a new one goes after the others
pub at_row_fresh : (id : Text) (change : Row → List Row) (missing rows : List Row) → has_row id rows ≡ false → at_row id change missing rows ≡ rows ++ missing
at_row_fresh id change missing [] none = refl
at_row_fresh id change missing (r ∷ rows) none =
    let other : bytes_eq r.id id ≡ false = (or_parts _ _ none).0 in
    rw other (ap (λ xs. r ∷ xs) (at_row_fresh id change missing rows (or_parts _ _ none).1))

-- the rows, with one for each switch that has none
abbrev pub with_switches : List Parameter → List Row → List Row
with_switches switches rows = fold (λ (xs : List Row) (w : Parameter). with_default xs (built_switch w)) rows switches

-- the row of a switch that was not given
abbrev pub off_row : Parameter → Row
off_row w = record { id = w.id; values = codes "false" ∷ []; count = None; source = Some DefaultValue; reading = AsWritten }

-- a switch without a row gets one, after the others
pub row_added : (w : Parameter) (rows : List Row) → has_row w.id rows ≡ false → with_default rows (built_switch w) ≡ rows ++ off_row w ∷ []
row_added w rows none = rw none (at_row_fresh w.id (more_values DefaultValue (codes "false" ∷ [])) (off_row w ∷ []) rows none)

-- one that has a row gets no other
pub row_kept : (w : Parameter) (rows : List Row) → has_row w.id rows ≡ true → with_default rows (built_switch w) ≡ rows
row_kept w rows has = rw has refl

-- ---- what is found under another name

-- the first row of a name
abbrev pub row_named : Text → List Row → Option Row
row_named id rows = find (λ (r : Row). bytes_eq r.id id) rows

-- it is the same with a row of another name after the others
named_before : (id : Text) (last : Row) (rows : List Row) → bytes_eq last.id id ≡ false → row_named id (rows ++ last ∷ []) ≡ row_named id rows
named_before id last [] other = rw other refl
named_before id last (r ∷ rows) other = go (bytes_eq r.id id) (named_before id last rows other)
  where
    go : (t : Bool) → row_named id (rows ++ last ∷ []) ≡ row_named id rows → cond t (Some r) (row_named id (rows ++ last ∷ [])) ≡ cond t (Some r) (row_named id rows)
    go true later = refl
    go false later = later

-- a new row of a name is the first of it
pub named_last : (w : Parameter) (rows : List Row) → has_row w.id rows ≡ false → row_named w.id (rows ++ off_row w ∷ []) ≡ Some (off_row w)
named_last w [] none = rw (same_text w.id) refl
named_last w (r ∷ rows) none =
    let two = or_parts (bytes_eq r.id w.id) (has_row w.id rows) none in
    rw two.0 (named_last w rows two.1)

-- so it is with the rows of switches of other names
pub others_named : (id : Text) (switches : List Parameter) (rows : List Row) → is_switch switches id ≡ false → row_named id (with_switches switches rows) ≡ row_named id rows
others_named id [] rows none = refl
others_named id (w ∷ ws) rows none = others_named id ws (with_default rows (built_switch w)) two.1 ∙ one (has_row w.id rows) refl
  where
    two : (bytes_eq w.id id ≡ false) × (is_switch ws id ≡ false)
    two = or_parts (bytes_eq w.id id) (is_switch ws id) none

    one : (t : Bool) → has_row w.id rows ≡ t → row_named id (with_default rows (built_switch w)) ≡ row_named id rows
    one true e = ap (row_named id) (row_kept w rows e)
    one false e = ap (row_named id) (row_added w rows e) ∙ named_before id (off_row w) rows two.0

-- so it is with its own row, which comes first or last of its name
pub own_row : (w : Parameter) (rows others : List Row) → row_named w.id others ≡ row_named w.id rows
    → row_named w.id (with_default others (built_switch w)) ≡ row_named w.id (with_default rows (built_switch w))
own_row w rows others same = go (has_row w.id rows) refl
  where
    there : (xs : List Row) → has_row w.id xs ≡ is_some (row_named w.id xs)
    there xs = any_found (λ (r : Row). bytes_eq r.id w.id) xs

    both_have : has_row w.id others ≡ has_row w.id rows
    both_have = there others ∙ ap (λ (o : Option Row). is_some o) same ∙ sym (there rows)

    go : (t : Bool) → has_row w.id rows ≡ t → row_named w.id (with_default others (built_switch w)) ≡ row_named w.id (with_default rows (built_switch w))
    go true e = ap (row_named w.id) (row_kept w others (both_have ∙ e)) ∙ same ∙ sym (ap (row_named w.id) (row_kept w rows e))
    go false e =
        ap (row_named w.id) (row_added w others (both_have ∙ e)) ∙ named_last w others (both_have ∙ e) ∙ sym (ap (row_named w.id) (row_added w rows e) ∙ named_last w rows e)

-- the rows of switches that follow others
pub switches_parted : (before after : List Parameter) (rows : List Row) → with_switches (before ++ after) rows ≡ with_switches after (with_switches before rows)
switches_parted [] after rows = refl
switches_parted (v ∷ vs) after rows = switches_parted vs after (with_default rows (built_switch v))

-- ---- what is given

-- the row of a switch that was not given gives nothing
given_before : (id : Text) (w : Parameter) (rows : List Row) → is_given id (rows ++ off_row w ∷ []) ≡ is_given id rows
given_before id w [] = go (bytes_eq w.id id)
  where
    go : (t : Bool) → option_map_or (λ (r : Row). explicit_source r.source) (cond t (Some (off_row w)) None) false ≡ false
    go true = refl
    go false = refl
given_before id w (r ∷ rows) = go (bytes_eq r.id id) (given_before id w rows)
  where
    go : (t : Bool) → is_given id (rows ++ off_row w ∷ []) ≡ is_given id rows
        → option_map_or (λ (x : Row). explicit_source x.source) (cond t (Some r) (row_named id (rows ++ off_row w ∷ []))) false
        ≡ option_map_or (λ (x : Row). explicit_source x.source) (cond t (Some r) (row_named id rows)) false
    go true later = refl
    go false later = later

-- so the rows of switches give what the others give
pub given_same : (id : Text) (switches : List Parameter) (rows : List Row) → is_given id (with_switches switches rows) ≡ is_given id rows
given_same id [] rows = refl
given_same id (w ∷ ws) rows = given_same id ws (with_default rows (built_switch w)) ∙ one (has_row w.id rows) refl
  where
    one : (t : Bool) → has_row w.id rows ≡ t → is_given id (with_default rows (built_switch w)) ≡ is_given id rows
    one true e = ap (is_given id) (row_kept w rows e)
    one false e = ap (is_given id) (row_added w rows e) ∙ given_before id w rows
