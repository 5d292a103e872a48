-- A load of a state word.
use Rattle.std.proofs.lemmas.Bool.{eqb-true}
use Rattle.std.proofs.Common.{ℕ, ◌%◌, ◌<◌, get_or, set, refl, eqb}
use mathlib.Core.Option as maybe
use Rattle.atomic_table.specs.Table.{keeps, step, Allows}
use Rattle.cell_steps.specs.Setup.{Setup, pages}
use Rattle.cell_steps.specs.Whole.{Keeps}
use Rattle.cell_steps.specs.Plays.{Seat, noticing, after_load, loads}
use Rattle.cell_steps.proofs.KnownStarts.{known_odd}
use Rattle.cell_steps.proofs.AloneKept.{word_made}
use Rattle.cell_steps.proofs.ViewMoves.{Goes, kept_looked, kept_written, looks_loaded, own_word}
use Rattle.cell_steps.proofs.Noticed.{turns_in, notices}
use Rattle.cell_steps.proofs.Turned.{keeps_noticed}

-- a load keeps the rule
pub load_allowed : (u : Setup) (slots id : ℕ) (m : Seat) (p : ℕ) → Goes u m.0 → p < pages u
    → Allows (Keeps u) slots id m p (λ n. n) (loads (step slots p 0 0 maybe.none) m)
load_allowed u slots id m p g lt s keeps_ long at_id small =
    let k = keeps_.kept in
    let js = keeps_.journals in
    let v = m.0 in
    let r = get_or s.words p 0 in
    let w = after_load v p r in
    let placed = k.locks.placed id v at_id in
    let looks = looks_loaded u s.words js v p (eqb (r % 2) 1) w.lost lt (eqb-true (r % 2) 1) placed.built (k.starts.known id v at_id) (k.heard id v at_id) in (
      noticing w (turns_in s.views),
      keeps,
      tt,
      keeps_noticed u s js id v w p k keeps_.turns at_id g.port g.goes_on refl refl refl refl
          (kept_written u s js s.homes (set s.views id w) p (kept_looked u s js id v w k at_id g.goes_on (k.words.stores id v at_id).heard looks)),
      ((turns_in s.views, notices u s js id v k keeps_.turns at_id g.port p lt, refl), (λ some. (placed.built p some).1), (λ more own. own_word u s js id v p k.locks at_id lt more own), (λ offset knows. known_odd u s js id v k at_id g.about p offset knows), (λ makes more. word_made u s.words s.homes s.views js k.locks k.ended id v at_id p lt makes more), (λ two. k.alone.finds id v at_id two p lt)),
    )
