-- A race invents nothing.
use Rattle.std.proofs.Common.{◌≡◌, ℕ, List, length, refl, sym, ap, subst, ◌∙◌, ⊎_elim, arith}
use Rattle.std.proofs.lemmas.Bool.{cases_lt}
use mathlib.Core.Option.{some, some-ne-none}
use lib.ListN.{get_elem?}
use Rattle.comp_mutator.specs.Entry.{Entry}
use Rattle.comp_mutator.specs.Pass.{Pass}
use Rattle.comp_mutator.specs.Passes.{did}
use Rattle.comp_mutator.specs.Setup.{Setup}
use Rattle.comp_mutator.proofs.Sums.{is_inside, there_at}
use Rattle.comp_trace.specs.Inventions.{InventNothing, IsOfLines}
use Rattle.comp_trace.specs.declared.text.line.Line.{Line}
use Rattle.comp_trace.specs.Races.{numbered, own_lines, RanAndMet}
use Rattle.comp_trace.specs.declared.races.racing.Run.{Run}
use Rattle.comp_trace.proofs.Inventions.{in_by, in_on, met_full, met_read, met_wrote}
use Rattle.commands.specs.TraceTasks.{RanTheirLines}

module _ (u : Setup) (lines : List Line) (row : List Pass) (runs : List Run) (h : RanTheirLines u lines row runs) where
  -- the mutator of a run, before and after it
  one_run : (k : ℕ) (run : Run) → get_elem? runs k ≡ some run
      → (old : Pass) × (now : Pass) × (get_elem? h.before k ≡ some old) × (get_elem? row k ≡ some now) × RanAndMet u (own_lines k (numbered 1 lines)) old now run.shown.items run.fault
  one_run k run at =
      let inside = is_inside runs k run at in
      let old = there_at h.before k (omega (arith, inside, h.count, h.new.count)) in
      let now = there_at row k (omega (arith, inside, h.count, h.crew)) in
      (old.0, now.0, old.1, now.1, h.ran k old.0 now.0 run old.1 now.1 at)

  pub invent_nothing : InventNothing u lines runs
  invent_nothing = record {
    journals = h.met.journals;
    written = λ p i e at.
        let k = e.writer in
        let mine = own_lines k (numbered 1 lines) in
        let one = in_by k (h.met.journals p) i e at refl in
        ⊎_elim
        (λ lt.
        let run = there_at runs k (omega (arith, lt, h.count, h.crew)) in
        let m = one_run k run.0 run.1 in
        let found = in_on p (did m.1) one.0 e (sym (ap (λ (l : List Entry). get_elem? l one.0) (h.met.own k m.1 m.3 p)) ∙ one.1) in
        subst (λ (x : Entry). IsOfLines u mine x) found.3 (met_wrote u mine m.0 m.1 run.0.shown.items run.0.fault m.4 (h.new.new k m.0 m.2).did found.0 found.1 found.2))
        (λ le. absurd (some-ne-none e (sym one.1 ∙ ap (λ (l : List Entry). get_elem? l one.0) (h.met.strangers k p le))))
        (cases_lt k (length row));
    read = λ k run at. let m = one_run k run at in met_read u h.met.journals (own_lines k (numbered 1 lines)) m.0 m.1 run.shown.items run.fault m.4 (h.met.seen k m.1 m.3);
    full = λ k line p run at is. let m = one_run k run at in met_full u h.met.journals (own_lines k (numbered 1 lines)) m.0 m.1 run.shown.items run.fault m.4 (h.met.seen k m.1 m.3) line p is;
  }
