use Rattle.std.proofs.Common.{◌∙◌, get_or, List, ℕ, ap}
use Rattle.comp_cycles.specs.Finishes.{journals_of}
use Rattle.comp_cycles.specs.Ends.{setup_in}
use Rattle.comp_cycles.proofs.moving.move_page.Goals as goal

pub returns-then-is_blank-clause-moved : goal.returns-then-is_blank-clause-moved
returns-then-is_blank-clause-moved g c =
    c.add_blank.ensures.moved (setup_in (g.B.Builder.heap c.args.builder.now) c.args.finished.now) (journals_of c.args.finished.now) c.args.p c.args.starts.now
    c.requires.before (c.is_blank.ensures c.if-is_blank.true)

pub returns-clause-moved : goal.returns-clause-moved
returns-clause-moved g c =
    c.add_page.ensures.moved (setup_in (g.B.Builder.heap c.args.builder.now) c.args.finished.now) (journals_of c.args.finished.now) c.args.p
    c.requires.before (c.edition.ensures ∙ c.requires.of.finished.edition) c.in_ok-kinds.ensures (λ o lt. ap (λ (l : List ℕ). get_or l o 0) c.in_ok-page.ensures)
