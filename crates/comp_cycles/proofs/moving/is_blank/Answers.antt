use Rattle.std.proofs.Common.{◌≡◌, ◌≤◌, ◌∙◌, [], sym, arith}
use Rattle.std.proofs.lemmas.List.{nil_from_length}
use Rattle.heap_layout.specs.Heap.{live}
use Rattle.page_plan.specs.Sliding.{pages}
use Rattle.comp_cycles.specs.Finishes.{journals_of}
use Rattle.comp_cycles.specs.Ends.{setup_in}
use Rattle.comp_cycles.proofs.MovedWords.{blank-fresh}
use Rattle.comp_cycles.proofs.moving.is_blank.Goals as goal

pub returns : goal.returns
returns g c = λ yes.
    let heap = g.B.Builder.heap c.args.builder.now in
    let journals = journals_of c.args.finished.now in
    let fresh : pages (live heap) ≤ c.args.p = rw (← c.plan.ensures) (omega arith) in
    let none : c.journal_on.result.now ≡ [] = nil_from_length c.journal_on.result.now (omega arith) in
    blank-fresh (setup_in heap c.args.finished.now) journals c.args.p fresh (sym c.journal_on.ensures ∙ none)
