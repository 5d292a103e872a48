use Rattle.std.proofs.Common.{◌∙◌, map, subst, sym}
use Rattle.std.proofs.lemmas.List.{length-map}
use Rattle.heap_layout.specs.Heap.{Heap, IsClosed}
use Rattle.comp_audit.specs.Judged.{faults, Judges}
use Rattle.comp_mutator.specs.Mutators.{pass_of, setup_of}
use Rattle.embedding_example.proofs.Audited.{finished_is_yes}
use Rattle.embedding_example.proofs.cycle.run.Goals as goal

pub returns-in-Ok-audit : goal.returns-in-Ok-audit
returns-in-Ok-audit g c =
    let u = setup_of c.in-Ok-flip.space in
    let done = c.in-Ok-finish.ensures.finished in
    let dump = c.in-Ok-of.dump in
    let made = c.in-Ok-of.ensures in
    let verdict = c.in-Ok-audit.verdict in
    let same = c.in-Ok-flip.ensures.heap ∙ c.in-Ok.ensures.cases in
    record {
      yes = finished_is_yes u (map pass_of done.0) c.in-Ok-finish.finished dump verdict c.lawful_is_yes.ensures.finished done.2
          (subst (λ (h : Heap). IsClosed h) (c.deref.ensures ∙ sym same) c.heap_is_closed.ensures)
          (length-map done.0 pass_of ∙ (done.1.count ∙ c.in-Ok-flip.ensures.mutators)) c.in-Ok-flip.ensures.mutators c.in-Ok-flip.ensures.fresh c.dump_is_stored.ensures
          (record { edition_is = made.edition; mutators_are = made.mutators; fresh_are = made.fresh; roots = made.roots; pages = made.pages; builds = made.builds; total = made.total })
          (subst (λ (h : Heap). Judges (faults h dump) verdict) (c.deref-2.ensures ∙ sym same) c.in-Ok-audit.ensures);
    }
