use Rattle.std.proofs.Common.{◌≡◌, ◌+◌, ◌*◌, ◌≤◌, ◌∙◌, List, length, ap, sym, subst, arith}
use Rattle.std.specs.Prelude.{slice_get}
use Rattle.heap_layout.specs.Heap.{Heap, live}
use Rattle.heap_layout.specs.declared.edition.Edition.{Edition}
use Rattle.heap_layout.specs.declared.kind.Kind.{Kind}
use Rattle.page_plan.specs.Sliding.{kind}
use Rattle.cell_steps.specs.Lawful.{filled, kinds_in}
use Rattle.page_cells.proofs.Fields.{compacted_kind}
use Rattle.page_cells.proofs.Heads.{fresh_kind}
use Rattle.comp_history.proofs.kinds.kinds_on.Goals as goal

pub returns-then-p-pages : goal.returns-then-p-pages
returns-then-p-pages c = λ u heap compacted o inside.
    c.page_kinds.ensures o inside
    ∙ ap (λ (h : Heap). kind (live h) (64 * c.args.p + o)) (sym heap)
    ∙ sym (compacted_kind u c.args.p c.args.journal.now o (omega (arith, compacted)))

pub kinds_made-requires : goal.kinds_made-requires
kinds_made-requires c =
    let edition : c.edition.result ≡ c.args.plan.now.edition = c.edition.ensures ∙ ap (λ (h : Heap). h.edition) c.heap.ensures in
    subst (λ (e : Edition). filled e c.args.journal.now ≤ 64) (sym edition) c.requires

pub spread-requires : goal.spread-requires
spread-requires c =
    let edition : c.edition.result ≡ c.args.plan.now.edition = c.edition.ensures ∙ ap (λ (h : Heap). h.edition) c.heap.ensures in
    omega (arith, c.requires, ap length (c.deref.ensures.value ∙ c.in_ok-kinds.ensures ∙ ap (λ (e : Edition). kinds_in e c.args.journal.now) edition))

pub returns-in_ok-kinds : goal.returns-in_ok-kinds
returns-in_ok-kinds c = λ u heap compacted o inside.
    let edition : c.edition.result ≡ u.heap.edition = c.edition.ensures ∙ ap (λ (h : Heap). h.edition) (c.heap.ensures ∙ sym heap) in
    c.spread.ensures o
    ∙ ap (λ (l : List Kind). slice_get l o) (c.deref.ensures.value ∙ c.in_ok-kinds.ensures ∙ ap (λ (e : Edition). kinds_in e c.args.journal.now) edition)
    ∙ sym (fresh_kind u c.args.p c.args.journal.now o (omega (arith, compacted)))
