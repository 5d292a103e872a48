use Rattle.std.proofs.Common.{◌≡◌, ◌∙◌, ap, length, sym, arith}
use Rattle.heap_layout.specs.Heap.{Heap, live}
use Rattle.page_plan.specs.Sliding.{forward_value}
use Rattle.comp_dump.specs.Setup.{pages}
use Rattle.comp_audit.proofs.Reporting.{are_forwarded}
use Rattle.comp_audit.specs.Explained.{setup_of}
use Rattle.comp_audit.proofs.explaining.heads.explain_head.Goals as goal

pub returns : goal.returns
returns c =
    let heap = c.args.plan.now in
    let dump = c.args.dump.now in
    let edition : dump.edition ≡ heap.edition = sym c.edition.ensures ∙ c.if-differ.ensures.same ∙ c.edition-2.ensures ∙ ap (λ (h : Heap). h.edition) c.heap.ensures in
    let long : length dump.pages ≡ pages (setup_of heap dump) =
    omega (arith, c.if-pages-right_pages.false, c.len-pages.ensures, ap length c.pages.ensures, c.pages-2.ensures.pages, c.from.ensures, c.fresh_pages.ensures) in
    c.explain_roots.ensures heap dump (record { edition = edition; pages = long }) (sym c.roots.ensures)
    (c.deref.ensures.value ∙ are_forwarded (forward_value heap.edition (live heap)) _ _ c.in_ok-right_roots.ensures)
