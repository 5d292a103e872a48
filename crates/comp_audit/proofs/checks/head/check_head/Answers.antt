use Rattle.std.proofs.Common.{◌≡◌, ◌∙◌, true, ℕ, List, sym, ap, arith, map, length}
use Rattle.std.specs.Prelude.{bytes_eq}
use Rattle.std.proofs.lemmas.Bool.{not-true, not-false, eq-eqb}
use Rattle.heap_layout.specs.Heap.{Heap, live}
use Rattle.heap_layout.specs.declared.edition.Edition.{Edition}
use Rattle.page_plan.specs.Sliding.{forward_value, forwarded_value}
use Rattle.comp_history.specs.Setup.{pages}
use Rattle.comp_audit.specs.Checks.{is_edition}
use Rattle.comp_audit.specs.Noted.{setup_at}
use Rattle.comp_audit.proofs.Meanings.{true_and}
use Rattle.comp_audit.proofs.Noting.{and_false}
use Rattle.comp_audit.proofs.Reporting.{are_forwarded, second_fails, both_pass}
use Rattle.comp_audit.proofs.checks.head.check_head.Goals as goal

pub returns-then-ne-clause-reported : goal.returns-then-ne-clause-reported
returns-then-ne-clause-reported c =
    let heap = c.args.setting.plan.now in
    let right : c.in_ok-forwarded.forwarded.items ≡ map (forwarded_value heap.edition (live heap)) heap.roots = are_forwarded (forward_value heap.edition (live heap)) _ _ c.in_ok-forwarded.ensures in
    let there = ap (λ (l : List ℕ). bytes_eq l c.as_slice.result.now) c.roots.ensures ∙ ap (bytes_eq c.args.setting.dump.now.roots) (c.as_slice.ensures.value ∙ right) in
    second_fails _ _ _ (and_false _ _ (sym there ∙ not-true _ (sym c.ne.ensures ∙ c.if-ne.true)))

pub returns-clause-reported : goal.returns-clause-reported
returns-clause-reported c =
    let heap = c.args.setting.plan.now in
    let right : c.in_ok-forwarded.forwarded.items ≡ map (forwarded_value heap.edition (live heap)) heap.roots = are_forwarded (forward_value heap.edition (live heap)) _ _ c.in_ok-forwarded.ensures in
    let there = ap (λ (l : List ℕ). bytes_eq l c.as_slice.result.now) c.roots.ensures ∙ ap (bytes_eq c.args.setting.dump.now.roots) (c.as_slice.ensures.value ∙ right) in
    let one : is_edition c.args.setting.dump.now.edition heap.edition ≡ true =
    ap (λ (e : Edition). is_edition e heap.edition) (sym c.edition.ensures)
    ∙ ap (λ (e : Edition). is_edition c.edition.result e) (sym (c.edition-2.ensures ∙ ap (λ (h : Heap). h.edition) c.heap.ensures)) ∙ sym c.is_edition.ensures ∙ c.if-not-is_edition.false in
    let long : length c.args.setting.dump.now.pages ≡ pages (setup_at c.args.setting) =
    omega (arith, c.if-len-pages.false, c.len.ensures, ap length c.pages.ensures, c.pages-2.ensures.pages, c.from.ensures, c.fresh_pages.ensures) in
    both_pass _ _ _ one (true_and _ _ (eq-eqb _ _ long) (sym there ∙ not-false _ (sym c.ne.ensures ∙ c.if-ne.false)))
