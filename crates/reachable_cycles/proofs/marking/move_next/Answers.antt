use Rattle.std.proofs.Common.{ap, ◌∙◌, length, sym, subst, List}
use Rattle.std.proofs.lemmas.Result.{err_from_is_err_and}
use Rattle.heap_layout.specs.Faults.{IsFirst}
use Rattle.heap_layout.specs.declared.fault.LayoutFault.{LayoutFault}
use Rattle.comp_cycles.specs.Ends.{setup_in}
use Rattle.comp_cycles.specs.Finishes.{journals_of}
use Rattle.reachable_cycles.proofs.Refused.{checked_lead, fits, refused_root, refused_sizes, sizes_are}
use Rattle.reachable_cycles.proofs.marking.move_next.Goals as goal

pub returns-in_err-check_sizes-clause-refused : goal.returns-in_err-check_sizes-clause-refused
returns-in_err-check_sizes-clause-refused g c =
    let heap = g.B.Builder.heap c.args.builder.now in
    let f = c.args.finished.now in
    let roots = c.args.roots.now in
    let fault = c.in_err-check_sizes.field-0.0 in
    let same = sizes_are heap f c.edition-edition.result c.len-words.result (length roots) c.requires c.edition-edition.ensures (c.len-words.ensures.count ∙ ap length c.pages.ensures) in
    let first = subst (λ (list : List LayoutFault). IsFirst list fault) same c.in_err-check_sizes.ensures in
    let p = err_from_is_err_and c.from_residual.result c.from_residual.ensures.1 in
    rw (p.1, p.2) (refused_sizes (setup_in heap f) (journals_of f) roots fault first)

pub returns-in_err-check_roots-clause-refused : goal.returns-in_err-check_roots-clause-refused
returns-in_err-check_roots-clause-refused g c =
    let heap = g.B.Builder.heap c.args.builder.now in
    let f = c.args.finished.now in
    let roots = c.args.roots.now in
    let sizes = sizes_are heap f c.edition-edition.result c.len-words.result (length roots) c.requires c.edition-edition.ensures (c.len-words.ensures.count ∙ ap length c.pages.ensures) in
    let fit = fits (setup_in heap f) (journals_of f) roots (sym sizes ∙ c.in_ok-check_sizes.ensures) in
    let p = err_from_is_err_and c.from_residual-in_err-check_roots.result c.from_residual-in_err-check_roots.ensures.1 in
    rw (p.1, p.2) (refused_root heap f c.requires roots c.edition-edition.result c.in-Ok.moved.words.items c.in-Ok.moved.starts.items c.in-Ok-lowered_roots.lowered.items c.edition-edition.ensures
    c.in-Ok.ensures.moved c.in-Ok-lowered_roots.ensures c.deref.result.now c.deref-2.result.now c.in_err-check_roots.field-0.0 c.deref.ensures.value c.deref-2.ensures.value fit c.in_err-check_roots.ensures)

pub returns-clause-fits : goal.returns-clause-fits
returns-clause-fits g c =
    let heap = g.B.Builder.heap c.args.builder.now in
    let f = c.args.finished.now in
    let roots = c.args.roots.now in
    let sizes = sizes_are heap f c.edition-edition.result c.len-words.result (length roots) c.requires c.edition-edition.ensures (c.len-words.ensures.count ∙ ap length c.pages.ensures) in
    fits (setup_in heap f) (journals_of f) roots (sym sizes ∙ c.in_ok-check_sizes.ensures)

pub returns-clause-lead : goal.returns-clause-lead
returns-clause-lead g c =
    let heap = g.B.Builder.heap c.args.builder.now in
    let f = c.args.finished.now in
    let roots = c.args.roots.now in
    let sizes = sizes_are heap f c.edition-edition.result c.len-words.result (length roots) c.requires c.edition-edition.ensures (c.len-words.ensures.count ∙ ap length c.pages.ensures) in
    let fit = fits (setup_in heap f) (journals_of f) roots (sym sizes ∙ c.in_ok-check_sizes.ensures) in
    checked_lead (g.B.Builder.heap c.args.builder.now) c.args.finished.now c.requires c.args.roots.now c.edition-edition.result c.in-Ok.moved.words.items c.in-Ok.moved.starts.items
    c.in-Ok-lowered_roots.lowered.items c.edition-edition.ensures c.in-Ok.ensures.moved c.in-Ok-lowered_roots.ensures c.deref.result.now c.deref-2.result.now c.deref.ensures.value c.deref-2.ensures.value
    fit c.in_ok-check_roots.ensures
