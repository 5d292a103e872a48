use Rattle.std.proofs.Common.{◌≡◌, length, sym, ap, ◌∙◌, arith}
use Rattle.std.proofs.lemmas.List.{ext_get_or}
use Rattle.comp_journal.specs.Journal.{Reserved, replayed}
use Rattle.cell_steps.proofs.closed_pages.ClosedPage.words.Goals as goal

pub returns : goal.returns
returns c =
    let inv = c.loop-offset.invariant in
    let page = c.args.self.now in
    let long : length (replayed page.page.base page.page.journal) ≡ 64 =
    ap (λ (r : Reserved). length (replayed r.page.base r.page.journal)) (sym c.self.view_is) ∙ c.self.invariant.1 in
    ext_get_or 0 c.loop-offset.words (replayed page.page.base page.page.journal) (inv.0 ∙ sym long) (λ i lt. inv.1 i (omega (arith, lt, inv.0, c.loop-offset-test.false)))
