use Rattle.std.proofs.Common.{◌≡◌, ℕ, ◌+◌, ◌<◌, subst, sym, arith}
use Rattle.heap_layout.specs.Header.{refs_of, weak_of, data_of}
use Rattle.heap_layout.specs.declared.kind.Kind.TheVariants.{Data}
use Rattle.cell_steps.specs.Lawful.{IsField}
use Rattle.page_cells.specs.CellViews.{journal_of, setup_of}
use Rattle.page_cells.specs.Objects.{offset_at, page_at}
use Rattle.test_heaps.proofs.cells.taken_pages.take_and_write.Goals as goal

pub append-stamp-requires-clause-fits : goal.append-stamp-requires-clause-fits
append-stamp-requires-clause-fits g c κs within =
    let u = setup_of c.args.cells.now in
    let journal = journal_of c.in_ok-taken.taken in
    let header = c.in-Some.header in
    let none : 1 + refs_of header + weak_of header ≡ 1 = omega (arith, c.if-refs-ne0.false, c.refs.ensures, c.if-weak-ne0.false, c.weak.ensures) in
    let some : 0 < data_of header = omega (arith, c.if-data_words-eq0.false, c.data_words.ensures) in
    let first : IsField u 0 journal Data 1 =
    subst (λ (n : ℕ). IsField u (page_at (8589934592 + n + 0)) journal Data (offset_at (8589934592 + n + 0))) none
    ((c.in-Some.ensures.fields (λ p. journal)).fields Data 0 some) in
    subst (λ (p : ℕ). IsField u p journal Data 1) (sym c.in_ok-taken.ensures.taken.0) first
