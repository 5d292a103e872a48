use Rattle.std.proofs.Common.{ℕ, OnErr, codes, subst}
use Rattle.std.proofs.lemmas.Result.{err_from_is_err_and}
use Rattle.std.specs.Io.KnownBytes.{Appends}
use Rattle.heap_layout.specs.Counted.{inner_of}
use Rattle.heap_layout.specs.Heap.{live}
use Rattle.heap_layout.specs.Writing.{AppendsSome}
use Rattle.page_plan.specs.Sliding.{live_words}
use Rattle.command_io.specs.Printing.{named}
use Rattle.command_io.proofs.Begun.{begun_after, begun_longer}
use Rattle.commands.proofs.plan.print_counts.Goals as goal

-- A beginning of the lines was printed.
pub returns-in_err-print_line-clause-begun : goal.returns-in_err-print_line-clause-begun
returns-in_err-print_line-clause-begun g c =
    let p = err_from_is_err_and c.from_residual.result c.from_residual.ensures.1 in
    let before = g.O.Write.contents (inner_of c.args.out.now).now in
    let after = g.O.Write.contents (inner_of c.print_line.new.out).now in
    rw p.1 (begun_longer _ _ _ _ (subst (λ (n : ℕ). AppendsSome before after (named (codes "live ") n)) c.live_words.ensures.words c.in_err-print_line.ensures.begun))

pub returns-clause-begun : goal.returns-clause-begun
returns-clause-begun g c =
    let before = g.O.Write.contents (inner_of c.args.out.now).now in
    let between = g.O.Write.contents (inner_of c.print_line.new.out).now in
    let after = g.O.Write.contents (inner_of c.print_line-2.new.out).now in
    let first = subst (λ (n : ℕ). Appends before between (named (codes "live ") n)) c.live_words.ensures.words c.in_ok-print_line.ensures.printed in
    let second = subst (λ (n : ℕ). OnErr c.print_line-2.result (AppendsSome between after (named (codes "pages ") n))) c.pages.ensures.pages c.print_line-2.ensures.begun in
    begun_after before between after (named (codes "live ") (live_words (live c.args.plan.now))) _ c.print_line-2.result first second
