use Rattle.std.proofs.Common.{◌≡◌, ℕ, List, [], ◌∷◌, ◌++◌, OnErr, rules, subst}
use Rattle.std.proofs.lemmas.Result.{err_from_is_err_and}
use Rattle.std.specs.Str.{trim_end}
use Rattle.heap_layout.specs.Counted.{inner_of}
use Rattle.heap_layout.specs.Writing.{AppendsSome}
use Rattle.command_io.proofs.Begun.{begun_after, begun_longer}
use Rattle.command_io.proofs.Printings.{counted_then}
use Rattle.command_io.proofs.print.print_help.Goals as goal

pub returns-in_err-print_text-clause-counts : goal.returns-in_err-print_text-clause-counts
returns-in_err-print_text-clause-counts g c =
    let p = err_from_is_err_and c.from_residual.result c.from_residual.ensures.1 in
    rw (p.1, p.2) c.in_err-print_text.ensures.counts

pub returns-clause-counts : goal.returns-clause-counts
returns-clause-counts g c = counted_then _ _ _ _ c.in_ok-print_text.ensures.counts c.print_text-2.ensures.counts

-- A beginning of the text was printed.
pub returns-in_err-print_text-clause-begun : goal.returns-in_err-print_text-clause-begun
returns-in_err-print_text-clause-begun g c =
    let p = err_from_is_err_and c.from_residual.result c.from_residual.ensures.1 in
    let before = g.O.Write.contents (inner_of c.args.out.now).now in
    let after = g.O.Write.contents (inner_of c.print_text.new.out).now in
    let same : c.trim_end.result.now ≡ trim_end c.args.text.now = search rules in
    rw p.1 (subst (λ (front : List ℕ). AppendsSome before after (front ++ 10 ∷ [])) same (begun_longer _ _ _ _ c.in_err-print_text.ensures.begun))

pub returns-clause-begun : goal.returns-clause-begun
returns-clause-begun g c =
    let before = g.O.Write.contents (inner_of c.args.out.now).now in
    let after = g.O.Write.contents (inner_of c.print_text-2.new.out).now in
    let same : c.trim_end.result.now ≡ trim_end c.args.text.now = search rules in
    subst (λ (front : List ℕ). OnErr c.print_text-2.result (AppendsSome before after (front ++ 10 ∷ []))) same
    (begun_after _ _ _ _ _ _ c.in_ok-print_text.ensures.printed c.print_text-2.ensures.begun)
