use Rattle.std.proofs.Common.{◌∙◌, ◌∷◌, [], ◌++◌, ℕ, List, OnErr, OnOk, codes, subst}
use Rattle.std.proofs.lemmas.Result.{err_from_is_err_and}
use Rattle.std.specs.Io.KnownBytes.{Appends}
use Rattle.heap_layout.specs.Counted.{inner_of}
use Rattle.heap_layout.specs.Writing.{AppendsSome}
use Rattle.command_io.proofs.Begun.{begun_after, begun_longer, begun_then}
use Rattle.command_io.proofs.Printings.{counted_then, printed_then}
use Rattle.command_io.proofs.wording.print_refusal.Goals as goal

pub returns-in_err-print_text-clause-counts : goal.returns-in_err-print_text-clause-counts
returns-in_err-print_text-clause-counts g c =
    let p = err_from_is_err_and c.from_residual.result c.from_residual.ensures.1 in
    rw (p.1, p.2) c.in_err-print_text.ensures.counts

pub returns-clause-printed : goal.returns-clause-printed
returns-clause-printed g c =
    let before = g.O.Write.contents (inner_of c.args.out.now).now in
    let after = g.O.Write.contents (inner_of c.print_text-2.new.out).now in
    subst (λ (text : List ℕ). OnOk c.print_text-2.result (Appends before after (codes "compressor: " ++ text ++ 10 ∷ []))) c.refusal_pieces.ensures
    (printed_then _ _ _ _ _ _ c.in_ok-print_text.ensures.printed (printed_then _ _ _ _ _ _ c.in_ok-print_pieces.ensures.printed c.print_text-2.ensures.printed))

pub returns-clause-counts : goal.returns-clause-counts
returns-clause-counts g c = counted_then _ _ _ _ (c.in_ok-print_pieces.ensures.counts ∙ c.in_ok-print_text.ensures.counts) c.print_text-2.ensures.counts

-- A beginning of the line was printed.
pub returns-in_err-print_text-clause-begun : goal.returns-in_err-print_text-clause-begun
returns-in_err-print_text-clause-begun g c =
    let p = err_from_is_err_and c.from_residual.result c.from_residual.ensures.1 in
    rw p.1 (begun_longer _ _ _ _ c.in_err-print_text.ensures.begun)

pub returns-in_err-print_pieces-clause-begun : goal.returns-in_err-print_pieces-clause-begun
returns-in_err-print_pieces-clause-begun g c =
    let p = err_from_is_err_and c.from_residual-in_err-print_pieces.result c.from_residual-in_err-print_pieces.ensures.1 in
    let before = g.O.Write.contents (inner_of c.args.out.now).now in
    let after = g.O.Write.contents (inner_of c.print_pieces.new.out).now in
    rw p.1 (subst (λ (text : List ℕ). AppendsSome before after (codes "compressor: " ++ text ++ 10 ∷ [])) c.refusal_pieces.ensures
    (begun_then _ _ _ _ _ c.in_ok-print_text.ensures.printed (begun_longer _ _ _ _ c.in_err-print_pieces.ensures.begun)))

pub returns-clause-begun : goal.returns-clause-begun
returns-clause-begun g c =
    let before = g.O.Write.contents (inner_of c.args.out.now).now in
    let after = g.O.Write.contents (inner_of c.print_text-2.new.out).now in
    subst (λ (text : List ℕ). OnErr c.print_text-2.result (AppendsSome before after (codes "compressor: " ++ text ++ 10 ∷ []))) c.refusal_pieces.ensures
    (begun_after _ _ _ _ _ _ c.in_ok-print_text.ensures.printed (begun_after _ _ _ _ _ _ c.in_ok-print_pieces.ensures.printed c.print_text-2.ensures.begun))
