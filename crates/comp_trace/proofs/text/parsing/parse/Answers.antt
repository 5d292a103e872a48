use Rattle.std.proofs.Common.{◌≡◌, true, sym, ◌∙◌, ap, subst, List, ◌+◌, arith}
use Rattle.std.specs.List.{list_all}
use Rattle.comp_trace.specs.declared.text.line.Line.{Line}
use Rattle.comp_trace.specs.Grammar.{is_within, parts, read_from}
use Rattle.comp_trace.proofs.Lines.{before, regroup, told_on, within_more}
use Rattle.std.proofs.lemmas.Result.{err_from_is_err_and}
use Rattle.comp_trace.proofs.text.parsing.parse.Goals as goal

pub returns-in_err-line-clause-lines : goal.returns-in_err-line-clause-lines
returns-in_err-line-clause-lines c =
    let p = err_from_is_err_and c.from_residual.result c.from_residual.ensures.1 in
    told_on _ c.from_residual.result p.0 c.in_err-line.field-0.0 _ p.1 p.2 (c.loop-rest.invariant.read ∙ ap (before c.loop-rest.lines.items) c.in_err-line.ensures.fault)

pub loop-rest-preserved : goal.loop-rest-preserved
loop-rest-preserved c =
    let ms = c.args.mutators in let rs = c.args.roots in
    let front = c.loop-rest.lines.items in
    let left = read_from ms rs (c.loop-rest.n + 1) (parts 10 c.in_ok-line.more.now) in
    record {
      read = c.loop-rest.invariant.read ∙ ap (before front) c.in_ok-line.ensures.line ∙ regroup front c.in_ok-line.line left ∙ ap (λ (ls : List Line). before ls left) (sym c.in_ok-push.ensures.items);
      within = subst (λ (ls : List Line). list_all (is_within ms rs) ls ≡ true) (sym c.in_ok-push.ensures.items) (within_more ms rs front c.in_ok-line.line c.loop-rest.invariant.within c.in_ok-line.ensures.within);
      count = omega (arith, c.loop-rest.invariant.count, c.in_ok-line.ensures.less);
    }

pub invariant_of-result : goal.invariant_of-result
invariant_of-result c = record { within = c.loop-rest.invariant.within }
