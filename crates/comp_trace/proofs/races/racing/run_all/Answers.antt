use Rattle.std.proofs.Common.{rules, get_or, sym, subst, ◌∙◌}
use Rattle.comp_mutator.proofs.Sums.{is_inside, read_at}
use Rattle.comp_trace.specs.Runners.{RanItsLines, IsReady}
use Rattle.comp_trace.proofs.Elements.{at_or}
use Rattle.comp_trace.proofs.races.racing.run_all.Goals as goal

pub for_each_mut-requires-clause-accepts : goal.for_each_mut-requires-clause-accepts
for_each_mut-requires-clause-accepts g c κs within i p lt same =
    let ready = subst (IsReady c.args.space.now c.args.lines.now) (sym same) (c.requires.ready i (get_or c.args.runners.now i p.now) (at_or c.args.runners.now i p.now lt)) in
    ((c.requires.fits, c.requires.chained, ready), search rules)

pub returns-clause-ran : goal.returns-clause-ran
returns-clause-ran g c k before after at now =
    let e = (c.for_each_mut.ensures k before (is_inside c.args.runners.now k before at)).1 in
    let old = e.argument_is ∙ read_at c.args.runners.now k before before at in
    let new = e.left ∙ read_at c.for_each_mut.new.s k after before now in
    subst (λ r. RanItsLines c.args.space.now c.args.lines.now r after) old
    (subst (λ r. RanItsLines c.args.space.now c.args.lines.now e.argument.now r) new e.call)
