use Rattle.std.proofs.Common.{refl}
use Rattle.comp_trace.proofs.LineForms.{number_once}
use Rattle.comp_trace.proofs.Marked.{large_mark}
use Rattle.comp_trace.proofs.text.marks.read_mark.Goals as goal

pub returns-in_default-clause-none : goal.returns-in_default-clause-none
returns-in_default-clause-none c mark rest h = c.in_default.ensures.none mark rest h.1

pub returns-in_default-below-clause-none : goal.returns-in_default-below-clause-none
returns-in_default-below-clause-none c mark rest h =
    let first = c.in-Some.ensures.some in
    let same = (number_once 10 c.args.text.now first.0 mark _ rest refl first.2 h.1).0 in
    large_mark _ first.0 mark c.in_default-below.ensures first.1 same h.0
