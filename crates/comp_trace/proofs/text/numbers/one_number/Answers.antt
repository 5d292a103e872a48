use Rattle.comp_trace.proofs.NumberForms.{none_one, reads_one}
use Rattle.comp_trace.proofs.text.numbers.one_number.Goals as goal

pub returns-clause-some : goal.returns-clause-some
returns-clause-some c = let first = c.in-Some.ensures.some in reads_one c.args.text.now _ first.0 _ first.1 first.2

pub returns-in_default-clause-none : goal.returns-in_default-clause-none
returns-in_default-clause-none c = none_one c.args.text.now c.in_default.ensures.none
