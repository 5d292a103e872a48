use Rattle.comp_trace.proofs.NumberForms.{none_first, none_then, reads_more}
use Rattle.comp_trace.proofs.text.numbers.two_numbers.Goals as goal

pub returns-in_default-clause-none : goal.returns-in_default-clause-none
returns-in_default-clause-none c = none_first 0 c.args.text.now c.in_default.ensures.none

pub returns-in_default-one_number-clause-none : goal.returns-in_default-one_number-clause-none
returns-in_default-one_number-clause-none c =
    let first = c.in-Some.ensures.some in none_then 0 c.args.text.now first.0 _ first.2 c.in_default-one_number.ensures.none

pub returns-clause-some : goal.returns-clause-some
returns-clause-some c =
    let first = c.in-Some.ensures.some in reads_more c.args.text.now _ first.0 _ _ _ first.1 first.2 c.in-Some-one_number.ensures.some
