use Rattle.comp_trace.proofs.NumberForms.{none_first, none_then, reads_more}
use Rattle.comp_trace.proofs.text.numbers.three_numbers.Goals as goal

pub returns-in_default-clause-none : goal.returns-in_default-clause-none
returns-in_default-clause-none c = none_first 1 c.args.text.now c.in_default.ensures.none

pub returns-in_default-two_numbers-clause-none : goal.returns-in_default-two_numbers-clause-none
returns-in_default-two_numbers-clause-none c =
    let first = c.in-Some.ensures.some in none_then 1 c.args.text.now first.0 _ first.2 c.in_default-two_numbers.ensures.none

pub returns-clause-some : goal.returns-clause-some
returns-clause-some c =
    let first = c.in-Some.ensures.some in reads_more c.args.text.now _ first.0 _ _ _ first.1 first.2 c.in-Some-two_numbers.ensures.some
