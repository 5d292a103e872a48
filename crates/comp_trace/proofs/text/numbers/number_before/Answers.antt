use Rattle.std.proofs.Common.{◌+◌, ◌∙◌, ℕ, None, Some, ◌≡◌, ap, arith, take_all, length-drop, option_map}
use Rattle.comp_trace.specs.Grammar.{clipped}
use Rattle.comp_trace.proofs.NumberForms.{number_ends, number_there}
use Rattle.comp_trace.proofs.text.numbers.number_before.Goals as goal

apart : (n : ℕ) → None ≡ Some n → ⊥
apart n e = absurd cc

pub returns-then-text-count-clause-none : goal.returns-then-text-count-clause-none
returns-then-text-count-clause-none c n rest h =
    let front = c.front_digits-count in
    c.if-text-count.true (number_ends c.args.byte c.args.text.now front.result.count n rest c.requires front.ensures.are front.ensures.ends h).1

pub returns-in_default-clause-none : goal.returns-in_default-clause-none
returns-in_default-clause-none c n rest h =
    let front = c.front_digits-count in
    let ends = number_ends c.args.byte c.args.text.now front.result.count n rest c.requires front.ensures.are front.ensures.ends h in
    apart (clipped n) (c.in_default.ensures ∙ ap (option_map clipped) ends.2)

pub returns-clause-some : goal.returns-clause-some
returns-clause-some c =
    let text = c.args.text.now in
    let count = c.front_digits-count.result.count in
    number_there c.args.byte text _ count c.in-Some.number (omega arith) c.if-text-count.false (take_all _ _ (omega (arith, length-drop (count + 1) text))) c.in-Some.ensures
