use Rattle.std.proofs.Common.{ℕ, List, subst}
use Rattle.std.specs.Str.Parse.{ParsesUnsigned}
use Rattle.comp_trace.proofs.Numerals.{number_is_text, parsed_large}
use Rattle.comp_trace.proofs.text.numbers.long_number.Goals as goal

pub unreachable-requires : goal.unreachable-requires
unreachable-requires c = c.in-Err.ensures.cases.0 (number_is_text c.args.digits.now c.requires)

pub returns-in-Err-parse : goal.returns-in-Err-parse
returns-in-Err-parse c =
    let read = subst (λ (digits : List ℕ). ParsesUnsigned 64 10 digits c.parse.result) c.in-Ok.ensures.cases.0 c.parse.ensures.value.0 in
    parsed_large c.args.digits.now c.parse.result _ c.requires read c.in-Err-parse.is
