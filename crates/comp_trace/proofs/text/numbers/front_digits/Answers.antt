use Rattle.std.proofs.Common.{◌≡◌, ◌+◌, ◌<◌, ◌∙◌, ℕ, true, sym, ap, subst, arith, take}
use Rattle.std.specs.List.{list_all}
use Rattle.std.specs.Char.{is_ascii_digit}
use Rattle.std.specs.Str.Parse.{digits_value}
use Rattle.comp_trace.proofs.Numerals.{one_more}
use Rattle.comp_trace.proofs.text.numbers.front_digits.Goals as goal
use Rattle.comp_trace.proofs.text.numbers.front_digits.Goals.{then-count-lt-DIGITS, else-count-lt-DIGITS}

pub overflow_mul-value : goal.overflow_mul-value
overflow_mul-value c =
    let i = c.loop-byte.byte-index in
    let h = c.loop-byte.invariant in
    let more = one_more c.args.text.now i (omega arith) (subst (λ (k : ℕ). list_all is_ascii_digit (take k c.args.text.now) ≡ true) h.count h.are) (sym c.if-not-is_ascii_digit.ensures.value) in
    let few : i < 19 = omega (arith, h.count) in
    let value = h.value (omega (arith, few, h.count)) ∙ ap (λ (k : ℕ). digits_value 10 (take k c.args.text.now)) h.count in
    omega (arith, more.value few, more.small few, value)

pub overflow_add-value : goal.overflow_add-value
overflow_add-value c =
    let i = c.loop-byte.byte-index in
    let h = c.loop-byte.invariant in
    let more = one_more c.args.text.now i (omega arith) (subst (λ (k : ℕ). list_all is_ascii_digit (take k c.args.text.now) ≡ true) h.count h.are) (sym c.if-not-is_ascii_digit.ensures.value) in
    let few : i < 19 = omega (arith, h.count) in
    let value = h.value (omega (arith, few, h.count)) ∙ ap (λ (k : ℕ). digits_value 10 (take k c.args.text.now)) h.count in
    omega (arith, more.value few, more.small few, more.range, value, c.from.ensures)

pub loop-byte-preserved : goal.loop-byte-preserved
loop-byte-preserved c =
    let text = c.args.text.now in
    let i = c.loop-byte.byte-index in
    let h = c.loop-byte.invariant in
    let more = one_more text i (omega arith) (subst (λ (k : ℕ). list_all is_ascii_digit (take k text) ≡ true) h.count h.are) (sym c.if-not-is_ascii_digit.ensures.value) in
    let at : i + 1 ≡ c.loop-byte.count + 1 = omega (arith, h.count) in
    record {
      count = omega (arith, h.count);
      are = subst (λ (k : ℕ). list_all is_ascii_digit (take k text) ≡ true) at more.are;
      value = λ le.
          let few : i < 19 = omega (arith, le, h.count) in
          let value = h.value (omega (arith, few, h.count)) ∙ ap (λ (k : ℕ). digits_value 10 (take k text)) h.count in
          let one = more.value few in
          elim c.if-count-lt-DIGITS.branch [
            | then-count-lt-DIGITS w ↦ subst (λ (k : ℕ). c.if-count-lt-DIGITS.value ≡ digits_value 10 (take k text)) at (omega (arith, one, value, more.range, w.from.ensures, w.value-is))
            | else-count-lt-DIGITS w ↦ absurd (omega (arith, few, h.count, w.if-count-lt-DIGITS.false))
          ];
    }
