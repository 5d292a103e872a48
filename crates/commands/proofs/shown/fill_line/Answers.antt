use Rattle.std.proofs.Common.{◌≡◌, ℕ, ◌+◌, ◌-◌, ◌^◌, ◌<◌, ◌≤◌, length, decimal, arith, rules}
use Rattle.std.proofs.lemmas.Fmt.{length-decimal-le}
use Rattle.std.proofs.lemmas.List.{drop-set, drop_all}
use Rattle.commands.proofs.shown.fill_line.Goals as goal

-- twenty digits hold a number of 64 bits
twenty : (number : ℕ) → number < 2 ^ 64 → length (decimal number) ≤ 20
twenty number fits = length-decimal-le 20 number (omega arith) (omega arith) (omega arith)

pub write_digits-value-requires : goal.write_digits-value-requires
write_digits-value-requires c = (omega (arith, twenty c.args.shown.value (omega arith)), search rules)

pub overflow_sub-room-2 : goal.overflow_sub-room-2
overflow_sub-room-2 c = omega (arith, twenty c.args.shown.value (omega arith))

pub overflow_sub-value : goal.overflow_sub-value
overflow_sub-value c = omega (arith, twenty c.args.shown.value (omega arith))

pub write_digits-requires : goal.write_digits-requires
write_digits-requires c = (omega (arith, twenty c.args.shown.value (omega arith), twenty c.args.shown.line (omega arith)), search rules)

pub returns-clause-filled : goal.returns-clause-filled
returns-clause-filled c =
    let v = c.write_digits-value in
    let value = twenty c.args.shown.value (omega arith) in
    let e : v.result - 1 + 1 ≡ v.result = omega arith in
    rw (c.write_digits.ensures.written, drop-set v.new.buf (v.result - 1) 32 (omega arith), e, v.ensures.written, drop-set c.args.room.now 41 10 (omega arith), drop_all 42 c.args.room.now (omega arith))
