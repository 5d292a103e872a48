use Rattle.std.proofs.Common.{◌≡◌, ◌≤◌, true, take}
use Rattle.std.specs.List.{list_all}
use Rattle.std.specs.Char.{is_ascii_digit}
use Rattle.std.specs.Str.Parse.{digits_value}
use Rattle.comp_trace.proofs.text.numbers.front_digits.Given as goal

-- all bytes so far are digits, and this is the value of the first 19
abbrev pub invariant-loop-byte : goal.invariant-loop-byte
invariant-loop-byte l = record {
  count : l.count ≡ l.byte-index;
  are : list_all is_ascii_digit (take l.count l.text) ≡ true;
  value : l.count ≤ 19 → l.value ≡ digits_value 10 (take l.count l.text);
}
