use Rattle.std.proofs.Common.{◌≡◌, ◌≤◌, vec_len, vec_capacity}
use Rattle.std.specs.List.{range_with_len}
use Rattle.comp_dump.proofs.reading.words.numbers_below.Given as goal

abbrev pub invariant-loop-p : goal.invariant-loop-p
invariant-loop-p l = record {
  same : l.list.items ≡ range_with_len 0 l.p;
  count : vec_len l.list ≡ l.p;
  room : l.count ≤ vec_capacity l.list;
}
