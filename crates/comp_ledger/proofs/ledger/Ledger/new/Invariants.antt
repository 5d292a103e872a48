use Rattle.std.proofs.Common.{◌≡◌, ◌+◌, ◌≤◌, All, length, vec_capacity}
use Rattle.std.specs.List.{range_with_len}
use Rattle.comp_ledger.specs.Shares.{numbers_of, posted_of}
use Rattle.comp_ledger.proofs.ledger.Ledger.new.Given as goal

abbrev pub invariant-loop-number : goal.invariant-loop-number
invariant-loop-number g l = record {
  parts : l.rest.parts + l.number ≡ l.n;
  amount : l.rest.amount ≡ 0;
  numbers : numbers_of l.shares.items ≡ range_with_len 0 l.number;
  none : All (λ share. posted_of share ≡ 0) l.shares.items;
  long : length l.shares.items ≡ l.number;
  room : l.n ≤ vec_capacity l.shares;
}
