use Rattle.std.proofs.Common.{◌≡◌, ◌≤◌, take}
use Rattle.rest_handle.specs.Resting.{nulls}
use Rattle.rest_handle.proofs.resting.count_nulls.Given as goal

-- the nulls among the first k words are counted
abbrev pub invariant-loop-k : goal.invariant-loop-k
invariant-loop-k l = record {
  counted : l.count ≡ nulls (take l.k l.words);
  few : l.count ≤ l.k;
}
