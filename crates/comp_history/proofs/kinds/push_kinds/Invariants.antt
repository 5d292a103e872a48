use Rattle.std.proofs.Common.{◌≡◌, ◌+◌, ◌++◌, vec_len, vec_capacity}
use Rattle.std.specs.Prelude.{replicate}
use Rattle.comp_history.proofs.kinds.push_kinds.Given as goal

abbrev pub invariant-loop : goal.invariant-loop
invariant-loop l = record {
  items : l.kinds.items ≡ l.fn.kinds.items ++ replicate l.counter l.kind;
  capacity : vec_capacity l.kinds ≡ vec_capacity l.fn.kinds;
  len : vec_len l.kinds ≡ vec_len l.fn.kinds + l.counter;
}
