use Rattle.std.proofs.Common.{◌≡◌, ℕ, ◌*◌, ◌^◌, ◌<◌}
use Rattle.heap_map.proofs.layout.least_scale.Given as goal

abbrev pub invariant-loop-k : goal.invariant-loop-k
invariant-loop-k l = record {
  room : l.room ≡ 8192 * 2 ^ l.k;
  least : (j : ℕ) → j < l.k → 8192 * 2 ^ j < l.pages;
  bounded : l.room < 2 ^ 65;
}
