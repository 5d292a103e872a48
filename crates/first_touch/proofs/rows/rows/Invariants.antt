use Rattle.std.proofs.Common.{◌≡◌, ℕ, ◌-◌, ◌*◌, ◌<◌, length}
use Rattle.first_touch.specs.Rows.{AreRows}
use Rattle.first_touch.proofs.rows.rows.Given as goal

abbrev pub invariant-loop-rest : goal.invariant-loop-rest
invariant-loop-rest l = record {
  size : l.size ≡ l.source.size;
  rows : AreRows l.source l.rows.items;
  some : (k : ℕ) → k < length l.rows.items → k * l.source.size < length l.source.found.indices;
  left : length l.rest ≡ length l.source.found.indices - length l.rows.items * l.source.size;
}

abbrev pub decreases-loop-rest : goal.decreases-loop-rest
decreases-loop-rest l = length l.rest
