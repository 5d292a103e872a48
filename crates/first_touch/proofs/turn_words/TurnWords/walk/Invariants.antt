use Rattle.std.proofs.Common.{◌≡◌}
use Rattle.first_touch.proofs.turn_words.TurnWords.walk.Given as goal

abbrev pub invariant-loop-k : goal.invariant-loop-k
invariant-loop-k l = record {
  same : l.seat.table_id ≡ l.self.table.shared.table_id;
  home : l.seat.me.0.known.below ≡ l.k;
}
