use Rattle.std.proofs.Common.{◌≡◌, string_bytes}
use Rattle.heap_map.specs.Cells.{in_turn, live_object, to_place, Adds}
use Rattle.heap_map.proofs.words.draw_slid_words.Given as goal

-- the live objects so far have their cells, and the next one its place
abbrev pub invariant-loop-number : goal.invariant-loop-number
invariant-loop-number l = record {
  drawn : Adds (in_turn l.number (λ k. live_object l.grid.top l.heap (to_place l.heap k) k)) (string_bytes l.fn.picture) (string_bytes l.picture);
  next : l.place ≡ to_place l.heap l.number;
}
