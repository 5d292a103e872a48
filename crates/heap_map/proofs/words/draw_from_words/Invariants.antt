use Rattle.std.proofs.Common.{string_bytes}
use Rattle.heap_map.specs.Cells.{from_place, in_turn, live_object, Adds}
use Rattle.heap_map.proofs.words.draw_from_words.Given as goal

-- the live objects so far have their cells
abbrev pub invariant-loop-number : goal.invariant-loop-number
invariant-loop-number l =
    Adds (in_turn l.number (λ k. live_object l.grid.top l.heap (from_place l.heap k) k)) (string_bytes l.fn.picture) (string_bytes l.picture)
