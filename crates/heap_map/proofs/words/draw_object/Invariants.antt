use Rattle.std.proofs.Common.{[], ◌∷◌, string_bytes}
use Rattle.heap_map.specs.Cells.{in_turn, word_cell, Adds}
use Rattle.heap_map.proofs.words.draw_object.Given as goal

-- the words so far have their cells
abbrev pub invariant-loop-offset : goal.invariant-loop-offset
invariant-loop-offset l =
    Adds (in_turn l.offset (λ offset. word_cell l.grid.top l.colour.0 l.start l.header offset ∷ [])) (string_bytes l.fn.picture) (string_bytes l.picture)
