use Rattle.std.proofs.Common.{◌+◌, ◌*◌, [], ◌∷◌, codes, string_bytes}
use Rattle.heap_map.specs.Cells.{in_turn, Adds}
use Rattle.heap_map.specs.Layout.{cell_at, cell_text}
use Rattle.heap_map.specs.declared.layout.Scale.TheVariants.{Words}
use Rattle.heap_map.proofs.dumped.hatch.Given as goal

-- the cells so far are hatched
abbrev pub invariant-loop-offset : goal.invariant-loop-offset
invariant-loop-offset l =
    Adds (in_turn l.offset (λ offset. cell_text l.grid.top (codes "miss") (cell_at Words (l.row * 64 + offset)) ∷ [])) (string_bytes l.fn.picture) (string_bytes l.picture)
