use Rattle.std.proofs.Common.{ℕ, ◌+◌, ◌*◌, List, [], ◌∷◌, ◌++◌, ◌∙◌, ap, codes, string_bytes}
use Rattle.heap_map.specs.Layout.{cell_at, cell_text}
use Rattle.heap_map.specs.declared.layout.Scale.TheVariants.{Words}
use Rattle.heap_map.proofs.Rows.{hatched_at}
use Rattle.heap_map.proofs.Standing.{adds_one, adds_turn}
use Rattle.heap_map.proofs.dumped.hatch.Goals as goal

pub loop-offset-preserved : goal.loop-offset-preserved
loop-offset-preserved c =
    let top = c.args.grid.now.top in
    let index = c.args.row * 64 + c.loop-offset.offset in
    let cell = λ (offset : ℕ). cell_text top (codes "miss") (cell_at Words (c.args.row * 64 + offset)) in
    let at = hatched_at top c.corner-corner.result.x c.corner-corner.result.y index c.args.grid.now.scale c.requires.scale c.corner-corner.ensures.x c.corner-corner.ensures.y in
    let is = c.in_ok-put.ensures.bytes ∙ ap (λ (t : List ℕ). string_bytes c.loop-offset.picture ++ t) at in
    adds_turn c.loop-offset.offset (λ (offset : ℕ). cell offset ∷ []) _ _ _ c.loop-offset.invariant (adds_one _ _ (cell c.loop-offset.offset) is)
