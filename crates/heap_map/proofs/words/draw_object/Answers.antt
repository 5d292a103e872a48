use Rattle.std.proofs.Common.{◌≡◌, ◌+◌, ℕ, List, [], ◌∷◌, ◌++◌, ◌∙◌, ap, arith, string_bytes}
use Rattle.heap_map.specs.Cells.{word_cell}
use Rattle.heap_map.proofs.Standing.{adds_one, adds_turn}
use Rattle.heap_map.proofs.Objects.{word_drawn}
use Rattle.heap_map.proofs.words.draw_object.Goals as goal

pub loop-offset-preserved : goal.loop-offset-preserved
loop-offset-preserved c =
    let cell = λ (offset : ℕ). word_cell c.args.grid.now.top c.args.colour.0 c.args.start c.args.header offset in
    let drawn = word_drawn c.args.grid.now.top c.args.colour.0 c.args.start c.loop-offset.offset _ c.args.header c.args.grid.now.scale c.kind_at.result c.requires.scale c.kind_at.ensures.same (omega arith) in
    let is = c.in_ok-put_word.ensures.cell ∙ ap (λ (t : List ℕ). string_bytes c.loop-offset.picture ++ t) drawn in
    adds_turn c.loop-offset.offset (λ (offset : ℕ). cell offset ∷ []) _ _ _ c.loop-offset.invariant (adds_one _ _ (cell c.loop-offset.offset) is)
