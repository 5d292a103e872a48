-- The cells of a dump's pages.
use Rattle.std.proofs.Common.{◌≡◌, ℕ, ◌+◌, ◌*◌, ◌/◌, ◌^◌, ◌<◌, ◌≤◌, Bool, true, false, List, [], ◌∷◌, None, IsSome, IsTrue, inl, inr, refl, subst, slice_index_or}
use Rattle.comp_dump.specs.Dumped.{Dumped}
use Rattle.heap_map.specs.Cells.{Adds}
use Rattle.heap_map.specs.Layout.{cell_text, nth_cell, shape_text}
use Rattle.heap_map.specs.Pictures.{cell_name, IsDumpCell}
use Rattle.heap_map.proofs.CellNames.{at_cell}

-- a shape at the corner of a cell was drawn in the cell
pub cell_drawn : (top x y n : ℕ) (name a b : List ℕ) → x ≡ 160 + 12 * (nth_cell n).column → y ≡ top + 18 * (nth_cell n).row → Adds (shape_text name x y ∷ []) a b
    → Adds (cell_text top name (nth_cell n) ∷ []) a b
cell_drawn top x y n name a b left high drawn = subst (λ (t : List ℕ). Adds (t ∷ []) a b) (at_cell top x y name (nth_cell n) left high) drawn

-- a cell is hatched if none of its pages was built, and else has a shade
pub is_dump_cell : (k : ℕ) (dump : Dumped) (first count cell : ℕ) (built : Bool) (shade : ℕ)
    → (built ≡ false → (p : ℕ) → p < count → p / 2 ^ k ≡ cell → slice_index_or dump.pages (first + p) None ≡ None)
    → (built ≡ true → (p : ℕ) × (p < count) × (p / 2 ^ k ≡ cell) × IsSome (slice_index_or dump.pages (first + p) None)) → shade ≤ 5
    → IsDumpCell k dump first count cell (cell_name built shade)
is_dump_cell k dump first count cell true shade none some few = inr (some refl, (shade, few, refl))
is_dump_cell k dump first count cell false shade none some few = inl (none refl, refl)
