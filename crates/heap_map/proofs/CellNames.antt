-- The cells of a space, one after another.
use Rattle.std.proofs.Common.{◌≡◌, ℕ, ◌+◌, ◌*◌, ◌<◌, List, [], ◌∷◌, ◌++◌, length, refl, sym, ap, ◌∙◌, subst, add-one, append-nil, arith}
use Rattle.heap_map.specs.Cells.{named_cells, Adds, AddsCells, EachOf}
use Rattle.heap_map.specs.Layout.{cell_text, nth_cell, shape_text}
use Rattle.heap_map.specs.declared.layout.Cell.{Cell}
use Rattle.heap_map.proofs.Standing.{adds_then}

-- no cell
pub cells_none : (top : ℕ) (IsOf : ℕ → List ℕ → Type 0) (a : List ℕ) → AddsCells top 0 IsOf a a
cells_none top IsOf a = record {
  names = [];
  many = refl;
  each = tt;
  drawn = record { added = []; is = sym (append-nil a); stand = tt };
}

-- a shape at the corner of a cell is in the cell
pub at_cell : (top x y : ℕ) (name : List ℕ) (cell : Cell) → x ≡ 160 + 12 * cell.column → y ≡ top + 18 * cell.row → shape_text name x y ≡ cell_text top name cell
at_cell top x y name cell left high =
    ap (λ (n : ℕ). shape_text name n y) left ∙ ap (λ (n : ℕ). shape_text name (160 + 12 * cell.column) n) high

-- one cell more
pub cells_next : (top n : ℕ) (IsOf : ℕ → List ℕ → Type 0) (a b c : List ℕ) (name : List ℕ) → AddsCells top n IsOf a b → IsOf n name
    → Adds (cell_text top name (nth_cell n) ∷ []) b c → AddsCells top (n + 1) IsOf a c
cells_next top n IsOf a b c name so_far here added =
    let text = subst (λ (k : ℕ). Adds (cell_text top name (nth_cell k) ∷ []) b c) (sym so_far.many) added in
    record {
      names = name ∷ so_far.names;
      many = omega (arith, so_far.many);
      each = (subst (λ (k : ℕ). IsOf k name) (sym so_far.many) here, so_far.each);
      drawn = adds_then (named_cells top so_far.names) (cell_text top name (nth_cell (length so_far.names)) ∷ []) a b c so_far.drawn text;
    }
