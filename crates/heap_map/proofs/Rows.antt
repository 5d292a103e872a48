-- The rows of a dump, as they are added.
use Rattle.std.proofs.Common.{◌≡◌, ℕ, ◌+◌, ◌*◌, ◌/◌, ◌%◌, List, [], ◌∷◌, ◌++◌, codes, decimal, Option, None, Some, length, slice_index_or, ap, ◌∙◌, sym, subst, arith}
use Rattle.std.proofs.Math.Nat.{mul-div_left}
use Rattle.comp_dump.specs.Dumped.{BuiltPage}
use Rattle.heap_map.specs.Cells.{Adds}
use Rattle.heap_map.specs.Layout.{cell_at, cell_text, shape_text}
use Rattle.heap_map.specs.Pictures.{entries_text, hatched_row, page_row}
use Rattle.heap_map.specs.declared.layout.Scale.{Scale}
use Rattle.heap_map.specs.declared.layout.Scale.TheVariants.{Words}
use Rattle.heap_map.proofs.CellNames.{at_cell}
use Rattle.heap_map.proofs.Standing.{adds_one}

-- the row of a page that was never built, and of one that was
pub row_none : (top row : ℕ) (page : Option BuiltPage) (a b : List ℕ) → page ≡ None → Adds (hatched_row top row) a b → Adds (page_row top row page) a b
row_none top row page a b none drawn = subst (λ (p : Option BuiltPage). Adds (page_row top row p) a b) (sym none) drawn

pub row_some : (top row entries : ℕ) (page : Option BuiltPage) (built : BuiltPage) (a b : List ℕ) → page ≡ Some built → entries ≡ length built.journal
    → Adds (entries_text top row entries ∷ []) a b → Adds (page_row top row page) a b
row_some top row entries page built a b some count drawn =
    subst (λ (p : Option BuiltPage). Adds (page_row top row p) a b) (sym some)
    (subst (λ (n : ℕ). Adds (entries_text top row n ∷ []) a b) count drawn)

-- the same page by another spelling of its number
pub row_at : (top row i j : ℕ) (pages : List (Option BuiltPage)) (a b : List ℕ) → i ≡ j → Adds (page_row top row (slice_index_or pages i None)) a b
    → Adds (page_row top row (slice_index_or pages j None)) a b
row_at top row i j pages a b same drawn = subst (λ (n : ℕ). Adds (page_row top row (slice_index_or pages n None)) a b) same drawn

-- a hatched cell of words
pub hatched_at : (top x y index : ℕ) (scale : Scale) → scale ≡ Words → x ≡ 160 + 12 * (cell_at scale index).column → y ≡ top + 18 * (cell_at scale index).row
    → shape_text (codes "miss") x y ≡ cell_text top (codes "miss") (cell_at Words index)
hatched_at top x y index scale words left high =
    at_cell top x y (codes "miss") (cell_at scale index) left high ∙ ap (λ (s : Scale). cell_text top (codes "miss") (cell_at s index)) words

-- the line of a row
pub base_at : (top y base row : ℕ) (scale : Scale) → scale ≡ Words → y ≡ top + 18 * (cell_at scale (row * 64)).row → base ≡ y + 11 → base ≡ top + 18 * row + 11
base_at top y base row scale words high line =
    let at : y ≡ top + 18 * (row * 64 / 64) = high ∙ ap (λ (s : Scale). top + 18 * (cell_at s (row * 64)).row) words in
    omega (arith, at, line)

pub entries_added : (top row base entries : ℕ) (a b : List ℕ) → base ≡ top + 18 * row + 11
    → b ≡ a ++ (codes "<text x=\"976\" y=\"" ++ (decimal base ++ (codes "\">entries " ++ (decimal entries ++ codes "</text>\n")))) → Adds (entries_text top row entries ∷ []) a b
entries_added top row base entries a b at is =
    adds_one a b (entries_text top row entries)
    (is ∙ ap (λ (n : ℕ). a ++ (codes "<text x=\"976\" y=\"" ++ (decimal n ++ (codes "\">entries " ++ (decimal entries ++ codes "</text>\n"))))) at)
