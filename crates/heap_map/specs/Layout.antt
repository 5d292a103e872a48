-- Which word goes to which cell, what a cell stands for, and where it is drawn.
use Rattle.std.specs.Prelude.{ℕ, ◌+◌, ◌-◌, ◌*◌, ◌/◌, ◌%◌, ◌^◌, ◌<◌, ◌≤◌, ◌==◌, max, List, ◌++◌, codes, decimal, if◌then◌else◌}
use Rattle.heap_map.specs.declared.layout.Cell.{Cell}
use Rattle.heap_map.specs.declared.layout.Scale.{Scale}
use Rattle.heap_map.specs.declared.layout.Scale.TheVariants.{Words, Pages}

-- the number of the cell of the word with this index: the word itself, or its page by 2^k pages a cell
abbrev pub cell_number : Scale → ℕ → ℕ
cell_number Words index = index
cell_number (Pages k) index = index / 64 / 2 ^ k

-- the cell with this number; a row has 64 cells
abbrev pub nth_cell : ℕ → Cell
nth_cell n = record { column = n % 64; row = n / 64 }

-- the cell of the word with this index
abbrev pub cell_at : Scale → ℕ → Cell
cell_at scale index = nth_cell (cell_number scale index)

-- how many cells so many pages have: a cell of 2^k pages more than the number of the last page's cell
abbrev pub cell_count : Scale → ℕ → ℕ
cell_count Words pages = 64 * pages
cell_count (Pages k) pages = if pages == 0 then 0 else (pages - 1) / 2 ^ k + 1

-- a space of so many pages has at most 8,192 cells of 2^k pages
abbrev pub HasRoom : ℕ → ℕ → Type 0
HasRoom pages k = pages ≤ 8192 * 2 ^ k

-- cells of 2^k pages are the scale of the larger space of so many pages: no smaller k has room for it
pub record IsLeast (pages k : ℕ) : Type 0 where
  pub many : 64 < pages
  pub room : HasRoom pages k
  pub least : (j : ℕ) → j < k → 8192 * 2 ^ j < pages

-- the scale of two spaces of so many pages
abbrev pub IsScaleOf : ℕ → ℕ → Scale → Type 0
IsScaleOf from_pages to_pages Words = max from_pages to_pages ≤ 64
IsScaleOf from_pages to_pages (Pages k) = IsLeast (max from_pages to_pages) k

-- the text that draws the shape of this name with its upper left corner at a point
abbrev pub shape_text : List ℕ → ℕ → ℕ → List ℕ
shape_text shape x y = codes "<use xlink:href=\"#" ++ (shape ++ (codes "\" x=\"" ++ (decimal x ++ (codes "\" y=\"" ++ (decimal y ++ codes "\"/>\n")))))

-- the text that draws the shape of this name in a cell of a space whose first row is at `top`
abbrev pub cell_text : ℕ → List ℕ → Cell → List ℕ
cell_text top shape cell = shape_text shape (160 + 12 * cell.column) (top + 18 * cell.row)
