-- What a picture shows of a heap, and of a dump of it.
use Rattle.std.specs.Prelude.{◌≡◌, ◌⊎◌, ℕ, ◌+◌, ◌-◌, ◌*◌, ◌/◌, ◌^◌, ◌<◌, Bool, List, [], ◌∷◌, ◌++◌, codes, decimal, length, slice_index_or, Option, None, Some, IsSome, if◌then◌else◌}
use Rattle.heap_layout.specs.Heap.{Heap, live}
use Rattle.page_plan.specs.Sliding.{pages}
use Rattle.comp_dump.specs.Dumped.{BuiltPage, Dumped}
use Rattle.heap_map.specs.Cells.{from_place, in_turn, live_cells, to_place, IsShade, ShowsCells, StandIn}
use Rattle.heap_map.specs.Layout.{cell_at, cell_count, cell_text, IsScaleOf}
use Rattle.heap_map.specs.declared.layout.Scale.{Scale}
use Rattle.heap_map.specs.declared.layout.Scale.TheVariants.{Words, Pages}

-- the text is that of a whole picture: it ends with the end tag of its root, and a line feed
abbrev pub IsWhole : List ℕ → Type 0
IsWhole picture = (front : List ℕ) × (picture ≡ front ++ codes "</svg>\n")

-- the cells of a page in the row with this number, hatched
abbrev pub hatched_row : ℕ → ℕ → List (List ℕ)
hatched_row top row = in_turn 64 (λ offset. cell_text top (codes "miss") (cell_at Words (row * 64 + offset)) ∷ [])

-- a line at the row with this number, which says how many entries its page has
abbrev pub entries_text : ℕ → ℕ → ℕ → List ℕ
entries_text top row entries =
    codes "<text x=\"976\" y=\"" ++ (decimal (top + 18 * row + 11) ++ (codes "\">entries " ++ (decimal entries ++ codes "</text>\n")))

-- a page of a dump in the row with this number: 64 hatched cells if it was never built, else how many entries it has
abbrev pub page_row : ℕ → ℕ → Option BuiltPage → List (List ℕ)
page_row top row None = hatched_row top row
page_row top row (Some page) = entries_text top row (length page.journal) ∷ []

-- so many pages of a dump from page `first` on, each in a row of its own
abbrev pub page_rows : ℕ → Dumped → ℕ → ℕ → List (List ℕ)
page_rows top dump first count = in_turn count (λ row. page_row top row (slice_index_or dump.pages (first + row) None))

-- the shape of a cell of pages: hatched if none of them was built, else a shade
abbrev pub cell_name : Bool → ℕ → List ℕ
cell_name built shade = if built then codes "s" ++ decimal shade else codes "miss"

-- Of a dump's pages from page `first` on, so many, those of one cell of 2^k pages: none was built, and the cell is
-- hatched; or one was built, and the cell has a shade.
abbrev pub IsDumpCell : ℕ → Dumped → ℕ → ℕ → ℕ → List ℕ → Type 0
IsDumpCell k dump first count cell name =
    (((p : ℕ) → p < count → p / 2 ^ k ≡ cell → slice_index_or dump.pages (first + p) None ≡ None) × (name ≡ codes "miss"))
    ⊎ (((p : ℕ) × (p < count) × (p / 2 ^ k ≡ cell) × IsSome (slice_index_or dump.pages (first + p) None)) × IsShade name)

-- how many pages a picture has: of from-space, of to-space, and fresh ones, which only a dump has
abbrev pub from_pages : Heap → ℕ
from_pages heap = (length heap.words + 63) / 64

abbrev pub to_pages : Heap → Option Dumped → ℕ
to_pages heap None = pages (live heap)
to_pages heap (Some dump) = length dump.pages - dump.fresh

abbrev pub fresh_pages : Option Dumped → ℕ
fresh_pages None = 0
fresh_pages (Some dump) = dump.fresh

-- From-space, whose first row is at `top`: by words each live object, by pages each cell, in a shade.
abbrev pub ShowsFrom : Scale → ℕ → Heap → List ℕ → Type 0
ShowsFrom Words top heap text = StandIn (live_cells top heap (from_place heap)) text
ShowsFrom (Pages k) top heap text = ShowsCells top (cell_count (Pages k) (from_pages heap)) (λ _ name. IsShade name) text

-- to-space as the heap slides, in the same way
abbrev pub ShowsTo : Scale → ℕ → Heap → List ℕ → Type 0
ShowsTo Words top heap text = StandIn (live_cells top heap (to_place heap)) text
ShowsTo (Pages k) top heap text = ShowsCells top (cell_count (Pages k) (pages (live heap))) (λ _ name. IsShade name) text

-- so many pages of a dump from page `first` on: by words each page in its row, by pages each cell, hatched or in a
-- shade
abbrev pub ShowsDump : Scale → ℕ → Dumped → ℕ → ℕ → List ℕ → Type 0
ShowsDump Words top dump first count text = StandIn (page_rows top dump first count) text
ShowsDump (Pages k) top dump first count text = ShowsCells top (cell_count (Pages k) count) (IsDumpCell k dump first count) text

-- to-space: as the heap slides, or as a dump has it, with the fresh pages below
abbrev pub ShowsSpace : Scale → ℕ → ℕ → Heap → Option Dumped → List ℕ → Type 0
ShowsSpace scale top fresh_top heap None text = ShowsTo scale top heap text
ShowsSpace scale top fresh_top heap (Some dump) text =
    let count = to_pages heap (Some dump) in
    (to : List ℕ) × (fresh : List ℕ) × (text ≡ to ++ fresh) × ShowsDump scale top dump 0 count to × ShowsDump scale fresh_top dump count dump.fresh fresh

-- The picture of a heap, and of a dump if there is one: from-space, and below it to-space, in cells of one scale.
pub record IsPictureOf (heap : Heap) (dump : Option Dumped) (picture : List ℕ) : Type 0 where
  pub scale : Scale
  pub scaled : IsScaleOf (from_pages heap) (to_pages heap dump + fresh_pages dump) scale
  pub from_top : ℕ
  pub to_top : ℕ
  pub fresh_top : ℕ
  pub before : List ℕ
  pub from : List ℕ
  pub between : List ℕ
  pub to : List ℕ
  pub after : List ℕ
  pub parts : picture ≡ before ++ (from ++ (between ++ (to ++ after)))
  pub from_space : ShowsFrom scale from_top heap from
  pub to_space : ShowsSpace scale to_top fresh_top heap dump to
