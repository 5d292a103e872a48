-- The spaces of a picture, as they are added.
use Rattle.std.proofs.Common.{◌≡◌, ℕ, ◌+◌, ◌-◌, List, ◌++◌, Option, None, Some, length, refl, sym, ap, ◌∙◌, subst, append_assoc}
use Rattle.heap_layout.specs.Heap.{Heap, live}
use Rattle.page_plan.specs.Sliding.{pages}
use Rattle.comp_dump.specs.Dumped.{Dumped}
use Rattle.heap_map.specs.Cells.{from_place, live_cells, to_place, Adds, AddsCells, AddsText, IsShade, ShowsCells}
use Rattle.heap_map.specs.Layout.{cell_count, IsScaleOf}
use Rattle.heap_map.specs.Pictures.{fresh_pages, from_pages, page_rows, to_pages, IsDumpCell, IsPictureOf, ShowsDump, ShowsFrom, ShowsSpace, ShowsTo}
use Rattle.heap_map.specs.declared.layout.Scale.{Scale}
use Rattle.heap_map.specs.declared.layout.Scale.TheVariants.{Words, Pages}

-- cells that were added are text in which they stand
shown : (top count : ℕ) (IsOf : ℕ → List ℕ → Type 0) (a b : List ℕ) → AddsCells top count IsOf a b → AddsText (ShowsCells top count IsOf) a b
shown top count IsOf a b cells = record {
  added = cells.drawn.added;
  is = cells.drawn.is;
  shows = record { names = cells.names; many = cells.many; each = cells.each; stand = cells.drawn.stand };
}

-- as many cells by another spelling of their number
counted : (top n m : ℕ) (IsOf : ℕ → List ℕ → Type 0) (a b : List ℕ) → n ≡ m → AddsCells top n IsOf a b → AddsCells top m IsOf a b
counted top n m IsOf a b same cells = subst (λ (k : ℕ). AddsCells top k IsOf a b) same cells

pub from_by_words : (scale : Scale) (top : ℕ) (own heap : Heap) (a b : List ℕ) → scale ≡ Words → own ≡ heap → Adds (live_cells top own (from_place own)) a b → AddsText (ShowsFrom scale top heap) a b
from_by_words scale top own heap a b is same drawn =
    let here = subst (λ (h : Heap). Adds (live_cells top h (from_place h)) a b) same drawn in
    subst (λ (s : Scale). AddsText (ShowsFrom s top heap) a b) (sym is) (record { added = here.added; is = here.is; shows = here.stand })

pub from_by_pages : (scale : Scale) (k top count : ℕ) (heap : Heap) (a b : List ℕ) → scale ≡ Pages k → count ≡ from_pages heap
    → AddsCells top (cell_count scale count) (λ _ name. IsShade name) a b → AddsText (ShowsFrom scale top heap) a b
from_by_pages scale k top count heap a b is same drawn =
    let n : cell_count scale count ≡ cell_count (Pages k) (from_pages heap) = ap (λ (s : Scale). cell_count s count) is ∙ ap (cell_count (Pages k)) same in
    subst (λ (s : Scale). AddsText (ShowsFrom s top heap) a b) (sym is) (shown top (cell_count (Pages k) (from_pages heap)) (λ _ name. IsShade name) a b (counted top _ _ _ a b n drawn))

pub to_by_words : (scale : Scale) (top : ℕ) (own heap : Heap) (a b : List ℕ) → scale ≡ Words → own ≡ heap → Adds (live_cells top own (to_place own)) a b → AddsText (ShowsTo scale top heap) a b
to_by_words scale top own heap a b is same drawn =
    let here = subst (λ (h : Heap). Adds (live_cells top h (to_place h)) a b) same drawn in
    subst (λ (s : Scale). AddsText (ShowsTo s top heap) a b) (sym is) (record { added = here.added; is = here.is; shows = here.stand })

pub to_by_pages : (scale : Scale) (k top count : ℕ) (heap : Heap) (a b : List ℕ) → scale ≡ Pages k → count ≡ pages (live heap)
    → AddsCells top (cell_count scale count) (λ _ name. IsShade name) a b → AddsText (ShowsTo scale top heap) a b
to_by_pages scale k top count heap a b is same drawn =
    let n : cell_count scale count ≡ cell_count (Pages k) (pages (live heap)) = ap (λ (s : Scale). cell_count s count) is ∙ ap (cell_count (Pages k)) same in
    subst (λ (s : Scale). AddsText (ShowsTo s top heap) a b) (sym is) (shown top (cell_count (Pages k) (pages (live heap))) (λ _ name. IsShade name) a b (counted top _ _ _ a b n drawn))

pub dump_by_words : (scale : Scale) (top : ℕ) (dump : Dumped) (first count : ℕ) (a b : List ℕ) → scale ≡ Words → Adds (page_rows top dump first count) a b
    → AddsText (ShowsDump scale top dump first count) a b
dump_by_words scale top dump first count a b is drawn =
    subst (λ (s : Scale). AddsText (ShowsDump s top dump first count) a b) (sym is) (record { added = drawn.added; is = drawn.is; shows = drawn.stand })

pub dump_by_pages : (scale : Scale) (k top : ℕ) (dump : Dumped) (first count : ℕ) (a b : List ℕ) → scale ≡ Pages k
    → AddsCells top (cell_count (Pages k) count) (IsDumpCell k dump first count) a b → AddsText (ShowsDump scale top dump first count) a b
dump_by_pages scale k top dump first count a b is drawn =
    subst (λ (s : Scale). AddsText (ShowsDump s top dump first count) a b) (sym is) (shown top (cell_count (Pages k) count) (IsDumpCell k dump first count) a b drawn)

-- the compacted pages of a dump, and then its fresh ones
pub dump_space : (scale : Scale) (top fresh_top : ℕ) (heap : Heap) (dump : Dumped) (count fresh : ℕ) (a b c : List ℕ) → count ≡ length dump.pages - dump.fresh → fresh ≡ dump.fresh
    → AddsText (ShowsDump scale top dump 0 count) a b → AddsText (ShowsDump scale fresh_top dump count fresh) b c → AddsText (ShowsSpace scale top fresh_top heap (Some dump)) a c
dump_space scale top fresh_top heap dump count fresh a b c many few compacted after =
    let count_is = subst (λ (n : ℕ). ShowsDump scale top dump 0 n compacted.added) many compacted.shows in
    let fresh_is = subst (λ (n : ℕ). ShowsDump scale fresh_top dump n dump.fresh after.added) many (subst (λ (n : ℕ). ShowsDump scale fresh_top dump count n after.added) few after.shows) in
    record {
      added = compacted.added ++ after.added;
      is = after.is ∙ ap (λ (t : List ℕ). t ++ after.added) compacted.is ∙ append_assoc a compacted.added after.added;
      shows = (compacted.added, after.added, refl, count_is, fresh_is);
    }

-- the same in a scale by another name
pub same_scale : (own scale : Scale) (top : ℕ) (dump : Dumped) (first count : ℕ) (a b : List ℕ) → own ≡ scale → AddsText (ShowsDump own top dump first count) a b
    → AddsText (ShowsDump scale top dump first count) a b
same_scale own scale top dump first count a b same drawn = subst (λ (s : Scale). AddsText (ShowsDump s top dump first count) a b) same drawn

-- the whole picture, from the text before its cells to its end
pub picture_of : (heap : Heap) (dump : Option Dumped) (scale : Scale) (from_top to_top fresh_top : ℕ) (before one two three four five between behind end : List ℕ)
    → IsScaleOf (from_pages heap) (to_pages heap dump + fresh_pages dump) scale → AddsText (ShowsFrom scale from_top heap) before one → two ≡ one ++ between
    → AddsText (ShowsSpace scale to_top fresh_top heap dump) two three → four ≡ three ++ behind → five ≡ four ++ end → IsPictureOf heap dump five
picture_of heap dump scale from_top to_top fresh_top before one two three four five between behind end scaled from second to fourth fifth = record {
  scale = scale;
  scaled = scaled;
  from_top = from_top;
  to_top = to_top;
  fresh_top = fresh_top;
  before = before;
  from = from.added;
  between = between;
  to = to.added;
  after = behind ++ end;
  parts = whole;
  from_space = from.shows;
  to_space = to.shows;
}
  where
    joined : (b f w t h e : List ℕ) → ((((b ++ f) ++ w) ++ t) ++ h) ++ e ≡ b ++ (f ++ (w ++ (t ++ (h ++ e))))
    joined b f w t h e = simp append_assoc

    whole : five ≡ before ++ (from.added ++ (between ++ (to.added ++ (behind ++ end))))
    whole =
        fifth
        ∙ ap (λ (x : List ℕ). x ++ end) (fourth ∙ ap (λ (x : List ℕ). x ++ behind) (to.is ∙ ap (λ (x : List ℕ). x ++ to.added) (second ∙ ap (λ (x : List ℕ). x ++ between) from.is)))
        ∙ joined before from.added between to.added behind end

-- the same from what a frame says of its spaces
pub picture_in_frame : (heap : Heap) (own dump : Option Dumped) (scale to_scale : Scale) (from_top to_top fresh_top from_count to_count fresh_count : ℕ)
    (before one two three four five between behind end : List ℕ) → own ≡ dump → to_scale ≡ scale → from_count ≡ from_pages heap → to_count ≡ to_pages heap own → fresh_count ≡ fresh_pages own
    → IsScaleOf from_count (to_count + fresh_count) scale → AddsText (ShowsFrom scale from_top heap) before one → two ≡ one ++ between
    → AddsText (ShowsSpace to_scale to_top fresh_top heap own) two three → four ≡ three ++ behind → five ≡ four ++ end → IsPictureOf heap dump five
picture_in_frame heap own dump scale to_scale from_top to_top fresh_top from_count to_count fresh_count before one two three four five between behind end dumped alike from_is to_is fresh_is scaled from second to fourth fifth =
    let below_is : to_count + fresh_count ≡ to_pages heap own + fresh_pages own = ap (λ (n : ℕ). n + fresh_count) to_is ∙ ap (λ (n : ℕ). to_pages heap own + n) fresh_is in
    let by_from = subst (λ (n : ℕ). IsScaleOf n (to_count + fresh_count) scale) from_is scaled in
    let by_both = subst (λ (n : ℕ). IsScaleOf (from_pages heap) n scale) below_is by_from in
    let below = subst (λ (s : Scale). AddsText (ShowsSpace s to_top fresh_top heap own) two three) alike to in
    subst (λ (d : Option Dumped). IsPictureOf heap d five) dumped (picture_of heap own scale from_top to_top fresh_top before one two three four five between behind end by_both from second below fourth fifth)
