-- The cells by which a picture shows objects and pages, as texts in their order.
use Rattle.std.specs.Prelude.{◌≡◌, ℕ, zero, suc, ◌+◌, ◌%◌, ◌≤◌, nat_lt, List, [], ◌∷◌, ◌++◌, codes, decimal, length, take, slice_index, if◌then◌else◌}
use Rattle.heap_layout.specs.Header.{Head, size_of}
use Rattle.heap_layout.specs.Heap.{Heap, header_at, live}
use Rattle.heap_layout.specs.Kinds.{first_of}
use Rattle.heap_layout.specs.declared.kind.Kind.{Kind}
use Rattle.heap_layout.specs.declared.kind.Kind.TheVariants.{Header, Reference, Weak, Data}
use Rattle.page_plan.specs.Sliding.{live_words}
use Rattle.heap_map.specs.Layout.{cell_at, cell_text, nth_cell}
use Rattle.heap_map.specs.declared.layout.Scale.TheVariants.{Words}

-- these texts stand in this one, in their order and apart; other text may stand before, between and after them
abbrev pub StandIn : List (List ℕ) → List ℕ → Type 0
StandIn [] text = Unit {0}
StandIn (part ∷ parts) text = (before : List ℕ) × (after : List ℕ) × (text ≡ before ++ (part ++ after)) × StandIn parts after

-- a text grew at its end, and these texts stand in what was added
pub record Adds (parts : List (List ℕ)) (old new : List ℕ) : Type 0 where
  pub added : List ℕ
  pub is : new ≡ old ++ added
  pub stand : StandIn parts added

-- the texts that `of` makes of the numbers below n, in their order
abbrev pub in_turn : ℕ → (ℕ → List (List ℕ)) → List (List ℕ)
in_turn zero of = []
in_turn (suc n) of = in_turn n of ++ of n

-- the letter by which a word of this kind is drawn
abbrev pub letter_of : Kind → List ℕ
letter_of Header = codes "h"
letter_of Reference = codes "r"
letter_of Weak = codes "w"
letter_of Data = codes "d"

-- what the word at an offset of an object with this header is
abbrev pub kind_in : Head → ℕ → Kind
kind_in header offset =
    if nat_lt offset 1 then Header else (if nat_lt offset (first_of Weak header) then Reference else (if nat_lt offset (first_of Data header) then Weak else Data))

-- the cell of a word of an object, by the object's header and start, and the number of its colour
abbrev pub word_cell : ℕ → ℕ → ℕ → Head → ℕ → List ℕ
word_cell top colour start header offset = cell_text top (letter_of (kind_in header offset) ++ decimal colour) (cell_at Words (start + offset))

-- the cells of all words of an object
abbrev pub object_cells : ℕ → ℕ → ℕ → Head → List (List ℕ)
object_cells top colour start header = in_turn (size_of header) (λ offset. word_cell top colour start header offset ∷ [])

-- the cells of the k-th live object, which is drawn at this index; seven colours take turns
abbrev pub live_object : ℕ → Heap → ℕ → ℕ → List (List ℕ)
live_object top heap place k = object_cells top (k % 7) place (header_at heap.edition heap.words (slice_index heap.marks k))

-- the cells of all live objects, of which the k-th is drawn at the index that `place` tells
abbrev pub live_cells : ℕ → Heap → (ℕ → ℕ) → List (List ℕ)
live_cells top heap place = in_turn (length heap.marks) (λ k. live_object top heap (place k) k)

-- where the k-th live object is, in from-space and in to-space
abbrev pub from_place : Heap → ℕ → ℕ
from_place heap k = slice_index heap.marks k

abbrev pub to_place : Heap → ℕ → ℕ
to_place heap k = live_words (take k (live heap))

-- the cells of a space from the first one on, by the names of their shapes, of which that of the last cell comes first
abbrev pub named_cells : ℕ → List (List ℕ) → List (List ℕ)
named_cells top [] = []
named_cells top (name ∷ names) = named_cells top names ++ (cell_text top name (nth_cell (length names)) ∷ [])

-- each of the names is one of its cell, by the cell's number
abbrev pub EachOf : (ℕ → List ℕ → Type 0) → List (List ℕ) → Type 0
EachOf IsOf [] = Unit {0}
EachOf IsOf (name ∷ names) = IsOf (length names) name × EachOf IsOf names

-- so many cells of a space stand in a text, each by a name that is one of it
pub record ShowsCells (top count : ℕ) (IsOf : ℕ → List ℕ → Type 0) (text : List ℕ) : Type 0 where
  pub names : List (List ℕ)
  pub many : length names ≡ count
  pub each : EachOf IsOf names
  pub stand : StandIn (named_cells top names) text

-- a text grew at its end by one of which this holds
pub record AddsText (Shows : List ℕ → Type 0) (old new : List ℕ) : Type 0 where
  pub added : List ℕ
  pub is : new ≡ old ++ added
  pub shows : Shows added

-- so many cells of a space were added to a text, each by a name that is one of it
pub record AddsCells (top count : ℕ) (IsOf : ℕ → List ℕ → Type 0) (old new : List ℕ) : Type 0 where
  pub names : List (List ℕ)
  pub many : length names ≡ count
  pub each : EachOf IsOf names
  pub drawn : Adds (named_cells top names) old new

-- the name is that of one of the six shades
abbrev pub IsShade : List ℕ → Type 0
IsShade name = (shade : ℕ) × (shade ≤ 5) × (name ≡ codes "s" ++ decimal shade)
