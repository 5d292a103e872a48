-- What the whole audit's yes means for the words of the compacted pages.
use Rattle.std.specs.Prelude.{◌≡◌, ℕ, ◌-◌, ◌*◌, ◌<◌, List, [], ◌++◌, length, replicate, take, Option, Some, None}
use Rattle.std.specs.List.{flat_map, range_with_len}
use Rattle.heap_layout.specs.Heap.{Heap, live, IsClosed}
use Rattle.page_plan.specs.Sliding as sliding
use Rattle.page_plan.specs.Sliding.{slid_words}
use Rattle.comp_dump.specs.Journal.{replayed}
use Rattle.comp_dump.specs.Setup.{base_of}
use Rattle.comp_dump.specs.Dumped.{BuiltPage, Dumped, IsStored}
use Rattle.comp_audit.specs.Checks.{setup_for}
use Rattle.comp_audit.specs.Judged.{whole_faults}
use Rattle.comp_audit.specs.Meant.{journals_of}

-- the words of a page; a page that was never built has none
abbrev pub words_of : Option BuiltPage → List ℕ
words_of None = []
words_of (Some page) = page.words

-- the words of the first n pages of a dump, joined
abbrev pub first_words : ℕ → Dumped → List ℕ
first_words n dump = flat_map words_of (take n dump.pages)

-- what the journals of a dump make of the slid words, page by page
abbrev pub replayed_words : Heap → Dumped → List ℕ
replayed_words heap dump =
    flat_map (λ p. replayed (base_of (setup_for heap dump.fresh dump.mutators) p) (journals_of dump p)) (range_with_len 0 (sliding.pages (live heap)))

-- the slid words, with zeros after them to whole pages
abbrev pub padded_words : Heap → List ℕ
padded_words heap = slid_words (live heap) ++ replicate (64 * sliding.pages (live heap) - length (slid_words (live heap))) 0

abbrev pub WholeIsReplayed : Type 0
WholeIsReplayed = (heap : Heap) (dump : Dumped) → IsClosed heap → IsStored dump → whole_faults heap dump ≡ []
    → first_words (sliding.pages (live heap)) dump ≡ replayed_words heap dump

-- no compacted page has an entry
abbrev pub IsUnwritten : Heap → Dumped → Type 0
IsUnwritten heap dump = (p : ℕ) → p < sliding.pages (live heap) → journals_of dump p ≡ []

abbrev pub UnwrittenIsSlid : Type 0
UnwrittenIsSlid = (heap : Heap) (dump : Dumped) → IsClosed heap → IsStored dump → whole_faults heap dump ≡ [] → IsUnwritten heap dump
    → first_words (sliding.pages (live heap)) dump ≡ padded_words heap
