-- How many bytes images and dumps have.
use Rattle.std.proofs.Common.{◌≡◌, ℕ, ◌+◌, ◌*◌, ◌<◌, ◌≤◌, List, [], ◌∷◌, ◌++◌, length, take, get_or, All, Option, None, Some, refl, sym, ap, ◌∙◌, arith, length-append, append-nil}
use Rattle.std.specs.List.{flat_map}
use Rattle.std.proofs.lemmas.List.{take_more}
use Rattle.std.proofs.lemmas.List.Concat.{flat_map-append}
use Rattle.heap_layout.specs.Encoding as image
use Rattle.heap_layout.specs.Heap.{Heap}
use Rattle.heap_layout.specs.declared.edition.Edition.{Edition}
use Rattle.heap_layout.proofs.Injective.{body, encoding_is, length-body}
use Rattle.comp_dump.specs.Entry.{Entry}
use Rattle.comp_dump.specs.Dumped.{BuiltPage, Dumped, IsStoredRecord, IsStoredList}
use Rattle.comp_dump.specs.DumpEncoding.{built_bytes, builds_bytes, dump_bytes, eight_bytes, entry_bytes, four_bytes, front_bytes, head, page_bytes}
use Rattle.file_handle.specs.Dumping.{IsSized}

-- an image has its head, and then its numbers
pub image_len : (heap : Heap) → length (image.encoding heap) ≡ 24 + 8 * length heap.words + 4 * length heap.marks + 8 * length heap.roots
image_len heap =
    let front = image.head heap.edition (length heap.words) (length heap.marks) (length heap.roots) in
    let long : length front ≡ 24 = refl in
    let whole = ap length (encoding_is heap) ∙ length-append front (body heap) in
    omega (arith, whole, long, length-body heap)

-- pieces of one size
pieces : {X : Type 0} (f : X → List ℕ) (size : ℕ) → ((x : X) → length (f x) ≡ size) → (xs : List X) → length (flat_map f xs) ≡ size * length xs
pieces f size wide [] = omega arith
pieces f size wide (x ∷ xs) = omega (arith, length-append (f x) (flat_map f xs), wide x, pieces f size wide xs)

length-entry : (e : Entry) → length (entry_bytes e) ≡ 19
unfolding entry_bytes
length-entry e = refl

-- a page that was built
pub length-page : (page : BuiltPage) → length page.words ≡ 64 → length (page_bytes (Some page)) ≡ 517 + 19 * length page.journal
unfolding built_bytes
length-page page long =
    let words = pieces eight_bytes 8 (λ _. refl) page.words in
    let journal = pieces entry_bytes 19 length-entry page.journal in
    simp length-append (omega (arith, words, journal, long))

-- the pages that one mutator built
pub length-builds : (list : List ℕ) → length (builds_bytes list) ≡ 4 + 4 * length list
length-builds list =
    let pages = pieces four_bytes 4 (λ _. refl) list in
    simp length-append (omega (arith, pages))

-- a dump has its head, and then its parts
pub length-dump : (d : Dumped) → length (dump_bytes d) ≡ 36 + 8 * length d.roots + length (flat_map page_bytes d.pages) + length (flat_map builds_bytes d.builds)
unfolding dump_bytes front_bytes head
length-dump d =
    let roots = pieces eight_bytes 8 (λ _. refl) d.roots in
    simp length-append (omega (arith, roots))

-- one piece more
pub length-more : {X : Type 0} (f : X → List ℕ) (xs : List X) (i : ℕ) (d x : X) → i < length xs → x ≡ get_or xs i d
    → length (flat_map f (take (i + 1) xs)) ≡ length (flat_map f (take i xs)) + length (f x)
length-more {X = X} f xs i d x inside is =
    let more : take (i + 1) xs ≡ take i xs ++ x ∷ [] = take_more xs i d inside ∙ ap (λ (y : X). take i xs ++ y ∷ []) (sym is) in
    let all : flat_map f (take (i + 1) xs) ≡ flat_map f (take i xs) ++ f x =
    ap (flat_map f) more ∙ flat_map-append f (take i xs) (x ∷ []) ∙ ap (λ (rest : List ℕ). flat_map f (take i xs) ++ rest) (append-nil (f x)) in
    ap length all ∙ length-append (flat_map f (take i xs)) (f x)

-- the pages and lists of a dump in range are no larger than these
pub sized_of : (edition : Edition) (mutators : ℕ) (slot : Option BuiltPage) → IsStoredRecord edition mutators slot → IsSized slot
sized_of edition mutators None h = tt
sized_of edition mutators (Some page) h = (h.long, h.few_entries)

pub all_sized : (edition : Edition) (mutators : ℕ) (slots : List (Option BuiltPage)) → All (IsStoredRecord edition mutators) slots → All IsSized slots
all_sized edition mutators slots all = λ k d lt. sized_of edition mutators (get_or slots k d) (all k d lt)

pub all_few : (pages most : ℕ) (lists : List (List ℕ)) → pages ≤ most → All (IsStoredList pages) lists → All (λ list. length list ≤ most) lists
all_few pages most lists few all = λ k d lt. let one = (all k d lt).few in omega (arith, one, few)
