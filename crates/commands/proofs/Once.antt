-- A replay is one function of its files.
use Rattle.std.proofs.Common.{◌≡◌, ℕ, ◌∙◌, ◌<◌, List, [], ◌∷◌, Option, None, Some, length, map, refl, sym, ap, subst, arith}
use Rattle.std.specs.List.{range_with_len}
use Rattle.std.proofs.lemmas.List.{get_or_default, same_lists}
use Rattle.heap_layout.proofs.Bounds.{words_most, roots_most}
use Rattle.heap_layout.specs.Encoding.{AreCounted, ImagesDiffer}
use Rattle.heap_layout.specs.Faults.{IsAccepted}
use Rattle.heap_layout.specs.Heap.{Heap}
use Rattle.heap_layout.proofs.Marked.{passed, sizes-few}
use Rattle.comp_mutator.specs.Entry.{Entry}
use Rattle.comp_mutator.specs.Setup.{pages, Setup}
use Rattle.comp_mutator.specs.Merged.{stamp_of}
use Rattle.comp_trace.specs.Bytes.{flipped, no_entries}
use Rattle.comp_trace.specs.Grammar.{parts}
use Rattle.comp_trace.specs.Runs.{beginning, unstamped_on, AreAlike, MayBegin, Moment, Runs}
use Rattle.comp_trace.specs.declared.text.line.Line.{Line}
use Rattle.comp_trace.specs.declared.steps.shown.Shown.{Shown}
use Rattle.comp_trace.proofs.Determined.{determined}
use Rattle.comp_trace.proofs.Inside.{ok_is, read_inside}
use Rattle.comp_dump.specs.Dumped.{BuiltPage, Dumped}
use Rattle.comp_mutator.specs.Builds.{named}
use Rattle.commands.specs.Laws.{page_in, times_built, AreOne, IsDumpOfRun, IsPageAfter, ReplaysAreOne}
use Rattle.command_io.specs.Texts.{HasLines}
use Rattle.command_io.proofs.Makings.{same_parts}

-- ---- entries with the same stamps

-- an entry on its page, with this stamp
abbrev restamped : ℕ × Entry → ℕ → ℕ × Entry
restamped x stamp = (x.0, record x.1 { stamp = stamp })

same_entry : (x y : ℕ × Entry) → unstamped_on x ≡ unstamped_on y → stamp_of x ≡ stamp_of y → x ≡ y
same_entry x y bare stamp = ap (λ (z : ℕ × Entry). restamped z (stamp_of x)) bare ∙ ap (λ (s : ℕ). restamped (unstamped_on y) s) stamp

heads_are : {A : Type 0} (x y : A) (xs ys : List A) → x ∷ xs ≡ y ∷ ys → x ≡ y
heads_are x y xs ys e = cc

tails_are : {A : Type 0} (x y : A) (xs ys : List A) → x ∷ xs ≡ y ∷ ys → xs ≡ ys
tails_are x y xs ys e = cc

consed : {A : Type 0} (x y : A) (xs ys : List A) → x ≡ y → xs ≡ ys → x ∷ xs ≡ y ∷ ys
consed x y xs ys e f = cc

pub same_entries : (xs ys : List (ℕ × Entry)) → map unstamped_on xs ≡ map unstamped_on ys → map stamp_of xs ≡ map stamp_of ys → xs ≡ ys
same_entries [] [] bare stamps = refl
same_entries [] (y ∷ ys) bare stamps = cc
same_entries (x ∷ xs) [] bare stamps = cc
same_entries (x ∷ xs) (y ∷ ys) bare stamps =
    consed x y xs ys
    (same_entry x y (heads_are (unstamped_on x) (unstamped_on y) (map unstamped_on xs) (map unstamped_on ys) bare) (heads_are (stamp_of x) (stamp_of y) (map stamp_of xs) (map stamp_of ys) stamps))
    (same_entries xs ys (tails_are (unstamped_on x) (unstamped_on y) (map unstamped_on xs) (map unstamped_on ys) bare) (tails_are (stamp_of x) (stamp_of y) (map stamp_of xs) (map stamp_of ys) stamps))

pub counted : (xs ys : List (ℕ × Entry)) → map unstamped_on xs ≡ map unstamped_on ys → length xs ≡ length ys
counted [] [] bare = refl
counted [] (y ∷ ys) bare = cc
counted (x ∷ xs) [] bare = cc
counted (x ∷ xs) (y ∷ ys) bare = omega (arith, counted xs ys (tails_are (unstamped_on x) (unstamped_on y) (map unstamped_on xs) (map unstamped_on ys) bare))

-- ---- dumps after the same entries

same_page : (u : Setup) (added : List (ℕ × Entry)) (p : ℕ) (page found : BuiltPage) → IsPageAfter u added p (Some page) → IsPageAfter u added p (Some found) → page ≡ found
same_page u added p page found x y =
    let words : page.words ≡ found.words = x.1 ∙ sym y.1 in
    let journal : page.journal ≡ found.journal = x.0 ∙ sym y.0 in
    ap (λ (w : List ℕ). record page { words = w }) words ∙ ap (λ (j : List Entry). record found { journal = j }) journal

-- a page is there in both dumps, or in none
same_slot : (u : Setup) (added : List (ℕ × Entry)) (p : ℕ) (a b : Option BuiltPage) → times_built a ≡ times_built b → IsPageAfter u added p a → IsPageAfter u added p b → a ≡ b
same_slot u added p None None once x y = refl
same_slot u added p None (Some found) once x y = absurd (omega (arith, once))
same_slot u added p (Some page) None once x y = absurd (omega (arith, once))
same_slot u added p (Some page) (Some found) once x y = ap (λ (z : BuiltPage). Some z) (same_page u added p page found x y)

abbrev moment_with : List Shown → List (ℕ × Entry) → List (ℕ × ℕ) → (ℕ → List ℕ) → Moment
moment_with shown added built registers = record { registers = registers; added = added; shown = shown; built = built }

same_moment : (end other : Moment) → end.added ≡ other.added → AreAlike end other → end ≡ other
same_moment end other added alike =
    ap (moment_with end.shown end.added end.built) alike.registers
    ∙ ap (λ (l : List (ℕ × Entry)). moment_with end.shown l end.built other.registers) added
    ∙ ap (λ (l : List Shown). moment_with l other.added end.built other.registers) alike.shown
    ∙ ap (λ (l : List (ℕ × ℕ)). moment_with other.shown other.added l other.registers) alike.built

-- dumps after the same moment are equal
same_dump : (u : Setup) (end : Moment) (dump second : Dumped) → IsDumpOfRun u end dump → IsDumpOfRun u end second → dump ≡ second
same_dump u end dump second left right =
    let x = left.after in
    let y = right.after in
    let builds : dump.builds ≡ second.builds = left.builds ∙ sym right.builds in
    let many : length dump.pages ≡ length second.pages = x.slots ∙ sym y.slots in
    let page : (p : ℕ) → p < pages u → page_in dump p ≡ page_in second p =
    (λ p lt. same_slot u end.added p (page_in dump p) (page_in second p) (sym (x.once p lt) ∙ ap (named p) builds ∙ y.once p lt) (x.page_by_page p lt) (y.page_by_page p lt)) in
    let slots : dump.pages ≡ second.pages = same_lists dump.pages second.pages many
    (λ p d lt. get_or_default dump.pages p d None lt ∙ page p (omega (arith, lt, x.slots)) ∙ get_or_default second.pages p None d (omega (arith, lt, many))) in
    same_parts dump.edition second.edition dump.mutators second.mutators dump.fresh second.fresh dump.total second.total dump.roots second.roots dump.pages second.pages dump.builds second.builds
    (x.edition ∙ sym y.edition) (x.mutators ∙ sym y.mutators) (x.fresh ∙ sym y.fresh) (x.roots ∙ sym y.roots) slots builds (x.total ∙ sym y.total)

dumps_agree : (u : Setup) (end other : Moment) (dump second : Dumped) → AreAlike end other → IsDumpOfRun u end dump → IsDumpOfRun u other second → AreOne end other dump second
dumps_agree u end other dump second alike x y =
    let many : length end.added ≡ length other.added = counted end.added other.added alike.added in
    let added : end.added ≡ other.added = same_entries end.added other.added alike.added (x.after.stamps ∙ ap (λ (n : ℕ). range_with_len 0 n) many ∙ sym y.after.stamps) in
    let same = same_moment end other added alike in
    record { moments = same; dumps = same_dump u end dump second x (subst (λ (m : Moment). IsDumpOfRun u m second) (sym same) y) }

-- ---- the same bytes

of_heap : (heap : Heap) (mutators fresh : ℕ) (text : List ℕ) (lines more : List Line) (end other : Moment) (dump second : Dumped)
    → HasLines mutators (length heap.roots) lines text → HasLines mutators (length heap.roots) more text
    → Runs (flipped heap mutators fresh) no_entries 1 lines beginning end → Runs (flipped heap mutators fresh) no_entries 1 more beginning other
    → IsDumpOfRun (flipped heap mutators fresh) end dump → IsDumpOfRun (flipped heap mutators fresh) other second → AreOne end other dump second
of_heap heap mutators fresh text lines more end other dump second text_is more_is runs ran left right =
    let u = flipped heap mutators fresh in
    let same : lines ≡ more = ok_is lines more (sym text_is ∙ more_is) in
    let begins : MayBegin u lines no_entries = record { slid = refl; lawful = λ p. tt; mutators = read_inside mutators (length heap.roots) 1 (parts 10 text) lines text_is } in
    let alike = determined u lines no_entries no_entries begins (λ p. refl) end other runs (subst (λ (ls : List Line). Runs u no_entries 1 ls beginning other) (sym same) ran) in
    dumps_agree u end other dump second alike left right

-- an accepted heap has few words, marks and roots
pub counted_of : (heap : Heap) → IsAccepted heap → AreCounted heap
counted_of heap accepted =
    let few = sizes-few heap.edition (length heap.words) (length heap.marks) (length heap.roots) (passed heap accepted).sizes in
    record { words = omega (arith, few.0, words_most heap.edition); marks = omega (arith, few.1, words_most heap.edition); roots = omega (arith, few.2, roots_most heap.edition) }

-- what is known of a replay, of its heap alone
record Over (mutators fresh : ℕ) (text : List ℕ) (end : Moment) (dump : Dumped) (heap : Heap) : Type 0 where
  lines : List Line
  text_is : HasLines mutators (length heap.roots) lines text
  runs : Runs (flipped heap mutators fresh) no_entries 1 lines beginning end
  left : IsDumpOfRun (flipped heap mutators fresh) end dump

pub are_one : ImagesDiffer → ReplaysAreOne
are_one differ mutators fresh image text end other dump second x y =
    let same : x.heap ≡ y.heap = differ x.heap y.heap x.stored y.stored (counted_of x.heap x.accepted) (counted_of y.heap y.accepted) (sym x.image_is ∙ y.image_is) in
    let over : Over mutators fresh text other second y.heap = record { lines = y.lines; text_is = y.text_is; runs = y.runs; left = y.left } in
    let z : Over mutators fresh text other second x.heap = subst (Over mutators fresh text other second) (sym same) over in
    of_heap x.heap mutators fresh text x.lines z.lines end other dump second x.text_is z.text_is x.runs z.runs x.left z.left
