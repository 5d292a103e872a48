-- What a survey is seen to be, by its tables.
use Rattle.std.proofs.Common.{◌≡◌, ℕ, Bool, List, [], ◌∷◌, length, map, get_or, refl, ap, ◌∙◌, arith}
use Rattle.std.proofs.lemmas.List.{get_or_default}
use Rattle.heap_layout.specs.declared.edition.Edition.{Edition}
use Rattle.heap_layout.specs.Bits.{leads}
use Rattle.heap_layout.specs.Heap.{Heap, live, is_value}
use Rattle.heap_layout.specs.Values.{or_immediate}
use Rattle.mark_tables.specs.MarkBitmap.{set_bits}
use Rattle.page_plan.specs.Sliding.{live_words}
use Rattle.rest_marks.specs.Looking.{kept_by}
use Rattle.rest_slide.specs.Settled.{settled_word}
use Rattle.rest_marks.specs.Surveys.{told, AreTables}
use Rattle.rest_marks.proofs.Heads.{heads-lead, all-words}
use Rattle.rest_slide.proofs.Settling.{kept-settled}

-- a value, by the bits that were lent
pub value-seen : (edition : Edition) (words lent heads : List ℕ) (heap : Heap) (word : ℕ) → lent ≡ heads → told edition words heads ≡ heap
    → or_immediate edition (leads lent) word ≡ is_value heap.edition heap.marks word
value-seen edition words lent heads heap word same view =
    ap (λ (xs : List ℕ). or_immediate edition (leads xs) word) same
    ∙ ap (λ (test : ℕ → Bool). or_immediate edition test word) (heads-lead heads)
    ∙ ap (λ (h : Heap). is_value h.edition h.marks word) view

-- the number of live words
pub words-seen : (edition : Edition) (words heads bits counts lent : List ℕ) (heap : Heap) → AreTables edition words heads bits counts → lent ≡ bits
    → told edition words heads ≡ heap → length (set_bits lent) ≡ live_words (live heap)
words-seen edition words heads bits counts lent heap tables same view =
    ap (λ (xs : List ℕ). length (set_bits xs)) same ∙ all-words edition words heads bits counts tables ∙ ap (λ (h : Heap). live_words (live h)) view

-- the last count says it
pub last-count : (edition : Edition) (words heads bits counts : List ℕ) → AreTables edition words heads bits counts → (n d : ℕ) → n ≡ length bits
    → get_or counts n d ≡ live_words (live (told edition words heads))
last-count edition words heads bits counts tables n d last =
    ap (λ (m : ℕ). get_or counts m d) last ∙ get_or_default counts (length bits) d 0 (omega (arith, tables.offsets.long)) ∙ tables.offsets.before (length bits) (omega arith)
    ∙ words-seen edition words heads bits counts bits (told edition words heads) tables refl refl

-- where words lead
settled-all-by : (edition : Edition) (words heads bits counts : List ℕ) → AreTables edition words heads bits counts → (xs : List ℕ)
    → map (kept_by edition heads (set_bits bits)) xs ≡ map (settled_word edition (live (told edition words heads))) xs
settled-all-by edition words heads bits counts tables [] = refl
settled-all-by edition words heads bits counts tables (x ∷ xs) =
    ap (λ (y : ℕ). y ∷ map (kept_by edition heads (set_bits bits)) xs) (kept-settled edition words heads bits counts tables x)
    ∙ ap (λ (ys : List ℕ). settled_word edition (live (told edition words heads)) x ∷ ys) (settled-all-by edition words heads bits counts tables xs)

pub settled-seen : (edition : Edition) (words heads bits counts lent_heads lent_bits : List ℕ) (heap : Heap) (xs : List ℕ)
    → AreTables edition words heads bits counts → lent_heads ≡ heads → lent_bits ≡ bits → told edition words heads ≡ heap
    → map (kept_by edition lent_heads (set_bits lent_bits)) xs ≡ map (settled_word heap.edition (live heap)) xs
settled-seen edition words heads bits counts lent_heads lent_bits heap xs tables same_heads same_bits view =
    ap (λ (hs : List ℕ). map (kept_by edition hs (set_bits lent_bits)) xs) same_heads
    ∙ ap (λ (bs : List ℕ). map (kept_by edition heads (set_bits bs)) xs) same_bits
    ∙ settled-all-by edition words heads bits counts tables xs
    ∙ ap (λ (h : Heap). map (settled_word h.edition (live h)) xs) view
