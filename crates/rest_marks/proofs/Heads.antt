-- The bits of the first words of live objects, and their indices.
use Rattle.std.proofs.Common.{◌≡◌, ℕ, zero, suc, ◌+◌, ◌-◌, ◌*◌, ◌<◌, ◌≤◌, ◌==◌, Bool, true, List, [], ◌∷◌, length, get_or, take, inl, inr, refl, sym, ap, subst, ◌∙◌, arith}
use Rattle.std.specs.List.{list_any, range_with_len}
use Rattle.std.proofs.lemmas.Bool.{cases_Bool, cases_lt, both_ways, eq-eqb, ne_eqb, or_left, or_right}
use Rattle.std.proofs.lemmas.List.{take_all}
use Rattle.std.proofs.lemmas.List.Elements.{filter_passes}
use Rattle.std.proofs.lemmas.List.Folds.{list_any_none}
use Rattle.heap_layout.specs.declared.edition.Edition.{Edition}
use Rattle.heap_layout.specs.Bits.{bit, leads}
use Rattle.heap_layout.specs.Header.{size_of}
use Rattle.heap_layout.specs.Heap.{Heap, header_at, live, is_target}
use Rattle.heap_layout.proofs.MarkBits.{leads-targets}
use Rattle.rest_marks.specs.Reached.{IsSound}
use Rattle.mark_tables.specs.MarkBitmap.{set_bits}
use Rattle.mark_tables.specs.LiveWords.{live_below}
use Rattle.page_plan.specs.Sliding.{live_words}
use Rattle.page_plan.proofs.Marks.{length-live}
use Rattle.rest_marks.proofs.BitsBelow.{mark-new_index}
use Rattle.reachability.proofs.Indices.{index-there}
use Rattle.reachability.proofs.Queues.{place-of}
use Rattle.reachability.proofs.Rising.{has-contained}
use Rattle.rest_marks.specs.Surveys.{marks_of, told, AreTables}
use Rattle.rest_marks.proofs.Bounding.{bit-inside}

-- a bit that is set is that of a live object
pub head-number : (heads : List ℕ) (i : ℕ) → bit heads i ≡ true → (k : ℕ) × (k < length (marks_of heads)) × (get_or (marks_of heads) k 0 ≡ i)
head-number heads i set =
    place-of (marks_of heads) i (has-contained (marks_of heads) i (index-there (bit heads) (64 * length heads) i (bit-inside heads i set) set))

-- the bit of a live object is set
pub mark-set : (heads : List ℕ) (k : ℕ) → k < length (marks_of heads) → bit heads (get_or (marks_of heads) k 0) ≡ true
mark-set heads k lt = filter_passes (bit heads) (range_with_len 0 (64 * length heads)) k 0 lt

-- a test that an element passes is passed by some element
pub any-at : (test : ℕ → Bool) (xs : List ℕ) (k : ℕ) → k < length xs → test (get_or xs k 0) ≡ true → list_any test xs ≡ true
any-at test [] k lt passes = absurd (omega arith)
any-at test (x ∷ xs) zero lt passes = or_left (test x) (list_any test xs) passes
any-at test (x ∷ xs) (suc k) lt passes = or_right (test x) (list_any test xs) (any-at test xs k (omega arith) passes)

heads-marked : (heads : List ℕ) (j : ℕ) → bit heads j ≡ list_any (λ mark. mark == j) (marks_of heads)
heads-marked heads j = elim (cases_Bool (bit heads j)) [
  | inl set ↦ (let at = head-number heads j set in set ∙ sym (any-at (λ mark. mark == j) (marks_of heads) at.0 at.1 (eq-eqb (get_or (marks_of heads) at.0 0) j at.2)))
  | inr unset ↦
      unset ∙ sym (list_any_none (λ mark. mark == j) (marks_of heads) (λ k d within.
      ne_eqb (get_or (marks_of heads) k d) j (λ same. both_ways (bit heads j) unset (sym (ap (bit heads) same) ∙ filter_passes (bit heads) (range_with_len 0 (64 * length heads)) k d within))))
]

-- what leads to a live object, by the bits and by their indices
pub heads-lead : (heads : List ℕ) → leads heads ≡ is_target (marks_of heads)
heads-lead heads =
    let n = length (marks_of heads) in
    leads-targets (marks_of heads) heads n (omega arith) (record {
      same = λ j. heads-marked heads j ∙ sym (ap (list_any (λ mark. mark == j)) (take_all n (marks_of heads) (omega arith)));
    })

-- the marks of a sound heap rise
pub marks-rise : (heap : Heap) → IsSound heap → (k n : ℕ) → k + suc n < length heap.marks → get_or heap.marks k 0 < get_or heap.marks (k + suc n) 0
marks-rise heap sound k zero lt =
    let one : k + 1 ≡ k + suc 0 = omega arith in
    let apart = sound.apart k (omega (arith, lt)) in
    subst (λ (m : ℕ). get_or heap.marks k 0 < get_or heap.marks m 0) one (omega (arith, apart))
marks-rise heap sound k (suc n) lt =
    let next : k + suc n + 1 ≡ k + suc (suc n) = omega arith in
    let apart = sound.apart (k + suc n) (omega (arith, lt)) in
    let before = marks-rise heap sound k n (omega (arith, lt)) in
    subst (λ (m : ℕ). get_or heap.marks k 0 < get_or heap.marks m 0) next (omega (arith, apart, before))

pub marks-above : (heap : Heap) → IsSound heap → (k l : ℕ) → k < l → l < length heap.marks → get_or heap.marks k 0 < get_or heap.marks l 0
marks-above heap sound k l order lt =
    let n = l - k - 1 in
    let at : k + suc n ≡ l = omega (arith, order) in
    subst (λ (m : ℕ). get_or heap.marks k 0 < get_or heap.marks m 0) at (marks-rise heap sound k n (omega (arith, at, lt)))

-- an object ends before the next one starts
pub marks-apart : (heap : Heap) → IsSound heap → (k l : ℕ) → k < l → l < length heap.marks
    → get_or heap.marks k 0 + size_of (header_at heap.edition heap.words (get_or heap.marks k 0)) ≤ get_or heap.marks l 0
marks-apart heap sound k l order lt =
    let apart = sound.apart k (omega (arith, order, lt)) in
    let far : get_or heap.marks (k + 1) 0 ≤ get_or heap.marks l 0 =
    elim (cases_lt (k + 1) l) [
      | inl more ↦ (let above = marks-above heap sound (k + 1) l more lt in omega (arith, above))
      | inr same ↦ (let e : k + 1 ≡ l = omega (arith, order, same) in omega (arith, ap (λ (m : ℕ). get_or heap.marks m 0) e))
    ] in
    omega (arith, apart, far)

-- the live words below a live object
pub head-below : (edition : Edition) (words heads bits counts : List ℕ) → AreTables edition words heads bits counts → (k : ℕ) → k < length (marks_of heads)
    → live_below (set_bits bits) (get_or (marks_of heads) k 0) ≡ live_words (take k (live (told edition words heads)))
head-below edition words heads bits counts tables k lt =
    mark-new_index (told edition words heads) tables.sound k lt (set_bits bits) tables.indices (get_or (marks_of heads) k 0) refl

-- all live words
pub all-words : (edition : Edition) (words heads bits counts : List ℕ) → AreTables edition words heads bits counts
    → length (set_bits bits) ≡ live_words (live (told edition words heads))
all-words edition words heads bits counts tables = ap length tables.indices ∙ length-live (live (told edition words heads))
