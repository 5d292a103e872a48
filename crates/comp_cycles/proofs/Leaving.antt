-- The words of an object after only some objects were kept: a weak word that leads to none of them becomes null, all
-- other words stay.
use Rattle.std.proofs.Common.{◌≡◌, ℕ, zero, suc, ◌+◌, ◌<◌, ◌≤◌, ◌&&◌, ◌||◌, Bool, true, false, cond, eqb, leb, ltb, List, [], ◌∷◌, length, get_or, refl, sym, ap, ◌∙◌, ⊎_elim, arith, eq-eqb, ne_eqb, le-leb}
use Rattle.std.proofs.lemmas.Bool.{cases_Bool, and_from, and_parts, leb-true, ltb-true, lt-ltb, or_left, or_right, or_from}
use mathlib.Core.Option.{some, some-injective, some-ne-none}
use lib.ListN.{get_elem?}
use Rattle.heap_layout.specs.Header.{Head}
use Rattle.heap_layout.specs.Values.{is_immediate}
use Rattle.heap_layout.specs.Kinds.{first_of}
use Rattle.heap_layout.specs.declared.kind.Kind.TheVariants.{Weak, Data}
use Rattle.comp_cycles.specs.Stable.{is_among, left_word, left_words}

-- ---- whether a number is in a list

pub among_is : (numbers : List ℕ) (n i : ℕ) → get_elem? numbers i ≡ some n → is_among numbers n ≡ true
among_is [] n i e = absurd (some-ne-none n (sym e))
among_is (m ∷ numbers) n zero e = or_left (eqb m n) (is_among numbers n) (eq-eqb m n (some-injective m n e))
among_is (m ∷ numbers) n (suc i) e = or_right (eqb m n) (is_among numbers n) (among_is numbers n i e)

pub none_among : (numbers : List ℕ) (n : ℕ) → ((i : ℕ) → get_elem? numbers i ≡ some n → ⊥) → is_among numbers n ≡ false
none_among [] n none = refl
none_among (m ∷ numbers) n none = or_from (eqb m n) (is_among numbers n) (ne_eqb m n (λ same. none 0 (ap some same))) (none_among numbers n (λ i e. none (suc i) e))

-- ---- one word

abbrev range : Head → ℕ → Bool
range header at = leb (first_of Weak header) at && ltb at (first_of Data header)

-- a word that is not a weak word stays
pub left_other : (header : Head) (objects : List ℕ) (at word : ℕ) → (first_of Weak header ≤ at → first_of Data header ≤ at) → left_word header objects at word ≡ word
left_other header objects at word behind = ⊎_elim
    (λ (is : range header at ≡ true).
    let parts = and_parts (leb (first_of Weak header) at) (ltb at (first_of Data header)) is in
    let low = leb-true (first_of Weak header) at parts.0 in
    let high = ltb-true at (first_of Data header) parts.1 in
    let past = behind low in absurd (omega (arith, high, past)))
    (λ (is : range header at ≡ false). ap (λ t. cond t (cond (is_immediate header.edition word || is_among objects word) word 0) word) is)
    (cases_Bool (range header at))

-- a weak word stays if it is an immediate or leads to a kept object, and becomes null if not
pub left_weak : (header : Head) (objects : List ℕ) (at word : ℕ) → first_of Weak header ≤ at → at < first_of Data header → left_word header objects at word
    ≡ cond (is_immediate header.edition word || is_among objects word) word 0
left_weak header objects at word low high =
    ap (λ t. cond t (cond (is_immediate header.edition word || is_among objects word) word 0) word)
    (and_from (leb (first_of Weak header) at) (ltb at (first_of Data header)) (le-leb (first_of Weak header) at low) (lt-ltb at (first_of Data header) high))

-- ---- all words

pub left_long : (header : Head) (objects : List ℕ) (at : ℕ) (words : List ℕ) → length (left_words header objects at words) ≡ length words
left_long header objects at [] = refl
left_long header objects at (word ∷ words) = ap suc (left_long header objects (at + 1) words)

pub left_at : (header : Head) (objects : List ℕ) (at : ℕ) (words : List ℕ) (k : ℕ) → k < length words
    → get_or (left_words header objects at words) k 0 ≡ left_word header objects (at + k) (get_or words k 0)
left_at header objects at [] k lt = absurd (omega (arith, lt))
left_at header objects at (word ∷ words) zero lt = ap (λ i. left_word header objects i word) (let z : at ≡ at + 0 = omega arith in z)
left_at header objects at (word ∷ words) (suc k) lt =
    left_at header objects (at + 1) words k (omega (arith, lt))
    ∙ ap (λ i. left_word header objects i (get_or words k 0)) (let z : at + 1 + k ≡ at + suc k = omega arith in z)
