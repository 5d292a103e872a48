-- The queue of the objects that were met.
use Rattle.std.proofs.Common.{◌≡◌, ℕ, zero, suc, ◌-◌, ◌^◌, ◌<◌, ◌==◌, ◌&&◌, ◌⊎◌, Bool, true, false, not, cond, eqb, leb, List, [], ◌∷◌, ◌++◌, Some, None, inl, inr, length, get_or, fold, refl, sym, ap, subst, ◌∙◌, arith, length-append}
use Rattle.std.specs.List.{IsDistinct}
use Rattle.std.specs.Cmp.{nat_eq_equiv}
use Rattle.std.proofs.lemmas.Bool.{eq-eqb, eqb-true, or_cases, or_left, or_right, and_parts}
use Rattle.std.proofs.lemmas.List.Folds.{list_any-append}
use Rattle.std.proofs.lemmas.List.{get_or_append_left}
use Rattle.std.proofs.lemmas.Map.Keys.{IsDistinct-push}
use Rattle.heap_layout.specs.Bits.{bit}
use Rattle.reachability.specs.Queue.{has, is_address, extended, after_word, AreUnmet, is_met}

-- tables of truth
kept-by : (b : Bool) → (b && not false) ≡ b
kept-by true = refl
kept-by false = refl

taken-out : (r h : Bool) → (h ≡ true → r ≡ true) → (r && not (r && not h)) ≡ h
taken-out true true of = refl
taken-out true false of = refl
taken-out false false of = refl
taken-out false true of = of refl

-- if a word leads to an object, the queue has it
abbrev pub IsMet : (ℕ → Bool) → List ℕ → ℕ → Type 0
IsMet row queue word = is_address row word ≡ true → has queue (word - 2 ^ 32) ≡ true

-- a list has its first element
pub has-first : (x : ℕ) (xs : List ℕ) → has (x ∷ xs) x ≡ true
has-first x xs = or_left (eqb x x) _ (eq-eqb x x refl)

-- and what the others have
pub has-later : (x y : ℕ) (xs : List ℕ) → has xs y ≡ true → has (x ∷ xs) y ≡ true
has-later x y xs there = or_right (eqb y x) _ there

-- what has one element more has all that was there
has-more : (xs : List ℕ) (x i : ℕ) → has xs i ≡ true → has (xs ++ x ∷ []) i ≡ true
has-more xs x i there = list_any-append (λ j. i == j) xs (x ∷ []) ∙ or_left _ _ there

-- and the new one
has-new : (xs : List ℕ) (x : ℕ) → has (xs ++ x ∷ []) x ≡ true
has-new xs x = list_any-append (λ j. x == j) xs (x ∷ []) ∙ or_right (has xs x) _ (has-first x [])

-- and nothing else
has-cases : (xs : List ℕ) (x i : ℕ) → has (xs ++ x ∷ []) i ≡ true → (has xs i ≡ true) ⊎ (i ≡ x)
has-cases xs x i there =
    elim (or_cases (has xs i) (has (x ∷ []) i) (sym (list_any-append (λ j. i == j) xs (x ∷ [])) ∙ there)) [
      | inl before ↦ inl before
      | inr new ↦ elim (or_cases (eqb i x) false new) [ inl same ↦ inr (eqb-true i x same) | inr none ↦ absurd (let no : false ≡ true = none in cc) ]
    ]

-- an element of a queue has a place there
pub place-of : (xs : List ℕ) (i : ℕ) → has xs i ≡ true → (k : ℕ) × (k < length xs) × (get_or xs k 0 ≡ i)
place-of [] i there = absurd (let no : false ≡ true = there in cc)
place-of (x ∷ xs) i there =
    elim (or_cases (eqb i x) (has xs i) there) [
      | inl here ↦ (0, omega arith, sym (eqb-true i x here))
      | inr later ↦ let at = place-of xs i later in let below = at.1 in (suc at.0, omega arith, at.2)
    ]

-- the element at a place is in the queue
pub has-at : (xs : List ℕ) (k : ℕ) → k < length xs → has xs (get_or xs k 0) ≡ true
has-at [] k within = absurd (omega arith)
has-at (x ∷ xs) zero within = has-first x xs
has-at (x ∷ xs) (suc k) within = has-later x _ xs (has-at xs k (omega arith))

-- ---- one word

-- A word was looked at: the queue stays, if it leads to no object or to one that was met; otherwise it has one more.
cases : (queue : List ℕ) (i : ℕ) (address met : Bool)
    → ((extended queue (cond (address && not met) (Some i) None) ≡ queue) × (address ≡ true → met ≡ true))
    ⊎ ((extended queue (cond (address && not met) (Some i) None) ≡ queue ++ i ∷ []) × (address ≡ true) × (met ≡ false))
cases queue i true true = inl (refl, λ is. refl)
cases queue i true false = inr (refl, refl, refl)
cases queue i false met = inl (refl, λ no. absurd (let none : false ≡ true = no in cc))

pub after-cases : (row : ℕ → Bool) (queue : List ℕ) (word : ℕ)
    → ((after_word row queue word ≡ queue) × IsMet row queue word)
    ⊎ ((after_word row queue word ≡ queue ++ (word - 2 ^ 32) ∷ []) × (is_address row word ≡ true) × (has queue (word - 2 ^ 32) ≡ false))
after-cases row queue word = cases queue (word - 2 ^ 32) (is_address row word) (has queue (word - 2 ^ 32))

-- the queue has what it had
kept-one : (row : ℕ → Bool) (queue : List ℕ) (word i : ℕ) → has queue i ≡ true → has (after_word row queue word) i ≡ true
kept-one row queue word i there =
    elim (after-cases row queue word) [
      | inl same ↦ rw same.0 there
      | inr more ↦ rw more.0 (has-more queue (word - 2 ^ 32) i there)
    ]

-- the word was met
met-one : (row : ℕ → Bool) (queue : List ℕ) (word : ℕ) → IsMet row (after_word row queue word) word
met-one row queue word leads =
    elim (after-cases row queue word) [
      | inl same ↦ rw same.0 (same.1 leads)
      | inr more ↦ rw more.0 (has-new queue (word - 2 ^ 32))
    ]

-- the first elements of the queue stay where they are
place-one : (row : ℕ → Bool) (queue : List ℕ) (word k : ℕ) → k < length queue
    → (k < length (after_word row queue word)) × (get_or (after_word row queue word) k 0 ≡ get_or queue k 0)
place-one row queue word k within =
    elim (after-cases row queue word) [
      | inl same ↦ rw same.0 (within, refl)
      | inr more ↦ rw more.0 (omega (arith, length-append queue ((word - 2 ^ 32) ∷ [])), get_or_append_left queue ((word - 2 ^ 32) ∷ []) 0 k within)
    ]

-- The queue has objects of the row, each once, of which P holds.
pub record IsQueue (row : ℕ → Bool) (P : ℕ → Type 0) (queue : List ℕ) : Type 0 where
  pub of_row : (i : ℕ) → has queue i ≡ true → row i ≡ true
  pub once : IsDistinct eqb queue
  pub holds : (i : ℕ) → has queue i ≡ true → P i

-- the empty queue
pub queue-none : (row : ℕ → Bool) (P : ℕ → Type 0) → IsQueue row P []
unfolding IsDistinct
queue-none row P = record { of_row = λ i no. absurd (let none : false ≡ true = no in cc); once = tt; holds = λ i no. absurd (let none : false ≡ true = no in cc) }

-- one object more
queue-more : (row : ℕ → Bool) (P : ℕ → Type 0) (queue : List ℕ) (x : ℕ) → IsQueue row P queue → row x ≡ true → has queue x ≡ false → P x → IsQueue row P (queue ++ x ∷ [])
queue-more row P queue x is start new holds = record {
  of_row = λ i there. elim (has-cases queue x i there) [ inl before ↦ is.of_row i before | inr same ↦ rw same start ];
  once = IsDistinct-push nat_eq_equiv queue x is.once new;
  holds = λ i there. elim (has-cases queue x i there) [ inl before ↦ is.holds i before | inr same ↦ subst P (sym same) holds ];
}

queue-one : (row : ℕ → Bool) (P : ℕ → Type 0) (queue : List ℕ) (word : ℕ) → IsQueue row P queue → (is_address row word ≡ true → P (word - 2 ^ 32)) → IsQueue row P (after_word row queue word)
queue-one row P queue word is leads =
    elim (after-cases row queue word) [
      | inl same ↦ rw same.0 is
      | inr more ↦ rw more.0 (queue-more row P queue (word - 2 ^ 32) is (and_parts (leb (2 ^ 32) word) (row (word - 2 ^ 32)) more.1).1 more.2 (leads more.1))
    ]

-- ---- some words

pub kept : (row : ℕ → Bool) (queue words : List ℕ) (i : ℕ) → has queue i ≡ true → has (fold (after_word row) queue words) i ≡ true
kept row queue [] i there = there
kept row queue (word ∷ words) i there = kept row (after_word row queue word) words i (kept-one row queue word i there)

pub places : (row : ℕ → Bool) (queue words : List ℕ) (k : ℕ) → k < length queue
    → (k < length (fold (after_word row) queue words)) × (get_or (fold (after_word row) queue words) k 0 ≡ get_or queue k 0)
places row queue [] k within = (within, refl)
places row queue (word ∷ words) k within =
    let one = place-one row queue word k within in
    let all = places row (after_word row queue word) words k one.0 in
    (all.0, all.1 ∙ one.1)

pub met : (row : ℕ → Bool) (queue words : List ℕ) (word : ℕ) → has words word ≡ true → IsMet row (fold (after_word row) queue words) word
met row queue [] word there leads = absurd (let no : false ≡ true = there in cc)
met row queue (first ∷ words) word there leads =
    elim (or_cases (eqb word first) (has words word) there) [
      | inl same ↦
          let here : word ≡ first = eqb-true word first same in
          kept row (after_word row queue first) words (word - 2 ^ 32) (rw here (met-one row queue first (ap (is_address row) (sym here) ∙ leads)))
      | inr later ↦ met row (after_word row queue first) words word later leads
    ]

pub queue-all : (row : ℕ → Bool) (P : ℕ → Type 0) (queue words : List ℕ) → IsQueue row P queue
    → ((word : ℕ) → has words word ≡ true → is_address row word ≡ true → P (word - 2 ^ 32)) → IsQueue row P (fold (after_word row) queue words)
queue-all row P queue [] is leads = is
queue-all row P queue (word ∷ words) is leads =
    queue-all row P (after_word row queue word) words (queue-one row P queue word is (leads word (has-first word words)))
    (λ other there. leads other (has-later word other words there))

-- ---- the objects that were not met

-- before the first
pub unmet-first : (row : List ℕ) → AreUnmet row [] row
unmet-first row i = sym (kept-by (bit row i))

-- what was met is in the queue
pub met-had : (row queue unmet : List ℕ) (i : ℕ) → AreUnmet row queue unmet → (has queue i ≡ true → bit row i ≡ true) → is_met row unmet i ≡ has queue i
met-had row queue unmet i are of_row = ap (λ (b : Bool). bit row i && not b) (are i) ∙ taken-out (bit row i) (has queue i) of_row
