-- Rows, and the objects that were looked at by them.
use Rattle.std.proofs.Common.{◌≡◌, ℕ, zero, suc, ◌+◌, ◌-◌, ◌<◌, ◌≤◌, ◌⊎◌, true, List, [], ◌∷◌, ◌++◌, length, get_or, take, drop, inl, inr, refl, sym, ap, subst, ◌∙◌, arith, length-take, length-drop}
use Rattle.std.proofs.Math.ListN.{drop_of_length-le}
use Rattle.std.proofs.lemmas.Bool.{cases_lt}
use Rattle.std.proofs.lemmas.List.{drop-drop, get_or-take, get_or-drop, take_more}
use Rattle.std.proofs.lemmas.List.Sums.{fold-append}
use Rattle.heap_layout.specs.declared.edition.Edition.{Edition}
use Rattle.heap_layout.specs.Bits.{bit}
use Rattle.heap_layout.specs.Header.{size_of}
use Rattle.heap_layout.specs.Heap.{header_at, object_at}
use Rattle.rest_marks.specs.LookFaults.{IsAfterRows, IsWordOfRows}
use Rattle.rest_marks.specs.Looks.{met_by, met_by_rows, row_size, rows_from, rows_of, AreLookedAt, AreRowsAt, IsAt}

-- ---- the rows

-- as much fuel as there are words is enough
rows-same : (e : Edition) (f g : ℕ) (words : List ℕ) → length words ≤ f → length words ≤ g → rows_from e f words ≡ rows_from e g words
rows-same e zero zero words few_f few_g = refl
rows-same e zero (suc g) [] few_f few_g = refl
rows-same e zero (suc g) (word ∷ words) few_f few_g = absurd (omega (arith, few_f))
rows-same e (suc f) zero [] few_f few_g = refl
rows-same e (suc f) zero (word ∷ words) few_f few_g = absurd (omega (arith, few_g))
rows-same e (suc f) (suc g) [] few_f few_g = refl
rows-same e (suc f) (suc g) (word ∷ words) few_f few_g =
    let rest = drop (row_size e word) (word ∷ words) in
    let long = length-drop (row_size e word) (word ∷ words) in
    ap (λ (rows : List (List ℕ)). take (row_size e word) (word ∷ words) ∷ rows) (rows-same e f g rest (omega (arith, long, few_f)) (omega (arith, long, few_g)))

drop-long : {A : Type 0} → (n : ℕ) (xs : List A) → drop (length (take n xs)) xs ≡ drop n xs
drop-long zero xs = refl
drop-long (suc n) [] = refl
drop-long (suc n) (x ∷ xs) = drop-long n xs

-- the first row, and those behind it
rows-cons : (e : Edition) (words : List ℕ) → 0 < length words
    → rows_of e words ≡ take (row_size e (get_or words 0 0)) words ∷ rows_of e (drop (length (take (row_size e (get_or words 0 0)) words)) words)
rows-cons e [] some = absurd (omega (arith, some))
rows-cons e (word ∷ words) some =
    let size = row_size e word in
    let rest = drop size (word ∷ words) in
    ap (λ (rows : List (List ℕ)). take size (word ∷ words) ∷ rows)
    (rows-same e (length words) (length rest) rest (omega (arith, length-drop size (word ∷ words))) (omega arith) ∙ ap (rows_of e) (sym (drop-long size (word ∷ words))))

-- the row at this place, and those behind it
pub rows-next : (e : Edition) (words row : List ℕ) (at : ℕ) → at < length words → row ≡ take (row_size e (get_or words at 0)) (drop at words)
    → rows_of e (drop at words) ≡ row ∷ rows_of e (drop (at + length row) words)
rows-next e words row at inside is =
    let some : 0 < length (drop at words) = omega (arith, length-drop at words, inside) in
    let first : get_or (drop at words) 0 0 ≡ get_or words at 0 = (let none : at + 0 ≡ at = omega arith in get_or-drop at words 0 0 ∙ ap (λ (n : ℕ). get_or words n 0) none) in
    let cut = rows-cons e (drop at words) some in
    let by_word = subst (λ (w : ℕ). rows_of e (drop at words) ≡ take (row_size e w) (drop at words) ∷ rows_of e (drop (length (take (row_size e w) (drop at words))) (drop at words))) first cut in
    let by_row = subst (λ (r : List ℕ). rows_of e (drop at words) ≡ r ∷ rows_of e (drop (length r) (drop at words))) (sym is) by_word in
    by_row ∙ ap (λ (xs : List ℕ). row ∷ rows_of e xs) (drop-drop (length row) at words)

-- what is known of the rows where the first k of them were taken
pub record IsRowAt (e : Edition) (words row : List ℕ) (at k : ℕ) : Type 0 where
  pub inside : k < length (rows_of e words)
  pub is : get_or (rows_of e words) k [] ≡ row
  pub left : drop (k + 1) (rows_of e words) ≡ rows_of e (drop (at + length row) words)

pub row-at : (e : Edition) (words row : List ℕ) (at k : ℕ) → at < length words → row ≡ take (row_size e (get_or words at 0)) (drop at words)
    → drop k (rows_of e words) ≡ rows_of e (drop at words) → IsRowAt e words row at k
row-at e words row at k inside is left =
    let rows = rows_of e words in
    let rest = rows_of e (drop (at + length row) words) in
    let next : drop k rows ≡ row ∷ rest = left ∙ rows-next e words row at inside is in
    let here : k + 0 ≡ k = omega arith in
    record {
      inside = omega (arith, length-drop k rows, ap (λ (xs : List (List ℕ)). length xs) next);
      is = ap (λ (n : ℕ). get_or rows n []) (sym here) ∙ sym (get_or-drop k rows 0 []) ∙ ap (λ (xs : List (List ℕ)). get_or xs 0 []) next;
      left = sym (drop-drop 1 k rows) ∙ ap (λ (xs : List (List ℕ)). drop 1 xs) next;
    }

-- all rows were taken
pub rows-all : (e : Edition) (words : List ℕ) (at k : ℕ) → length words ≤ at → k ≤ length (rows_of e words) → drop k (rows_of e words) ≡ rows_of e (drop at words) → k ≡ length (rows_of e words)
rows-all e words at k end few left =
    let rows = rows_of e words in
    let none : drop k rows ≡ [] = left ∙ ap (rows_of e) (drop_of_length-le words end) in
    omega (arith, few, length-drop k rows, ap (λ (xs : List (List ℕ)). length xs) none)

-- ---- the objects

-- What is known where the objects of the first k rows were looked at.
pub record AreTaken (e : Edition) (count : ℕ) (old queue : List ℕ) (first k : ℕ) (rows : List (List ℕ)) (old_heads old_bits heads bits : List ℕ) : Type 0 where
  pub met : queue ≡ met_by_rows e count old (take k rows)
  pub stay : (l : ℕ) → l < length old → get_or queue l 0 ≡ get_or old l 0
  pub looked : (words : List ℕ) → length words ≡ count → AreRowsAt words queue first (take k rows) → AreLookedAt e words old first old_heads old_bits → AreLookedAt e words queue (first + k) heads bits
  pub set : (j : ℕ) → bit old_bits j ≡ true → bit bits j ≡ true
  pub words : (j : ℕ) → IsWordOfRows e queue first rows k j → bit bits j ≡ true
  pub only : (j : ℕ) → bit bits j ≡ true → (bit old_bits j ≡ true) ⊎ IsWordOfRows e queue first rows k j

-- What was done with the object at index i by its row.
pub record IsTaken (e : Edition) (count : ℕ) (row queue new : List ℕ) (i : ℕ) (heads bits new_heads new_bits : List ℕ) : Type 0 where
  pub met : new ≡ met_by count queue (object_at e row 0).references
  pub stay : (k : ℕ) → k < length queue → (k < length new) × (get_or new k 0 ≡ get_or queue k 0)
  pub looked : (words : List ℕ) (next : ℕ) → length words ≡ count → next < length queue → get_or queue next 0 ≡ i → IsAt words i row
      → AreLookedAt e words queue next heads bits → AreLookedAt e words new (next + 1) new_heads new_bits
  pub set : (j : ℕ) → bit bits j ≡ true → bit new_bits j ≡ true
  pub words : (j : ℕ) → i ≤ j → j < i + size_of (header_at e row 0) → bit new_bits j ≡ true
  pub only : (j : ℕ) → bit new_bits j ≡ true → (bit bits j ≡ true) ⊎ ((i ≤ j) × (j < i + size_of (header_at e row 0)))

pub taken-none : (e : Edition) (count : ℕ) (old : List ℕ) (first : ℕ) (rows : List (List ℕ)) (heads bits : List ℕ) → AreTaken e count old old first 0 rows heads bits heads bits
taken-none e count old first rows heads bits = record {
  met = refl;
  stay = λ l lt. refl;
  looked = λ words counted at are. (let none : first ≡ first + 0 = omega arith in subst (λ (n : ℕ). AreLookedAt e words old n heads bits) none are);
  set = λ j set. set;
  words = λ j of. absurd (omega (arith, of.1));
  only = λ j set. inl set;
}

module _ (e : Edition) (count : ℕ) (old queue new : List ℕ) (first k : ℕ) (rows : List (List ℕ)) (row : List ℕ) (i : ℕ)
    (old_heads old_bits heads bits new_heads new_bits : List ℕ) (inside : first + k < length queue) (here : get_or queue (first + k) 0 ≡ i)
    (is_row : get_or rows k [] ≡ row) (more : k < length rows) (long : length old ≤ length queue)
    (were : AreTaken e count old queue first k rows old_heads old_bits heads bits) (one : IsTaken e count row queue new i heads bits new_heads new_bits) where
  before : (l : ℕ) → l ≤ k → get_or new (first + l) 0 ≡ get_or queue (first + l) 0
  before l le = (one.stay (first + l) (omega (arith, le, inside))).1

  taken-looked : (words : List ℕ) → length words ≡ count → AreRowsAt words new first (take (k + 1) rows) → AreLookedAt e words old first old_heads old_bits
      → AreLookedAt e words new (first + (k + 1)) new_heads new_bits
  taken-looked words counted at are =
      let long_k : length (take k rows) ≡ k = omega (arith, length-take k rows, more) in
      let long_more : length (take (k + 1) rows) ≡ k + 1 = omega (arith, length-take (k + 1) rows, more) in
      let at_old : (l : ℕ) → l < k + 1 → IsAt words (get_or queue (first + l) 0) (get_or rows l []) =
      λ l lt.
      subst (λ (m : ℕ). IsAt words m (get_or rows l [])) (before l (omega (arith, lt)))
      (subst (IsAt words (get_or new (first + l) 0)) (get_or-take (k + 1) rows l [] lt) (at l (omega (arith, lt, long_more)))) in
      let those : AreRowsAt words queue first (take k rows) =
      λ l lt.
      let few : l < k = omega (arith, lt, long_k) in
      subst (IsAt words (get_or queue (first + l) 0)) (sym (get_or-take k rows l [] few)) (at_old l (omega (arith, few))) in
      let this : IsAt words i row = subst (λ (m : ℕ). IsAt words m row) here (subst (IsAt words (get_or queue (first + k) 0)) is_row (at_old k (omega arith))) in
      let next : first + k + 1 ≡ first + (k + 1) = omega arith in
      subst (λ (n : ℕ). AreLookedAt e words new n new_heads new_bits) next (one.looked words (first + k) counted inside here this (were.looked words counted those are))

  taken-next : AreTaken e count old new first (k + 1) rows old_heads old_bits new_heads new_bits
  taken-next = record {
    met =
        let step = λ (met row : List ℕ). met_by count met (object_at e row 0).references in
        one.met ∙ ap (λ (xs : List ℕ). met_by count xs (object_at e row 0).references) were.met
        ∙ sym (ap (λ (rs : List (List ℕ)). met_by_rows e count old rs) (take_more rows k [] more ∙ ap (λ (r : List ℕ). take k rows ++ r ∷ []) is_row)
        ∙ fold-append step old (take k rows) (row ∷ []));
    stay = λ l lt. (one.stay l (omega (arith, lt, long))).1 ∙ were.stay l lt;
    looked = taken-looked;
    set = λ j set. one.set j (were.set j set);
    words = λ j of. elim (cases_lt of.0 k) [
      | inl earlier ↦ one.set j (were.words j (of.0, earlier, omega (arith, of.2, before of.0 (omega (arith, earlier))), omega (arith, of.3, before of.0 (omega (arith, earlier)))))
      | inr last ↦
          let this : of.0 ≡ k = omega (arith, last, of.1) in
          let place : get_or new (first + of.0) 0 ≡ i = before of.0 (omega (arith, this)) ∙ ap (λ (n : ℕ). get_or queue (first + n) 0) this ∙ here in
          let same : size_of (header_at e (get_or rows of.0 []) 0) ≡ size_of (header_at e row 0) = ap (λ (r : List ℕ). size_of (header_at e r 0)) (ap (λ (n : ℕ). get_or rows n []) this ∙ is_row) in
          one.words j (omega (arith, of.2, place)) (omega (arith, of.3, place, same))
    ];
    only = λ j set. elim (one.only j set) [
      | inl had ↦ elim (were.only j had) [
        | inl old_one ↦ inl old_one
        | inr of ↦ inr (of.0, omega (arith, of.1), omega (arith, of.2, before of.0 (omega (arith, of.1))), omega (arith, of.3, before of.0 (omega (arith, of.1))))
      ]
      | inr this ↦
          let place : get_or new (first + k) 0 ≡ i = before k (omega arith) ∙ here in
          let same : size_of (header_at e (get_or rows k []) 0) ≡ size_of (header_at e row 0) = ap (λ (r : List ℕ). size_of (header_at e r 0)) is_row in
          inr (k, omega arith, omega (arith, this.0, place), omega (arith, this.1, place, same))
    ];
  }

pub taken-more : (e : Edition) (count : ℕ) (old queue new : List ℕ) (first k : ℕ) (rows : List (List ℕ)) (row : List ℕ) (i : ℕ) (old_heads old_bits heads bits new_heads new_bits : List ℕ)
    → first + k < length queue → get_or queue (first + k) 0 ≡ i → get_or rows k [] ≡ row → k < length rows → length old ≤ length queue
    → AreTaken e count old queue first k rows old_heads old_bits heads bits → IsTaken e count row queue new i heads bits new_heads new_bits
    → AreTaken e count old new first (k + 1) rows old_heads old_bits new_heads new_bits
taken-more e count old queue new first k rows row i old_heads old_bits heads bits new_heads new_bits inside here is_row more long were one =
    taken-next e count old queue new first k rows row i old_heads old_bits heads bits new_heads new_bits inside here is_row more long were one

-- what keeps its places is no shorter
pub longer : (old queue new : List ℕ) → length old ≤ length queue → ((k : ℕ) → k < length queue → (k < length new) × (get_or new k 0 ≡ get_or queue k 0)) → length old ≤ length new
longer old queue new long stay = elim (cases_lt 0 (length old)) [
  | inl some ↦ (let last = (stay (length old - 1) (omega (arith, some, long))).0 in omega (arith, last, some))
  | inr none ↦ omega (arith, none)
]

-- what a marking is where the objects of the first k rows were looked at
pub taken-after : (e : Edition) (count : ℕ) (old queue : List ℕ) (first next k : ℕ) (rows : List (List ℕ)) (old_heads old_bits heads bits : List ℕ) → next ≡ first + k
    → AreTaken e count old queue first k rows old_heads old_bits heads bits
    → IsAfterRows (record { edition = e; count = count; met = old; looked = first; heads = old_heads; bits = old_bits }) rows k
    (record { edition = e; count = count; met = queue; looked = next; heads = heads; bits = bits })
taken-after e count old queue first next k rows old_heads old_bits heads bits is were = record {
  edition = refl;
  count = refl;
  met = were.met;
  looked = is;
  set = were.set;
  words = were.words;
  only = were.only;
}
