-- Objects at which a lane looked by rows.
use Rattle.std.proofs.Common.{◌≡◌, ℕ, ◌+◌, ◌<◌, ◌≤◌, ◌⊎◌, true, List, [], length, get_or, take, inl, inr, refl, sym, ap, subst, ◌∙◌, arith, length-take}
use Rattle.std.proofs.lemmas.Bool.{cases_lt}
use Rattle.std.proofs.lemmas.List.{get_or-take}
use Rattle.heap_layout.specs.declared.edition.Edition.{Edition}
use Rattle.heap_layout.specs.Bits.{bit}
use Rattle.heap_layout.specs.Header.{size_of}
use Rattle.heap_layout.specs.Heap.{header_at, object_at}
use Rattle.rest_marks.specs.Lanes.{laned, IsLaneAfterRows, IsLedTo, IsLedToByRows, IsTold}
use Rattle.rest_marks.specs.LookFaults.{IsWordOfRows}
use Rattle.rest_marks.specs.Looks.{AreLookedAt, AreRowsAt, IsAt}
use Rattle.rest_marks.proofs.Laned.{told-none, told-then, told-wide}

-- What is known where a lane looked at the objects of the first k rows.
pub record AreLaneTaken (e : Edition) (count : ℕ) (old queue : List ℕ) (first k : ℕ) (rows : List (List ℕ)) (old_known old_bits known bits : List ℕ) : Type 0 where
  pub told : IsTold (IsLedToByRows e count rows k) old old_known queue known
  pub looked : (words : List ℕ) → length words ≡ count → AreRowsAt words queue first (take k rows) → AreLookedAt e words old first old_known old_bits → AreLookedAt e words queue (first + k) known bits
  pub set : (j : ℕ) → bit old_bits j ≡ true → bit bits j ≡ true
  pub words : (j : ℕ) → IsWordOfRows e queue first rows k j → bit bits j ≡ true
  pub only : (j : ℕ) → bit bits j ≡ true → (bit old_bits j ≡ true) ⊎ IsWordOfRows e queue first rows k j

-- What was done with the object at index i by its row.
pub record IsLaneTaken (e : Edition) (count : ℕ) (row queue new : List ℕ) (i : ℕ) (known bits new_known new_bits : List ℕ) : Type 0 where
  pub told : IsTold (IsLedTo count (object_at e row 0).references) queue known new new_known
  pub looked : (words : List ℕ) (next : ℕ) → length words ≡ count → next < length queue → get_or queue next 0 ≡ i → IsAt words i row
      → AreLookedAt e words queue next known bits → AreLookedAt e words new (next + 1) new_known new_bits
  pub set : (j : ℕ) → bit bits j ≡ true → bit new_bits j ≡ true
  pub words : (j : ℕ) → i ≤ j → j < i + size_of (header_at e row 0) → bit new_bits j ≡ true
  pub only : (j : ℕ) → bit new_bits j ≡ true → (bit bits j ≡ true) ⊎ ((i ≤ j) × (j < i + size_of (header_at e row 0)))

pub lane-taken-none : (e : Edition) (count : ℕ) (old : List ℕ) (first : ℕ) (rows : List (List ℕ)) (known bits : List ℕ) → AreLaneTaken e count old old first 0 rows known bits known bits
lane-taken-none e count old first rows known bits = record {
  told = told-none (IsLedToByRows e count rows 0) old known;
  looked = λ words counted at are. (let none : first ≡ first + 0 = omega arith in subst (λ (n : ℕ). AreLookedAt e words old n known bits) none are);
  set = λ j set. set;
  words = λ j of. absurd (omega (arith, of.1));
  only = λ j set. inl set;
}

module _ (e : Edition) (count : ℕ) (old queue new : List ℕ) (first k : ℕ) (rows : List (List ℕ)) (row : List ℕ) (i : ℕ)
    (old_known old_bits known bits new_known new_bits : List ℕ) (inside : first + k < length queue) (here : get_or queue (first + k) 0 ≡ i)
    (is_row : get_or rows k [] ≡ row) (more : k < length rows)
    (were : AreLaneTaken e count old queue first k rows old_known old_bits known bits) (one : IsLaneTaken e count row queue new i known bits new_known new_bits) where
  before : (l : ℕ) → l ≤ k → get_or new (first + l) 0 ≡ get_or queue (first + l) 0
  before l le = (one.told.stay (first + l) (omega (arith, le, inside))).1

  taken-looked : (words : List ℕ) → length words ≡ count → AreRowsAt words new first (take (k + 1) rows) → AreLookedAt e words old first old_known old_bits
      → AreLookedAt e words new (first + (k + 1)) new_known new_bits
  taken-looked words counted at are =
      let long_k : length (take k rows) ≡ k = omega (arith, length-take k rows, more) in
      let long_more : length (take (k + 1) rows) ≡ k + 1 = omega (arith, length-take (k + 1) rows, more) in
      let at_old : (l : ℕ) → l < k + 1 → IsAt words (get_or queue (first + l) 0) (get_or rows l []) =
      λ l lt.
      subst (λ (m : ℕ). IsAt words m (get_or rows l [])) (before l (omega (arith, lt)))
      (subst (IsAt words (get_or new (first + l) 0)) (get_or-take (k + 1) rows l [] lt) (at l (omega (arith, lt, long_more)))) in
      let those : AreRowsAt words queue first (take k rows) =
      λ l lt.
      let few : l < k = omega (arith, lt, long_k) in
      subst (IsAt words (get_or queue (first + l) 0)) (sym (get_or-take k rows l [] few)) (at_old l (omega (arith, few))) in
      let this : IsAt words i row = subst (λ (m : ℕ). IsAt words m row) here (subst (IsAt words (get_or queue (first + k) 0)) is_row (at_old k (omega arith))) in
      let next : first + k + 1 ≡ first + (k + 1) = omega arith in
      subst (λ (n : ℕ). AreLookedAt e words new n new_known new_bits) next (one.looked words (first + k) counted inside here this (were.looked words counted those are))

  taken-told : IsTold (IsLedToByRows e count rows (k + 1)) old old_known new new_known
  taken-told =
      let led = IsLedToByRows e count rows (k + 1) in
      told-then led old old_known queue known new new_known
      (told-wide (IsLedToByRows e count rows k) led old old_known queue known (λ n of. (of.0, omega (arith, of.1), of.2)) were.told)
      (told-wide (IsLedTo count (object_at e row 0).references) led queue known new new_known
      (λ n of. (k, omega arith, subst (λ (r : List ℕ). IsLedTo count (object_at e r 0).references n) (sym is_row) of)) one.told)

  taken-next : AreLaneTaken e count old new first (k + 1) rows old_known old_bits new_known new_bits
  taken-next = record {
    told = taken-told;
    looked = taken-looked;
    set = λ j set. one.set j (were.set j set);
    words = λ j of. elim (cases_lt of.0 k) [
      | inl earlier ↦ one.set j (were.words j (of.0, earlier, omega (arith, of.2, before of.0 (omega (arith, earlier))), omega (arith, of.3, before of.0 (omega (arith, earlier)))))
      | inr last ↦
          let this : of.0 ≡ k = omega (arith, last, of.1) in
          let place : get_or new (first + of.0) 0 ≡ i = before of.0 (omega (arith, this)) ∙ ap (λ (n : ℕ). get_or queue (first + n) 0) this ∙ here in
          let same : size_of (header_at e (get_or rows of.0 []) 0) ≡ size_of (header_at e row 0) = ap (λ (r : List ℕ). size_of (header_at e r 0)) (ap (λ (n : ℕ). get_or rows n []) this ∙ is_row) in
          one.words j (omega (arith, of.2, place)) (omega (arith, of.3, place, same))
    ];
    only = λ j set. elim (one.only j set) [
      | inl had ↦ elim (were.only j had) [
        | inl old_one ↦ inl old_one
        | inr of ↦ inr (of.0, omega (arith, of.1), omega (arith, of.2, before of.0 (omega (arith, of.1))), omega (arith, of.3, before of.0 (omega (arith, of.1))))
      ]
      | inr this ↦
          let place : get_or new (first + k) 0 ≡ i = before k (omega arith) ∙ here in
          let same : size_of (header_at e (get_or rows k []) 0) ≡ size_of (header_at e row 0) = ap (λ (r : List ℕ). size_of (header_at e r 0)) is_row in
          inr (k, omega arith, omega (arith, this.0, place), omega (arith, this.1, place, same))
    ];
  }

pub lane-taken-more : (e : Edition) (count : ℕ) (old queue new : List ℕ) (first k : ℕ) (rows : List (List ℕ)) (row : List ℕ) (i : ℕ) (old_known old_bits known bits new_known new_bits : List ℕ)
    → first + k < length queue → get_or queue (first + k) 0 ≡ i → get_or rows k [] ≡ row → k < length rows
    → AreLaneTaken e count old queue first k rows old_known old_bits known bits → IsLaneTaken e count row queue new i known bits new_known new_bits
    → AreLaneTaken e count old new first (k + 1) rows old_known old_bits new_known new_bits
lane-taken-more e count old queue new first k rows row i old_known old_bits known bits new_known new_bits inside here is_row more were one =
    taken-next e count old queue new first k rows row i old_known old_bits known bits new_known new_bits inside here is_row more were one

-- what a lane is where it looked at the objects of the first k rows
pub lane-taken-after : (e : Edition) (count : ℕ) (old queue : List ℕ) (first next k : ℕ) (rows : List (List ℕ)) (old_heads old_bits old_known heads bits known : List ℕ) → next ≡ first + k
    → AreLaneTaken e count old queue first k rows old_known old_bits known bits
    → IsLaneAfterRows (laned e count old first old_heads old_bits old_known) rows k (laned e count queue next heads bits known)
lane-taken-after e count old queue first next k rows old_heads old_bits old_known heads bits known is were = record {
  edition = refl;
  count = refl;
  looked = is;
  told = were.told;
  set = were.set;
  words = were.words;
  only = were.only;
}
