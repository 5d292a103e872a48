-- Words that move down within one memory, from low to high.
use Rattle.std.proofs.Common.{◌≡◌, ℕ, ◌+◌, ◌<◌, ◌≤◌, List, length, get_or, set, inl, inr, refl, sym, ap, ◌∙◌, arith, get_or-set_same, get_or-set_other}
use Rattle.std.proofs.lemmas.Bool.{cases_eq}
use Rattle.std.proofs.lemmas.List.{length-set}

-- The first k words of those from index `from` on stand at index `to` on, each made what f says; the others are as they
-- were.
pub record IsMoved (f : ℕ → ℕ) (old : List ℕ) (from to k : ℕ) (words : List ℕ) : Type 0 where
  pub long : length words ≡ length old
  pub moved : (j : ℕ) → j < k → get_or words (to + j) 0 ≡ f (get_or old (from + j) 0)
  pub before : (j : ℕ) → j < to → get_or words j 0 ≡ get_or old j 0
  pub behind : (j : ℕ) → to + k ≤ j → get_or words j 0 ≡ get_or old j 0

-- before the first word
pub moved-first : (f : ℕ → ℕ) (old : List ℕ) (from to : ℕ) → IsMoved f old from to 0 old
moved-first f old from to = record {
  long = refl;
  moved = λ j lt. absurd (omega (arith, lt));
  before = λ j lt. refl;
  behind = λ j le. refl;
}

-- one word more, which was not written over, since the words move down
pub moved-next : (f : ℕ → ℕ) (old : List ℕ) (from to k : ℕ) (words : List ℕ) (value : ℕ) → IsMoved f old from to k words → to ≤ from → to + k < length words
    → value ≡ f (get_or words (from + k) 0) → IsMoved f old from to (k + 1) (set words (to + k) value)
moved-next f old from to k words value is down room settled = record {
  long = length-set words (to + k) value ∙ is.long;
  moved = λ j lt. elim (cases_eq j k) [
    | inl same ↦
        ap (λ (n : ℕ). get_or (set words (to + k) value) (to + n) 0) same
        ∙ get_or-set_same words (to + k) value 0 room
        ∙ settled
        ∙ ap f (is.behind (from + k) (omega (arith, down)))
        ∙ ap (λ (n : ℕ). f (get_or old (from + n) 0)) (let back : k ≡ j = omega (arith, same) in back)
    | inr other ↦ get_or-set_other words (to + k) (to + j) value 0 (λ same. other (omega (arith, same))) ∙ is.moved j (omega (arith, lt, other))
  ];
  before = λ j lt. get_or-set_other words (to + k) j value 0 (λ same. omega (arith, same, lt)) ∙ is.before j lt;
  behind = λ j le. get_or-set_other words (to + k) j value 0 (λ same. omega (arith, same, le)) ∙ is.behind j (omega (arith, le));
}

-- one word more that stays where it is, since it is already what f makes of it
pub moved-stays : (f : ℕ → ℕ) (old : List ℕ) (from k : ℕ) (words : List ℕ) → IsMoved f old from from k words → f (get_or words (from + k) 0) ≡ get_or words (from + k) 0
    → IsMoved f old from from (k + 1) words
moved-stays f old from k words is stays = record {
  long = is.long;
  moved = λ j lt. elim (cases_eq j k) [
    | inl same ↦
        ap (λ (n : ℕ). get_or words (from + n) 0) same
        ∙ sym stays
        ∙ ap f (is.behind (from + k) (omega arith))
        ∙ ap (λ (n : ℕ). f (get_or old (from + n) 0)) (sym same)
    | inr other ↦ is.moved j (omega (arith, lt, other))
  ];
  before = is.before;
  behind = λ j le. is.behind j (omega (arith, le));
}
