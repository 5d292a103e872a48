-- Marks that are read one after the other.
use Rattle.std.proofs.Common.{◌≡◌, ℕ, ◌+◌, ◌^◌, ◌<◌, List, [], ◌∷◌, ◌++◌, length, Option, Some, None, Result, Ok, Err, refl, sym, ap, subst, ◌∙◌, arith, append_assoc, length-append, inl, inr, ne_eqb}
use Rattle.std.specs.Prelude.{option_and_then}
use Rattle.std.proofs.lemmas.Bool.{cases_lt, le-leb, lt-leb}
use Rattle.comp_trace.specs.Grammar.{clipped, number_of, parts}
use Rattle.comp_trace.specs.MarksText.{mark_before, mark_of, marks_from, short_number, MarkBefore}
use Rattle.comp_trace.proofs.Lines.{some_part}
use Rattle.comp_trace.proofs.LineForms.{all_digits}
use Rattle.comp_trace.proofs.Splits.{cut_at, digits_without, first_cut, uncut}

-- these marks, and then what was read after them
abbrev pub behind : List ℕ → Result (List ℕ) ℕ → Result (List ℕ) ℕ
behind front (Ok marks) = Ok (front ++ marks)
behind front (Err line) = Err line

regroup : (front : List ℕ) (n mark : ℕ) (read : Result (List ℕ) ℕ) → behind front (mark_before n (Some mark) read) ≡ behind (front ++ mark ∷ []) read
regroup front n mark (Ok marks) = ap (λ (ms : List ℕ). Ok ms) (sym (append_assoc front (mark ∷ []) marks))
regroup front n mark (Err line) = refl

-- if nothing was read before, what is read is the whole
pub at_first : (read : Result (List ℕ) ℕ) → read ≡ behind [] read
at_first (Ok marks) = refl
at_first (Err line) = refl

-- a mark before a line feed is the first line
mark_line : (text : List ℕ) (mark : ℕ) (rest : List ℕ) → MarkBefore text mark rest → (line : List ℕ) × (text ≡ line ++ 10 ∷ rest) × (parts 10 text ≡ line ∷ parts 10 rest) × (mark_of line ≡ Some mark)
mark_line text mark rest h =
    let line = h.1.0 in
    (line, h.1.1, ap (parts 10) h.1.1 ∙ cut_at 10 line rest (digits_without 10 line refl (all_digits line mark h.1.2)), ap (option_and_then short_number) h.1.2 ∙ rw (lt-leb (2 ^ 32) mark h.0) refl)

pub mark_less : (text : List ℕ) (mark : ℕ) (rest : List ℕ) → MarkBefore text mark rest → length rest < length text
mark_less text mark rest h = omega (arith, ap length h.1.1, length-append h.1.0 (10 ∷ rest))

-- a number that is not below 2 ^ 32 is no mark
pub large_mark : (k n mark : ℕ) → None ≡ short_number k → k ≡ clipped n → n ≡ mark → mark < 2 ^ 32 → ⊥
large_mark k n mark e is same lt = let small : k < 2 ^ 32 = omega (arith, is, same, lt) in none_apart k (e ∙ rw (lt-leb (2 ^ 32) k small) refl)
  where
    none_apart : (a : ℕ) → None ≡ Some a → ⊥
    none_apart a h = absurd cc

-- one more mark is read, and the marks after it
pub one_more : (n : ℕ) (text more front : List ℕ) (mark : ℕ) → MarkBefore text mark more → behind front (marks_from n (parts 10 text)) ≡ behind (front ++ mark ∷ []) (marks_from (n + 1) (parts 10 more))
one_more n text more front mark h =
    let line = mark_line text mark more h in
    let next = some_part 10 more in
    let read : marks_from n (parts 10 text) ≡ mark_before n (Some mark) (marks_from (n + 1) (parts 10 more)) = rw (line.2, next.2, line.3) refl in
    ap (behind front) read ∙ regroup front n mark (marks_from (n + 1) (parts 10 more))

-- a line that is a number of 32 bits is a mark
short_mark : (o : Option ℕ) (mark : ℕ) → option_and_then short_number o ≡ Some mark → (o ≡ Some mark) × (mark < 2 ^ 32)
short_mark None mark e = absurd cc
short_mark (Some n) mark e = elim (cases_lt n (2 ^ 32)) [
  | inl lt ↦ let same : n ≡ mark = inside n mark (sym (rw (lt-leb (2 ^ 32) n lt) refl) ∙ e) in (ap (λ (k : ℕ). Some k) same, subst (λ (k : ℕ). k < 2 ^ 32) same lt)
  | inr ge ↦ absurd (apart mark (sym (rw (le-leb (2 ^ 32) n ge) refl) ∙ e))
]
  where
    inside : (a b : ℕ) → Some a ≡ Some b → a ≡ b
    inside a b e = cc

    apart : (b : ℕ) → None ≡ Some b → ⊥
    apart b e = absurd cc

none_or : (o : Option ℕ) → ((mark : ℕ) → o ≡ Some mark → ⊥) → o ≡ None
none_or None f = refl
none_or (Some mark) f = absurd (f mark refl)

-- a text that does not begin with a mark is refused
pub one_refused : (n : ℕ) (text front : List ℕ) → 0 < length text → ((mark : ℕ) (rest : List ℕ) → MarkBefore text mark rest → ⊥) → behind front (marks_from n (parts 10 text)) ≡ Err n
one_refused n text front some none = elim (first_cut 10 text) [
  | inl without ↦ ap (λ (ps : List (List ℕ)). behind front (marks_from n ps)) (uncut 10 text without) ∙ ap (behind front) (last_refused n text some)
  | inr c ↦
      let next = some_part 10 c.1 in
      let there : parts 10 text ≡ c.0 ∷ parts 10 c.1 = ap (parts 10) c.2 ∙ cut_at 10 c.0 c.1 c.3 in
      let is : mark_of c.0 ≡ None = none_or (mark_of c.0) (λ mark e. let short = short_mark (number_of c.0) mark e in none mark c.1 (short.1, (c.0, c.2, short.0))) in
      let read : marks_from n (parts 10 text) ≡ Err n = rw (there, next.2, is) refl in
      ap (behind front) read
]
  where
    last_refused : (n : ℕ) (text : List ℕ) → 0 < length text → marks_from n (text ∷ []) ≡ Err n
    last_refused n text some = rw (ne_eqb (length text) 0 (λ e. omega (arith, e, some))) refl
