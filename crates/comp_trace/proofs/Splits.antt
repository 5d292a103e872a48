-- Texts that are split at a byte.
use Rattle.std.proofs.Common.{◌≡◌, ◌≢◌, ◌⊎◌, ℕ, zero, suc, ◌<◌, Bool, true, false, ◌&&◌, List, [], ◌∷◌, ◌++◌, length, take, drop, get_or, refl, sym, ap, ◌∙◌, arith, inl, inr, append_assoc, eq-eqb, ne_eqb, eqb}
use Rattle.std.specs.List.{list_all, onto_first}
use Rattle.std.specs.Char.{is_ascii_digit}
use Rattle.std.proofs.lemmas.Bool.{cases_eq}
use Rattle.std.proofs.lemmas.List.Splits.{slice_split-cons_yes, slice_split-cons_no}
use Rattle.comp_trace.specs.Grammar.{parts}

-- no byte of the text is this one
abbrev pub Without : ℕ → List ℕ → Type 0
Without byte [] = Unit {0}
Without byte (b ∷ text) = (b ≢ byte) × Without byte text

pub without_append : (byte : ℕ) (a b : List ℕ) → Without byte a → Without byte b → Without byte (a ++ b)
without_append byte [] b x y = y
without_append byte (c ∷ a) b x y = (x.0, without_append byte a b x.1 y)

pub without_joined : (byte b : ℕ) (front more : List ℕ) → Without byte front → b ≢ byte → Without byte more → Without byte (front ++ b ∷ more)
without_joined byte b front more x ne y = without_append byte front (b ∷ more) x (ne, y)

both_parts : (a b : Bool) → (a && b) ≡ true → (a ≡ true) × (b ≡ true)
both_parts true b h = (refl, h)
both_parts false b h = absurd cc

apart : false ≡ true → ⊥
apart e = absurd cc

-- of all digits, the first and the others
pub first_digit : (b : ℕ) (word : List ℕ) → list_all is_ascii_digit (b ∷ word) ≡ true → (is_ascii_digit b ≡ true) × (list_all is_ascii_digit word ≡ true)
first_digit b word h = both_parts _ _ h

-- a byte that is no digit is not among digits
pub digits_without : (byte : ℕ) (word : List ℕ) → is_ascii_digit byte ≡ false → list_all is_ascii_digit word ≡ true → Without byte word
digits_without byte [] off are = tt
digits_without byte (b ∷ word) off are =
    let first = first_digit b word are in
    (λ same. apart (sym off ∙ ap is_ascii_digit (sym same) ∙ first.0), digits_without byte word off first.1)

-- a text is cut at the first such byte
pub cut_at : (byte : ℕ) (front rest : List ℕ) → Without byte front → parts byte (front ++ byte ∷ rest) ≡ front ∷ parts byte rest
cut_at byte [] rest w = slice_split-cons_yes (λ (b : ℕ). eqb b byte) byte rest (eq-eqb byte byte refl)
cut_at byte (b ∷ front) rest w = slice_split-cons_no (λ (x : ℕ). eqb x byte) b (front ++ byte ∷ rest) (ne_eqb b byte w.0) ∙ ap (onto_first b) (cut_at byte front rest w.1)

-- a text without this byte is one part
pub uncut : (byte : ℕ) (text : List ℕ) → Without byte text → parts byte text ≡ text ∷ []
uncut byte [] w = refl
uncut byte (b ∷ text) w = slice_split-cons_no (λ (x : ℕ). eqb x byte) b text (ne_eqb b byte w.0) ∙ ap (onto_first b) (uncut byte text w.1)

-- a text has no such byte, or a first one
abbrev pub IsCut : ℕ → List ℕ → Type 0
IsCut byte text = (front : List ℕ) × (rest : List ℕ) × (text ≡ front ++ byte ∷ rest) × Without byte front

pub first_cut : (byte : ℕ) (text : List ℕ) → Without byte text ⊎ IsCut byte text
first_cut byte [] = inl tt
first_cut byte (b ∷ text) = elim (cases_eq b byte) [
  | inl same ↦ inr ([], text, ap (λ (x : ℕ). x ∷ text) same, tt)
  | inr ne ↦ elim (first_cut byte text) [
    | inl w ↦ inl (ne, w)
    | inr c ↦ inr (b ∷ c.0, c.1, ap (λ (l : List ℕ). b ∷ l) c.2, (ne, c.3))
  ]
]

tails : (x y : ℕ) (xs ys : List ℕ) → x ∷ xs ≡ y ∷ ys → xs ≡ ys
tails x y xs ys e = cc

heads : (x y : ℕ) (xs ys : List ℕ) → x ∷ xs ≡ y ∷ ys → x ≡ y
heads x y xs ys e = cc

-- the text determines what is before the first such byte, and what is after it
pub same_cut : (byte : ℕ) (a b x y : List ℕ) → Without byte a → Without byte b → a ++ byte ∷ x ≡ b ++ byte ∷ y → (a ≡ b) × (x ≡ y)
same_cut byte [] [] x y u v e = (refl, tails byte byte x y e)
same_cut byte [] (d ∷ b) x y u v e = absurd (v.0 (sym (heads byte d x (b ++ byte ∷ y) e)))
same_cut byte (c ∷ a) [] x y u v e = absurd (u.0 (heads c byte (a ++ byte ∷ x) y e))
same_cut byte (c ∷ a) (d ∷ b) x y u v e =
    let more = same_cut byte a b x y u.1 v.1 (tails c d (a ++ byte ∷ x) (b ++ byte ∷ y) e) in
    (ap (λ (l : List ℕ). c ∷ l) more.0 ∙ ap (λ (k : ℕ). k ∷ b) (heads c d (a ++ byte ∷ x) (b ++ byte ∷ y) e), more.1)

-- a part after a byte joins the text before it
pub joined : (byte : ℕ) (front more rest : List ℕ) → front ++ byte ∷ (more ++ rest) ≡ (front ++ byte ∷ more) ++ rest
joined byte front more rest = sym (append_assoc front (byte ∷ more) rest)

pub at_cut : (front rest : List ℕ) (byte : ℕ) → get_or (front ++ byte ∷ rest) (length front) 0 ≡ byte
at_cut [] rest byte = refl
at_cut (b ∷ front) rest byte = at_cut front rest byte

pub before_cut : (front rest : List ℕ) (byte : ℕ) → take (length front) (front ++ byte ∷ rest) ≡ front
before_cut [] rest byte = refl
before_cut (b ∷ front) rest byte = ap (λ (l : List ℕ). b ∷ l) (before_cut front rest byte)

-- a text is the part before an index, the byte there, and the part after it
pub cut_here : (text : List ℕ) (k : ℕ) → k < length text → text ≡ take k text ++ get_or text k 0 ∷ drop (suc k) text
cut_here [] k lt = absurd (omega (arith, lt))
cut_here (b ∷ text) zero lt = refl
cut_here (b ∷ text) (suc k) lt = ap (λ (l : List ℕ). b ∷ l) (cut_here text k (omega (arith, lt)))

-- the digits before another byte end at that byte
pub digits_end : (byte : ℕ) (word rest : List ℕ) (count : ℕ) → is_ascii_digit byte ≡ false → list_all is_ascii_digit word ≡ true
    → list_all is_ascii_digit (take count (word ++ byte ∷ rest)) ≡ true
    → (count < length (word ++ byte ∷ rest) → is_ascii_digit (get_or (word ++ byte ∷ rest) count 0) ≡ false) → count ≡ length word
digits_end byte [] rest zero off are first ends = refl
digits_end byte [] rest (suc k) off are first ends = absurd (apart (sym off ∙ (first_digit byte (take k rest) first).0))
digits_end byte (b ∷ word) rest zero off are first ends = absurd (apart (sym (ends (omega arith)) ∙ (first_digit b word are).0))
digits_end byte (b ∷ word) rest (suc k) off are first ends =
    ap suc (digits_end byte word rest k off (first_digit b word are).1 (first_digit b (take k (word ++ byte ∷ rest)) first).1 (λ lt. ends (omega (arith, lt))))
