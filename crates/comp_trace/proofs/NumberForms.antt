-- Numbers at the front of a text, as they are read.
use Rattle.std.proofs.Common.{◌≡◌, ℕ, suc, ◌+◌, ◌<◌, true, false, List, [], ◌∷◌, ◌++◌, length, take, drop, get_or, Some, option_map, refl, sym, ap, subst, ◌∙◌, arith, length-append}
use Rattle.std.specs.List.{list_all}
use Rattle.std.specs.Char.{is_ascii_digit}
use Rattle.comp_trace.specs.declared.text.numbers.Number.{Number}
use Rattle.comp_trace.specs.Grammar.{clipped, number_of}
use Rattle.comp_trace.specs.Fronts.{size, HasNone, NumberBefore, NumbersOfLine, ReadsNumbers}
use Rattle.comp_trace.proofs.Lines.{mapped}
use Rattle.comp_trace.proofs.LineForms.{all_digits, number_once, onto_numbers}
use Rattle.comp_trace.proofs.Splits.{at_cut, before_cut, cut_here, digits_end}

-- a number that stands before the byte ends where the digits end
pub number_ends : (byte : ℕ) (text : List ℕ) (count n : ℕ) (rest : List ℕ) → is_ascii_digit byte ≡ false → list_all is_ascii_digit (take count text) ≡ true
    → (count < length text → is_ascii_digit (get_or text count 0) ≡ false) → NumberBefore byte text n rest
    → (count < length text) × (get_or text count 0 ≡ byte) × (number_of (take count text) ≡ Some n)
number_ends byte text count n rest off first ends h =
    let word = h.0 in
    let end : count ≡ length word = digits_end byte word rest count off (all_digits word n h.2) (subst (λ (t : List ℕ). list_all is_ascii_digit (take count t) ≡ true) h.1 first)
    (subst (λ (t : List ℕ). count < length t → is_ascii_digit (get_or t count 0) ≡ false) h.1 ends) in (
      omega (arith, end, ap length h.1, length-append word (byte ∷ rest)),
      ap (λ (t : List ℕ). get_or t count 0) h.1 ∙ ap (λ (k : ℕ). get_or (word ++ byte ∷ rest) k 0) end ∙ at_cut word rest byte,
      ap (λ (t : List ℕ). number_of (take count t)) h.1 ∙ ap (λ (k : ℕ). number_of (take k (word ++ byte ∷ rest))) end ∙ ap number_of (before_cut word rest byte) ∙ h.2,
    )

-- digits that are a number, and the byte after them
pub number_there : (byte : ℕ) (text rest : List ℕ) (count : ℕ) (number : Number) → count < length text → get_or text count 0 ≡ byte → rest ≡ drop (count + 1) text
    → option_map size (Some number) ≡ option_map clipped (number_of (take count text)) → (n : ℕ) × (size number ≡ clipped n) × NumberBefore byte text n rest
number_there byte text rest count number lt here behind h =
    let is = mapped clipped (number_of (take count text)) (size number) (sym h) in
    let one : suc count ≡ count + 1 = omega arith in
    let cut : text ≡ take count text ++ byte ∷ rest =
    cut_here text count lt ∙ ap (λ (b : ℕ). take count text ++ b ∷ drop (suc count) text) here ∙ ap (λ (k : ℕ). take count text ++ byte ∷ drop k text) one
    ∙ ap (λ (l : List ℕ). take count text ++ byte ∷ l) (sym behind) in
    (is.0, is.2, (take count text, cut, is.1))

-- one number of a line, or one more
pub reads_one : (text : List ℕ) (k n : ℕ) (rest : List ℕ) → k ≡ clipped n → NumberBefore 10 text n rest → ReadsNumbers text (k ∷ []) rest
reads_one text k n rest e h = (n ∷ [], ap (λ (j : ℕ). j ∷ []) e, h)

pub reads_more : (text : List ℕ) (k n : ℕ) (behind ks rest : List ℕ) → k ≡ clipped n → NumberBefore 32 text n behind → ReadsNumbers behind ks rest → ReadsNumbers text (k ∷ ks) rest
reads_more text k n behind ks rest e h more =
    (n ∷ more.0, ap (λ (j : ℕ). j ∷ ks) e ∙ ap (λ (l : List ℕ). clipped n ∷ l) more.1, onto_numbers text n behind more.0 rest h more.2)

-- there is no line of one number if the text does not begin with one
pub none_one : (text : List ℕ) → ((n : ℕ) (rest : List ℕ) → NumberBefore 10 text n rest → ⊥) → (ns rest : List ℕ) → length ns ≡ 1 → NumbersOfLine text ns rest → ⊥
none_one text f [] rest e h = h
none_one text f (n ∷ []) rest e h = f n rest h
none_one text f (n ∷ m ∷ more) rest e h = omega (arith, e)

pub none_first : (count : ℕ) (text : List ℕ) → ((n : ℕ) (rest : List ℕ) → NumberBefore 32 text n rest → ⊥) → (ns rest : List ℕ) → length ns ≡ count + 2 → NumbersOfLine text ns rest → ⊥
none_first count text f [] rest e h = h
none_first count text f (n ∷ []) rest e h = omega (arith, e)
none_first count text f (n ∷ m ∷ more) rest e h = f n h.0 h.1

-- there is no line of more numbers if the text after the first has no line of the others
pub none_then : (count : ℕ) (text : List ℕ) (n : ℕ) (behind : List ℕ) → NumberBefore 32 text n behind → HasNone (count + 1) behind → (ns rest : List ℕ) → length ns ≡ count + 2 → NumbersOfLine text ns rest → ⊥
none_then count text n behind p f [] rest e h = h
none_then count text n behind p f (m ∷ []) rest e h = omega (arith, e)
none_then count text n behind p f (m ∷ k ∷ more) rest e h =
    let once = number_once 32 text n m behind h.0 refl p h.1 in
    f (k ∷ more) rest (omega (arith, e)) (subst (λ (l : List ℕ). NumbersOfLine l (k ∷ more) rest) (sym once.1) h.2)
