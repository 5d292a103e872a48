-- Numbers, names and lines at the front of a text, and what the text is read as.
use Rattle.std.proofs.Common.{◌≡◌, ℕ, ◌+◌, ◌<◌, ◌&&◌, Bool, true, false, cond, List, [], ◌∷◌, ◌++◌, length, Option, Some, None, Ok, Err, option_map, refl, sym, ap, subst, ◌∙◌, arith, inl, inr, ne_eqb, length-append}
use Rattle.std.specs.Prelude.{option_and_then}
use Rattle.std.specs.List.{list_all}
use Rattle.std.specs.Char.{is_ascii_digit}
use Rattle.std.specs.Str.Parse.{digits_value}
use Rattle.comp_trace.specs.declared.text.fault.TraceFault.TheVariants.{BadLine}
use Rattle.comp_trace.specs.declared.text.line.Line.{Line}
use Rattle.comp_trace.specs.Grammar.{◌>>=◌, action_of, is_number, judged, line_of, line_with, number_of, numbers_of, parts, read_from}
use Rattle.comp_trace.specs.Fronts.{NumberBefore, NumbersOfLine}
use Rattle.comp_trace.proofs.Lines.{some_part}
use Rattle.comp_trace.proofs.Splits.{cut_at, digits_without, first_cut, joined, same_cut, uncut, without_joined, Without}

some_if : (b : Bool) (v n : ℕ) → cond b (Some v) None ≡ Some n → (b ≡ true) × (v ≡ n)
some_if true v n e = (refl, cc)
some_if false v n e = absurd cc

and_second : (a b : Bool) → (a && b) ≡ true → b ≡ true
and_second true b h = h
and_second false b h = absurd cc

-- a number is all digits
pub all_digits : (word : List ℕ) (n : ℕ) → number_of word ≡ Some n → list_all is_ascii_digit word ≡ true
all_digits word n e = and_second _ _ (some_if (is_number word) (digits_value 10 word) n e).0

-- one number stands before a byte that is no digit
pub number_once : (byte : ℕ) (text : List ℕ) (n m : ℕ) (rest other : List ℕ) → is_ascii_digit byte ≡ false → NumberBefore byte text n rest → NumberBefore byte text m other → (n ≡ m) × (rest ≡ other)
number_once byte text n m rest other off p q =
    let same = same_cut byte p.0 q.0 rest other (digits_without byte p.0 off (all_digits p.0 n p.2)) (digits_without byte q.0 off (all_digits q.0 m q.2)) (sym p.1 ∙ q.1) in
    let value : Some n ≡ Some m = sym p.2 ∙ ap number_of same.0 ∙ q.2 in
    (inside n m value, same.1)
  where
    inside : (a b : ℕ) → Some a ≡ Some b → a ≡ b
    inside a b e = cc

numbers_more : (word : List ℕ) (n : ℕ) (words : List (List ℕ)) (ns : List ℕ) → number_of word ≡ Some n → numbers_of words ≡ Some ns → numbers_of (word ∷ words) ≡ Some (n ∷ ns)
numbers_more word n words ns p q = rw (p, q) refl

-- the line with these numbers
abbrev pub LineOfNumbers : List ℕ → List ℕ → List ℕ → Type 0
LineOfNumbers text ns rest = (line : List ℕ) × (text ≡ line ++ 10 ∷ rest) × Without 10 line × (numbers_of (parts 32 line) ≡ Some ns)

pub line_of_numbers : (text ns rest : List ℕ) → NumbersOfLine text ns rest → LineOfNumbers text ns rest
line_of_numbers text [] rest h = absurd h
line_of_numbers text (n ∷ []) rest h =
    let are = all_digits h.0 n h.2 in
    (h.0, h.1, digits_without 10 h.0 refl are, ap numbers_of (uncut 32 h.0 (digits_without 32 h.0 refl are)) ∙ numbers_more h.0 n [] [] h.2 refl)
line_of_numbers text (n ∷ m ∷ more) rest h =
    let word = h.1.0 in
    let are = all_digits word n h.1.2 in
    let line = line_of_numbers h.0 (m ∷ more) rest h.2 in (
      word ++ 32 ∷ line.0,
      h.1.1 ∙ ap (λ (l : List ℕ). word ++ 32 ∷ l) line.1 ∙ joined 32 word line.0 (10 ∷ rest),
      without_joined 10 32 word line.0 (digits_without 10 word refl are) (λ e. omega (arith, e)) line.2,
      ap numbers_of (cut_at 32 word line.0 (digits_without 32 word refl are)) ∙ numbers_more word n (parts 32 line.0) (m ∷ more) h.1.2 line.3,
    )

-- the first number of a line, and the others
numbers_cons : (o : Option ℕ) (os : Option (List ℕ)) (ns : List ℕ) → option_and_then (λ (n : ℕ). option_map (λ (ms : List ℕ). n ∷ ms) os) o ≡ Some ns
    → (n : ℕ) × (ms : List ℕ) × (o ≡ Some n) × (os ≡ Some ms) × (ns ≡ n ∷ ms)
numbers_cons None os ns e = absurd cc
numbers_cons (Some n) None ns e = absurd cc
numbers_cons (Some n) (Some ms) ns e = (n, ms, refl, refl, cc)

pub onto_numbers : (text : List ℕ) (n : ℕ) (behind ms rest : List ℕ) → NumberBefore 32 text n behind → NumbersOfLine behind ms rest → NumbersOfLine text (n ∷ ms) rest
onto_numbers text n behind [] rest p h = absurd h
onto_numbers text n behind (m ∷ more) rest p h = (behind, p, h)

tail_is : (x y : List ℕ) (xs ys : List (List ℕ)) → x ∷ xs ≡ y ∷ ys → xs ≡ ys
tail_is x y xs ys e = cc

none_left : (ms : List ℕ) → Some [] ≡ Some ms → ms ≡ []
none_left ms e = cc

no_parts : (part : List ℕ) (more : List (List ℕ)) → [] ≡ part ∷ more → ⊥
no_parts part more e = absurd cc

pub numbers_of_parts : (words : List (List ℕ)) (line ns rest : List ℕ) → parts 32 line ≡ words → numbers_of (parts 32 line) ≡ Some ns → NumbersOfLine (line ++ 10 ∷ rest) ns rest
numbers_of_parts [] line ns rest p h = let some = some_part 32 line in absurd (no_parts some.0 some.1 (sym p ∙ some.2))
numbers_of_parts (w ∷ ws) line ns rest p h = elim (first_cut 32 line) [
  | inl without ↦
      let one = numbers_cons (number_of line) (Some []) ns (sym (ap numbers_of (uncut 32 line without)) ∙ h) in
      let all : ns ≡ one.0 ∷ [] = one.4 ∙ ap (λ (ms : List ℕ). one.0 ∷ ms) (none_left one.1 one.3) in
      subst (λ (l : List ℕ). NumbersOfLine (line ++ 10 ∷ rest) l rest) (sym all) (line, refl, one.2)
  | inr c ↦
      let front = c.0 in let after = c.1 in
      let there : parts 32 line ≡ front ∷ parts 32 after = ap (parts 32) c.2 ∙ cut_at 32 front after c.3 in
      let one = numbers_cons (number_of front) (numbers_of (parts 32 after)) ns (sym (ap numbers_of there) ∙ h) in
      let more = numbers_of_parts ws after one.1 rest (tail_is front w (parts 32 after) ws (sym there ∙ p)) one.3 in
      let begins : line ++ 10 ∷ rest ≡ front ++ 32 ∷ (after ++ 10 ∷ rest) = ap (λ (l : List ℕ). l ++ 10 ∷ rest) c.2 ∙ sym (joined 32 front after (10 ∷ rest)) in
      subst (λ (l : List ℕ). NumbersOfLine (line ++ 10 ∷ rest) l rest) (sym one.4) (onto_numbers (line ++ 10 ∷ rest) one.0 (after ++ 10 ∷ rest) one.1 rest (front, begins, one.2) more)
]

-- The text begins with a line: a mutator's number, a name and numbers.
pub record HasLine (text : List ℕ) (mutator : ℕ) (name ns rest : List ℕ) : Type 0 where
  pub behind : List ℕ
  pub numbers : List ℕ
  pub first : NumberBefore 32 text mutator behind
  pub second : behind ≡ name ++ 32 ∷ numbers
  pub one_word : Without 32 name
  pub all : NumbersOfLine numbers ns rest

-- reading from a line on, by its first part
read_cons : (ms rs n : ℕ) (text line rest : List ℕ) → parts 10 text ≡ line ∷ parts 10 rest
    → read_from ms rs n (parts 10 text) ≡ (judged ms rs n (line_of (parts 32 line)) >>= (λ (l : Line). read_from ms rs (n + 1) (parts 10 rest) >>= (λ (ls : List Line). Ok (l ∷ ls))))
read_cons ms rs n text line rest p = let next = some_part 10 rest in rw (p, next.2) refl

-- the line, as one part of the text
abbrev WholeLine : List ℕ → ℕ → List ℕ → List ℕ → List ℕ → Type 0
WholeLine text m name ns rest = (line : List ℕ) × (text ≡ line ++ 10 ∷ rest) × Without 10 line × (line_of (parts 32 line) ≡ line_with m name ns)

words_are : (word name : List ℕ) (words : List (List ℕ)) (m : ℕ) (ns : List ℕ) → number_of word ≡ Some m → numbers_of words ≡ Some ns → line_of (word ∷ name ∷ words) ≡ line_with m name ns
words_are word name words m ns p q = rw (p, q) refl

whole_line : (text : List ℕ) (m : ℕ) (name ns rest : List ℕ) → Without 10 name → HasLine text m name ns rest → WholeLine text m name ns rest
whole_line text m name ns rest short h =
    let word = h.first.0 in
    let are = all_digits word m h.first.2 in
    let behind = line_of_numbers h.numbers ns rest h.all in
    let line = behind.0 in
    let inner = name ++ 32 ∷ line in (
      word ++ 32 ∷ inner,
      h.first.1 ∙ ap (λ (l : List ℕ). word ++ 32 ∷ l) (h.second ∙ ap (λ (l : List ℕ). name ++ 32 ∷ l) behind.1 ∙ joined 32 name line (10 ∷ rest)) ∙ joined 32 word inner (10 ∷ rest),
      without_joined 10 32 word inner (digits_without 10 word refl are) (λ e. omega (arith, e)) (without_joined 10 32 name line short (λ e. omega (arith, e)) behind.2),
      ap line_of (cut_at 32 word inner (digits_without 32 word refl are) ∙ ap (λ (ws : List (List ℕ)). word ∷ ws) (cut_at 32 name line h.one_word))
          ∙ words_are word name (parts 32 line) m ns h.first.2 behind.3,
    )

-- a line that stands there is read
pub has_read : (ms rs n : ℕ) (text : List ℕ) (m : ℕ) (name ns rest : List ℕ) → Without 10 name → HasLine text m name ns rest
    → read_from ms rs n (parts 10 text) ≡ (judged ms rs n (line_with m name ns) >>= (λ (l : Line). read_from ms rs (n + 1) (parts 10 rest) >>= (λ (ls : List Line). Ok (l ∷ ls))))
has_read ms rs n text m name ns rest short h =
    let whole = whole_line text m name ns rest short h in
    read_cons ms rs n text whole.0 rest (ap (parts 10) whole.1 ∙ cut_at 10 whole.0 rest whole.2)
    ∙ ap (λ (o : Option Line). judged ms rs n o >>= (λ (l : Line). read_from ms rs (n + 1) (parts 10 rest) >>= (λ (ls : List Line). Ok (l ∷ ls)))) whole.3

-- and less text is left
pub has_less : (text : List ℕ) (m : ℕ) (name ns rest : List ℕ) → Without 10 name → HasLine text m name ns rest → length rest < length text
has_less text m name ns rest short h =
    let whole = whole_line text m name ns rest short h in
    omega (arith, ap length whole.1, length-append whole.0 (10 ∷ rest))

none_anyway : (o : Option ℕ) (name : List ℕ) → option_and_then (λ (m : ℕ). option_and_then (line_with m name) (Some [])) o ≡ None
none_anyway None name = refl
none_anyway (Some m) name = refl

no_line : (o : Option ℕ) (name : List ℕ) (os : Option (List ℕ)) → ((m : ℕ) (ns : List ℕ) → o ≡ Some m → os ≡ Some ns → action_of name ns ≡ None)
    → option_and_then (λ (m : ℕ). option_and_then (line_with m name) os) o ≡ None
no_line None name os f = refl
no_line (Some m) name None f = refl
no_line (Some m) name (Some ns) f = rw (f m ns refl refl) refl

-- no line at the front of the text has an action
abbrev pub IsBad : List ℕ → Type 0
IsBad text = (m : ℕ) (name ns rest : List ℕ) → HasLine text m name ns rest → action_of name ns ≡ None

bad_part : (text front rest : List ℕ) → text ≡ front ++ 10 ∷ rest → IsBad text → line_of (parts 32 front) ≡ None
bad_part text front rest e bad = elim (first_cut 32 front) [
  | inl without ↦ ap line_of (uncut 32 front without)
  | inr c ↦
      let word = c.0 in let after = c.1 in
      let first : parts 32 front ≡ word ∷ parts 32 after = ap (parts 32) c.2 ∙ cut_at 32 word after c.3 in
      elim (first_cut 32 after) [
        | inl without ↦ ap line_of (first ∙ ap (λ (ws : List (List ℕ)). word ∷ ws) (uncut 32 after without)) ∙ none_anyway (number_of word) after
        | inr d ↦
            let name = d.0 in let numbers = d.1 in
            let second : parts 32 after ≡ name ∷ parts 32 numbers = ap (parts 32) d.2 ∙ cut_at 32 name numbers d.3 in
            ap line_of (first ∙ ap (λ (ws : List (List ℕ)). word ∷ ws) second)
            ∙ no_line (number_of word) name (numbers_of (parts 32 numbers)) (λ m ns p q. bad m name ns rest (record {
              behind = after ++ 10 ∷ rest;
              numbers = numbers ++ 10 ∷ rest;
              first = (word, e ∙ ap (λ (l : List ℕ). l ++ 10 ∷ rest) c.2 ∙ sym (joined 32 word after (10 ∷ rest)), p);
              second = ap (λ (l : List ℕ). l ++ 10 ∷ rest) d.2 ∙ sym (joined 32 name numbers (10 ∷ rest));
              one_word = d.3;
              all = numbers_of_parts (parts 32 numbers) numbers ns rest refl q;
            }))
      ]
]

bad_last : (ms rs n : ℕ) (text : List ℕ) → 0 < length text → read_from ms rs n (text ∷ []) ≡ Err (BadLine n)
bad_last ms rs n text some = rw (ne_eqb (length text) 0 (λ e. omega (arith, e, some))) refl

-- a text that begins with no line is refused, with the number of the line
pub bad_read : (ms rs n : ℕ) (text : List ℕ) → 0 < length text → IsBad text → read_from ms rs n (parts 10 text) ≡ Err (BadLine n)
bad_read ms rs n text some bad = elim (first_cut 10 text) [
  | inl without ↦ ap (read_from ms rs n) (uncut 10 text without) ∙ bad_last ms rs n text some
  | inr c ↦
      read_cons ms rs n text c.0 c.1 (ap (parts 10) c.2 ∙ cut_at 10 c.0 c.1 c.3)
      ∙ ap (λ (o : Option Line). judged ms rs n o >>= (λ (l : Line). read_from ms rs (n + 1) (parts 10 c.1) >>= (λ (ls : List Line). Ok (l ∷ ls)))) (bad_part text c.0 c.1 c.2 bad)
]
