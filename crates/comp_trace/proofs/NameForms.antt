-- Names at the front of a text, and lines by their names.
use Rattle.std.proofs.Common.{◌≡◌, ℕ, ◌+◌, ◌^◌, ◌<◌, Bool, true, false, ◌&&◌, not, List, [], ◌∷◌, ◌++◌, length, map, drop, get_or, None, Result, Ok, refl, sym, ap, subst, ◌∙◌, arith, eqb, eq-eqb}
use Rattle.std.specs.Prelude.{codes}
use Rattle.std.specs.Bool.{Decides}
use Rattle.std.specs.List.{list_all}
use Rattle.std.specs.Str.{bytes_eq}
use Rattle.std.proofs.lemmas.Slice.Eq.{bytes_eq-Decides}
use Rattle.comp_trace.specs.declared.text.fault.TraceFault.{TraceFault}
use Rattle.comp_trace.specs.declared.text.line.Line.{Line}
use Rattle.comp_trace.specs.declared.text.name.Name.{Name}
use Rattle.comp_trace.specs.declared.text.name.Name.TheVariants.{Root, Load, Get, Store, Put, New, Nil, Immediate, WeakLoad, WeakStore, WeakNew}
use Rattle.comp_trace.specs.Grammar.{◌>>=◌, action_of, clipped, is_within, judged, line_with, parts, read_from}
use Rattle.comp_trace.specs.Fronts.{written, HasNoAction, HasNone, NumberBefore, NumbersOfLine, ReadsLine}
use Rattle.comp_trace.proofs.Clipping.{told_apart}
use Rattle.comp_trace.proofs.Lines.{judged_within}
use Rattle.comp_trace.proofs.LineForms.{has_less, has_read, number_once, HasLine, IsBad}
use Rattle.comp_trace.proofs.Splits.{same_cut, Without}

ne_bytes : (a b : List ℕ) → (a ≡ b → ⊥) → bytes_eq a b ≡ false
ne_bytes a b ne = no (bytes_eq a b) (bytes_eq-Decides a b)
  where
    no : (r : Bool) → Decides r (a ≡ b) → r ≡ false
    no true d = absurd (ne (d.0 refl))
    no false d = refl

-- the text determines what is after a word
behind_word : (word rest more : List ℕ) → word ++ rest ≡ word ++ more → rest ≡ more
behind_word [] rest more e = e
behind_word (w ∷ word) rest more e = behind_word word rest more (tails w (word ++ rest) (word ++ more) e)
  where
    tails : (x : ℕ) (xs ys : List ℕ) → x ∷ xs ≡ x ∷ ys → xs ≡ ys
    tails x xs ys h = cc

-- a text that begins with a word, and has a blank after it or not
pub word_there : (text word rest : List ℕ) → text ≡ word ++ rest → 0 < length rest → get_or rest 0 0 ≡ 32 → text ≡ word ++ 32 ∷ drop 1 rest
word_there text word [] e some here = absurd (omega (arith, some))
word_there text word (b ∷ rest) e some here = e ∙ ap (λ (k : ℕ). word ++ k ∷ rest) here

pub blank_behind : (text word rest more : List ℕ) → text ≡ word ++ rest → text ≡ word ++ 32 ∷ more → (0 < length rest) × (get_or rest 0 0 ≡ 32)
blank_behind text word rest more e h =
    let same = behind_word word rest (32 ∷ more) (sym e ∙ h) in
    (omega (arith, ap length same), ap (λ (l : List ℕ). get_or l 0 0) same)

-- an unknown name has no action
unknown_name : (name ns : List ℕ) → ((k : Name) → name ≡ written k → ⊥) → action_of name ns ≡ None
unknown_name name [] f = refl
unknown_name name (a ∷ []) f = rw (ne_bytes name (codes "nil") (f Nil)) refl
unknown_name name (a ∷ b ∷ []) f = rw (ne_bytes name (codes "root") (f Root), ne_bytes name (codes "get") (f Get), ne_bytes name (codes "imm") (f Immediate)) refl
unknown_name name (a ∷ b ∷ c ∷ []) f =
    rw (
      ne_bytes name (codes "load") (f Load),
      ne_bytes name (codes "store") (f Store),
      ne_bytes name (codes "put") (f Put),
      ne_bytes name (codes "wload") (f WeakLoad),
      ne_bytes name (codes "wstore") (f WeakStore),
    ) refl
unknown_name name (a ∷ b ∷ c ∷ d ∷ []) f = rw (ne_bytes name (codes "new") (f New)) refl
unknown_name name (a ∷ b ∷ c ∷ d ∷ e ∷ []) f = rw (ne_bytes name (codes "wnew") (f WeakNew)) refl
unknown_name name (a ∷ b ∷ c ∷ d ∷ e ∷ g ∷ ns) f = refl

-- the number of numbers after a name
abbrev pub arity : Name → ℕ
arity Root = 2
arity Load = 3
arity Get = 2
arity Store = 3
arity Put = 3
arity New = 4
arity Nil = 1
arity Immediate = 2
arity WeakLoad = 3
arity WeakStore = 3
arity WeakNew = 5

-- with another count of numbers a name has no action
other_count : (name : Name) (ns : List ℕ) → (length ns ≡ arity name → ⊥) → action_of (written name) ns ≡ None
other_count name [] f = refl
other_count Nil (a ∷ []) f = absurd (f refl)
other_count name (a ∷ []) f = refl
other_count Root (a ∷ b ∷ []) f = absurd (f refl)
other_count Get (a ∷ b ∷ []) f = absurd (f refl)
other_count Immediate (a ∷ b ∷ []) f = absurd (f refl)
other_count name (a ∷ b ∷ []) f = refl
other_count Load (a ∷ b ∷ c ∷ []) f = absurd (f refl)
other_count Store (a ∷ b ∷ c ∷ []) f = absurd (f refl)
other_count Put (a ∷ b ∷ c ∷ []) f = absurd (f refl)
other_count WeakLoad (a ∷ b ∷ c ∷ []) f = absurd (f refl)
other_count WeakStore (a ∷ b ∷ c ∷ []) f = absurd (f refl)
other_count name (a ∷ b ∷ c ∷ []) f = refl
other_count New (a ∷ b ∷ c ∷ d ∷ []) f = absurd (f refl)
other_count name (a ∷ b ∷ c ∷ d ∷ []) f = refl
other_count WeakNew (a ∷ b ∷ c ∷ d ∷ e ∷ []) f = absurd (f refl)
other_count name (a ∷ b ∷ c ∷ d ∷ e ∷ []) f = refl
other_count name (a ∷ b ∷ c ∷ d ∷ e ∷ g ∷ ns) f = refl

pub no_action : (name : Name) (text : List ℕ) → HasNone (arity name) text → HasNoAction (written name) text
no_action name text none = λ ns rest h. other_count name ns (λ e. none ns rest e h)

both_parts : (a b : Bool) → (a && b) ≡ true → (a ≡ true) × (b ≡ true)
both_parts true b h = (refl, h)
both_parts false b h = absurd cc

apart : (b : Bool) → not b ≡ true → b ≡ true → ⊥
apart true p q = absurd cc
apart false p q = absurd cc

without_if : (byte : ℕ) (text : List ℕ) → list_all (λ (b : ℕ). not (eqb b byte)) text ≡ true → Without byte text
without_if byte [] h = tt
without_if byte (b ∷ text) h = let both = both_parts _ _ h in (λ e. apart (eqb b byte) both.0 (eq-eqb b byte e), without_if byte text both.1)

-- a name is one word of one line
short_name : (name : Name) → list_all (λ (b : ℕ). not (eqb b 10)) (written name) ≡ true
short_name Root = refl
short_name Load = refl
short_name Get = refl
short_name Store = refl
short_name Put = refl
short_name New = refl
short_name Nil = refl
short_name Immediate = refl
short_name WeakLoad = refl
short_name WeakStore = refl
short_name WeakNew = refl

one_word : (name : Name) → list_all (λ (b : ℕ). not (eqb b 32)) (written name) ≡ true
one_word Root = refl
one_word Load = refl
one_word Get = refl
one_word Store = refl
one_word Put = refl
one_word New = refl
one_word Nil = refl
one_word Immediate = refl
one_word WeakLoad = refl
one_word WeakStore = refl
one_word WeakNew = refl

-- texts that begin with no line: no number, no name after it, or other numbers after that
pub bad_mutator : (text : List ℕ) → ((n : ℕ) (rest : List ℕ) → NumberBefore 32 text n rest → ⊥) → IsBad text
bad_mutator text none = λ m name ns rest h. absurd (none m h.behind h.first)

pub bad_name : (text : List ℕ) (n : ℕ) (behind : List ℕ) → NumberBefore 32 text n behind → ((name : Name) (rest : List ℕ) → behind ≡ written name ++ 32 ∷ rest → ⊥) → IsBad text
bad_name text n behind p none = λ m name ns rest h.
    let once = number_once 32 text n m behind h.behind refl p h.first in
    unknown_name name ns (λ k e. none k h.numbers (once.1 ∙ h.second ∙ ap (λ (l : List ℕ). l ++ 32 ∷ h.numbers) e))

pub bad_numbers : (text : List ℕ) (n : ℕ) (behind : List ℕ) (k : Name) (numbers : List ℕ) → NumberBefore 32 text n behind → behind ≡ written k ++ 32 ∷ numbers → HasNoAction (written k) numbers → IsBad text
bad_numbers text n behind k numbers p is none = λ m name ns rest h.
    let once = number_once 32 text n m behind h.behind refl p h.first in
    let same = same_cut 32 (written k) name numbers h.numbers (without_if 32 (written k) (one_word k)) h.one_word (sym is ∙ once.1 ∙ h.second) in
    subst (λ (w : List ℕ). action_of w ns ≡ None) same.0 (none ns rest (subst (λ (l : List ℕ). NumbersOfLine l ns rest) (sym same.1) h.all))

-- What was read of a text that begins with a line.
pub record IsRead (ms rs n : ℕ) (text : List ℕ) (line : Result Line TraceFault) (rest : List ℕ) : Type 0 where
  pub read : read_from ms rs n (parts 10 text) ≡ (line >>= (λ (l : Line). read_from ms rs (n + 1) (parts 10 rest) >>= (λ (ls : List Line). Ok (l ∷ ls))))
  pub within : (l : Line) → line ≡ Ok l → is_within ms rs l ≡ true
  pub less : length rest < length text

pub line_read : (ms rs n : ℕ) (text : List ℕ) (k m : ℕ) (behind : List ℕ) (name : Name) (numbers : List ℕ) (line : Result Line TraceFault) (rest : List ℕ) → ms < 2 ^ 8 → rs < 2 ^ 32
    → k ≡ clipped m → NumberBefore 32 text m behind → behind ≡ written name ++ 32 ∷ numbers → ReadsLine ms rs n k (written name) numbers line rest → IsRead ms rs n text line rest
line_read ms rs n text k m behind name numbers line rest ms-small rs-small e p is h =
    let ns = h.0 in
    let short = without_if 10 (written name) (short_name name) in
    let there : HasLine text m (written name) ns rest =
    record { behind = behind; numbers = numbers; first = p; second = is; one_word = without_if 32 (written name) (one_word name); all = h.2 } in
    let judged_is : line ≡ judged ms rs n (line_with m (written name) ns) =
    h.1 ∙ ap (λ (j : ℕ). judged ms rs n (line_with j (written name) (map clipped ns))) e ∙ told_apart ms rs n m (written name) ns ms-small rs-small in
    record {
      read = has_read ms rs n text m (written name) ns rest short there
          ∙ ap (λ (r : Result Line TraceFault). r >>= (λ (l : Line). read_from ms rs (n + 1) (parts 10 rest) >>= (λ (ls : List Line). Ok (l ∷ ls)))) (sym judged_is);
      within = λ l ok. judged_within ms rs n (line_with m (written name) ns) l (sym judged_is ∙ ok);
      less = has_less text m (written name) ns rest short there;
    }
