-- Lines that are read one after the other.
use Rattle.std.proofs.Common.{Bool, ◌≡◌, ℕ, ◌==◌, true, false, cond, List, [], ◌∷◌, ◌++◌, Option, Some, None, Result, Ok, Err, option_map, refl, sym, ap, subst, ◌∙◌, append_assoc}
use Rattle.std.specs.List.{list_all, list_any, onto_first}
use Rattle.comp_trace.specs.declared.text.fault.TraceFault.{TraceFault}
use Rattle.comp_trace.specs.declared.text.fault.TraceFault.TheVariants.{BadLine, NoSuchMutator, NoSuchRegister, NumberTooLarge, NoSuchRoot, Refused, OutOfMemory}
use Rattle.comp_trace.specs.declared.text.line.Line.{Line}
use Rattle.comp_trace.specs.Grammar.{◌>>=◌, is_too_large, is_within, judged, parts, registers_of, roots_of, IsReadAs}
use Rattle.std.specs.Prelude.{◌&&◌, is_ok, nat_le}

-- the value of a mapped option
pub mapped : {A B : Type 0} (f : A → B) (o : Option A) (y : B) → option_map f o ≡ Some y → (x : A) × (o ≡ Some x) × (y ≡ f x)
mapped f None y e = absurd cc
mapped f (Some x) y e = (x, refl, cc)

-- a text has a part
pub some_part : (byte : ℕ) (text : List ℕ) → (part : List ℕ) × (more : List (List ℕ)) × (parts byte text ≡ part ∷ more)
some_part byte [] = ([], [], refl)
some_part byte (b ∷ text) =
    let part = some_part byte text in
    elim (b == byte) as (λ t. (first : List ℕ) × (more : List (List ℕ)) × (cond t ([] ∷ parts byte text) (onto_first b (parts byte text)) ≡ first ∷ more)) [
      | true ↦ ([], parts byte text, refl)
      | false ↦ (b ∷ part.0, part.1, ap (onto_first b) part.2)
    ]

abbrev pub before : List Line → Result (List Line) TraceFault → Result (List Line) TraceFault
before front read = read >>= (λ (more : List Line). Ok (front ++ more))

-- a line that is read joins the lines before it
pub regroup : (front : List Line) (l : Line) (read : Result (List Line) TraceFault) → before front (before (l ∷ []) read) ≡ before (front ++ l ∷ []) read
regroup front l (Ok ls) = ap (λ (xs : List Line). Ok xs) (sym (append_assoc front (l ∷ []) ls))
regroup front l (Err fault) = refl

-- a fault of a part is the fault of the whole
told : {A B : Type 0} (view : A → B) (fault : TraceFault) (whole : Result B TraceFault) → whole ≡ Err fault → IsReadAs {A = A} view (Err fault) whole
told view (BadLine n) whole e = e
told view (NoSuchMutator n) whole e = e
told view (NoSuchRegister n) whole e = e
told view (NumberTooLarge n) whole e = e
told view (NoSuchRoot n) whole e = e
told view (Refused n refusal) whole e = e
told view OutOfMemory whole e = tt

pub told_on : {A B : Type 0} (view : A → B) (r : Result A TraceFault) (y fault : TraceFault) (whole : Result B TraceFault) → r ≡ Err y → y ≡ fault → whole ≡ Err fault → IsReadAs view r whole
told_on {A} {B} view r y fault whole p q e = subst (λ (s : Result A TraceFault). IsReadAs view s whole) (sym (p ∙ ap (λ (z : TraceFault). Err z) q)) (told view fault whole e)

abbrev pub tests : Bool → Bool → Bool → Bool → TraceFault → TraceFault → TraceFault → TraceFault → Line → Result Line TraceFault
tests a b c d e f g h line = cond a (Err e) (cond b (Err f) (cond c (Err g) (cond d (Err h) (Ok line))))

-- a line that is read has no fault, whatever its number
passed : (a b c d : Bool) (e f g h e' f' g' h' : TraceFault) (line l : Line) → tests a b c d e f g h line ≡ Ok l → (is_ok (tests a b c d e' f' g' h' line) ≡ true) × (line ≡ l)
passed true b c d e f g h e' f' g' h' line l is = absurd cc
passed false true c d e f g h e' f' g' h' line l is = absurd cc
passed false false true d e f g h e' f' g' h' line l is = absurd cc
passed false false false true e f g h e' f' g' h' line l is = absurd cc
passed false false false false e f g h e' f' g' h' line l is = (refl, cc)

pub judged_within : (ms rs n : ℕ) (o : Option Line) (l : Line) → judged ms rs n o ≡ Ok l → is_within ms rs l ≡ true
judged_within ms rs n None l e = absurd cc
judged_within ms rs n (Some line) l e =
    let p = passed (nat_le ms line.mutator) (list_any (nat_le 16) (registers_of line.action)) (is_too_large line.action) (list_any (nat_le rs) (roots_of line.action))
    (NoSuchMutator n) (NoSuchRegister n) (NumberTooLarge n) (NoSuchRoot n) (NoSuchMutator 0) (NoSuchRegister 0) (NumberTooLarge 0) (NoSuchRoot 0) line l e in
    subst (λ (x : Line). is_within ms rs x ≡ true) p.1 p.0

all_more : (p : Line → Bool) (lines : List Line) (l : Line) → list_all p lines ≡ true → p l ≡ true → list_all p (lines ++ l ∷ []) ≡ true
all_more p [] l h e = and_both (p l) e
  where
    and_both : (b : Bool) → b ≡ true → (b && true) ≡ true
    and_both true e = refl
    and_both false e = e
all_more p (x ∷ lines) l h e = and_of (p x) (list_all p lines) (list_all p (lines ++ l ∷ [])) h (λ k. all_more p lines l k e)
  where
    and_of : (a b c : Bool) → (a && b) ≡ true → (b ≡ true → c ≡ true) → (a && c) ≡ true
    and_of true b c h f = f h
    and_of false b c h f = h

-- one line more, and nothing is wrong with any
pub within_more : (ms rs : ℕ) (lines : List Line) (l : Line) → list_all (is_within ms rs) lines ≡ true → is_within ms rs l ≡ true → list_all (is_within ms rs) (lines ++ l ∷ []) ≡ true
within_more ms rs lines l h e = all_more (is_within ms rs) lines l h e
