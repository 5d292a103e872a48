-- The lines of a text that is a trace name mutators that exist.
use Rattle.std.proofs.Common.{◌≡◌, ℕ, zero, suc, ◌<◌, ◌+◌, ◌==◌, Bool, true, false, cond, List, [], ◌∷◌, All, length, Result, Ok, Err, refl, ap, subst, arith, nat_le}
use Rattle.std.proofs.lemmas.Bool.{leb-false}
use Rattle.std.specs.List.{list_any}
use Rattle.comp_trace.specs.Grammar.{◌>>=◌, judged, is_too_large, is_within, line_of, parts, read_from, registers_of, roots_of}
use Rattle.comp_trace.specs.declared.text.fault.TraceFault.{TraceFault}
use Rattle.comp_trace.specs.declared.text.fault.TraceFault.TheVariants.{BadLine, NoSuchMutator, NoSuchRegister, NumberTooLarge, NoSuchRoot}
use Rattle.comp_trace.specs.declared.text.line.Line.{Line}
use Rattle.comp_trace.proofs.Fitting.{ok_not}
use Rattle.comp_trace.proofs.Lines.{judged_within}

mutator_inside : (ms rs : ℕ) (line : Line) → is_within ms rs line ≡ true → line.mutator < ms
mutator_inside ms rs line h =
    let last : Result Line TraceFault = cond (list_any (nat_le rs) (roots_of line.action)) (Err (NoSuchRoot 0)) (Ok line) in
    let third : Result Line TraceFault = cond (is_too_large line.action) (Err (NumberTooLarge 0)) last in
    let second : Result Line TraceFault = cond (list_any (nat_le 16) (registers_of line.action)) (Err (NoSuchRegister 0)) third in
    leb-false ms line.mutator (ok_not (nat_le ms line.mutator) (NoSuchMutator 0) second h).0

bind_ok : {A B : Type 0} (r : Result A TraceFault) (f : A → Result B TraceFault) (y : B) → (r >>= f) ≡ Ok y → (x : A) × (r ≡ Ok x) × (f x ≡ Ok y)
bind_ok (Ok x) f y h = (x, refl, h)
bind_ok (Err e) f y h = absurd cc

abbrev pub AreInside : ℕ → List Line → Type 0
AreInside ms lines = All (λ (line : Line). line.mutator < ms) lines

none_inside : (ms : ℕ) (lines : List Line) → [] ≡ lines → AreInside ms lines
none_inside ms lines e = λ j d lt. absurd (omega (arith, ap (λ (l : List Line). length l) e, lt))

more_inside : (ms : ℕ) (line : Line) (lines : List Line) → line.mutator < ms → AreInside ms lines → AreInside ms (line ∷ lines)
more_inside ms line lines lt h zero d le = lt
more_inside ms line lines lt h (suc j) d le = h j d (omega (arith, le))

pub ok_is : {A : Type 0} (x y : A) → ◌≡◌ {A = Result A TraceFault} (Ok x) (Ok y) → x ≡ y
ok_is x y e = cc

pub read_inside : (ms rs n : ℕ) (texts : List (List ℕ)) (lines : List Line) → read_from ms rs n texts ≡ Ok lines → AreInside ms lines
read_inside ms rs n [] lines e = none_inside ms lines (ok_is [] lines e)
read_inside ms rs n (last ∷ []) lines e = ends (length last == 0) lines e
  where
    ends : (b : Bool) (lines : List Line) → cond b (Ok []) (Err (BadLine n)) ≡ Ok lines → AreInside ms lines
    ends true lines e = none_inside ms lines (ok_is [] lines e)
    ends false lines e = absurd cc
read_inside ms rs n (text ∷ next ∷ more) lines e =
    let a = bind_ok (judged ms rs n (line_of (parts 32 text))) (λ line. read_from ms rs (n + 1) (next ∷ more) >>= λ lines. Ok (line ∷ lines)) lines e in
    let b = bind_ok (read_from ms rs (n + 1) (next ∷ more)) (λ lines. Ok (a.0 ∷ lines)) lines a.2 in
    subst (AreInside ms) (ok_is (a.0 ∷ b.0) lines b.2)
    (more_inside ms a.0 b.0 (mutator_inside ms rs a.0 (judged_within ms rs n (line_of (parts 32 text)) a.0 a.1)) (read_inside ms rs (n + 1) (next ∷ more) b.0 b.1))
