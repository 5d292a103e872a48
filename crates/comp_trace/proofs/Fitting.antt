-- The lines of a trace name only what exists.
use Rattle.std.proofs.Common.{◌≡◌, ℕ, zero, suc, ◌<◌, ◌^◌, ◌&&◌, Bool, true, false, cond, List, [], ◌∷◌, length, get_or, Result, Ok, Err, refl, arith, nat_le}
use Rattle.std.specs.Prelude.{is_ok}
use Rattle.std.proofs.lemmas.Bool.{leb-false, or_parts}
use Rattle.std.specs.List.{list_all, list_any}
use Rattle.comp_mutator.specs.Setup.{Setup}
use Rattle.comp_trace.specs.Acting.{Fits}
use Rattle.comp_trace.specs.TraceLines.{AllFit}
use Rattle.comp_trace.specs.Grammar.{is_too_large, is_within, registers_of, roots_of}
use Rattle.comp_trace.specs.declared.text.fault.TraceFault.{TraceFault}
use Rattle.comp_trace.specs.declared.text.fault.TraceFault.TheVariants.{NoSuchMutator, NoSuchRegister, NumberTooLarge, NoSuchRoot}
use Rattle.comp_trace.specs.declared.text.line.Action.{Action}
use Rattle.comp_trace.specs.declared.text.line.Action.TheVariants.{Root, Load, Get, Store, Put, New, Nil, Immediate}
use Rattle.comp_trace.specs.declared.text.line.Line.{Line}

pub ok_not : (b : Bool) (e : TraceFault) (r : Result Line TraceFault) → is_ok (cond b (Err e) r) ≡ true → (b ≡ false) × (is_ok r ≡ true)
ok_not true e r h = absurd cc
ok_not false e r h = (refl, h)

and_both : (a b : Bool) → (a && b) ≡ true → (a ≡ true) × (b ≡ true)
and_both true b h = (refl, h)
and_both false b h = absurd cc

fits_action : (u : Setup) (rs : ℕ) (action : Action) → rs ≡ length u.heap.roots → list_any (nat_le 16) (registers_of action) ≡ false → is_too_large action ≡ false
    → list_any (nat_le rs) (roots_of action) ≡ false → Fits u action
fits_action u rs (Root to root) e h l k = (leb-false 16 to (or_parts _ _ h).0, omega (arith, e, leb-false rs root (or_parts _ _ k).0))
fits_action u rs (Load weak to object field) e h l k = let p = or_parts _ _ h in (leb-false 16 to p.0, leb-false 16 object (or_parts _ _ p.1).0)
fits_action u rs (Get object field) e h l k = leb-false 16 object (or_parts _ _ h).0
fits_action u rs (Store weak object field value) e h l k = let p = or_parts _ _ h in (leb-false 16 object p.0, leb-false 16 value (or_parts _ _ p.1).0)
fits_action u rs (Put object field value) e h l k = leb-false 16 object (or_parts _ _ h).0
fits_action u rs (New to refs weak data_words tag) e h l k = leb-false 16 to (or_parts _ _ h).0
fits_action u rs (Nil to) e h l k = leb-false 16 to (or_parts _ _ h).0
fits_action u rs (Immediate to payload) e h l k = (leb-false 16 to (or_parts _ _ h).0, leb-false (2 ^ 63) payload l)

pub line_fits : (u : Setup) (ms rs : ℕ) (line : Line) → rs ≡ length u.heap.roots → is_within ms rs line ≡ true → (line.mutator < ms) × Fits u line.action
line_fits u ms rs line e h =
    let last : Result Line TraceFault = cond (list_any (nat_le rs) (roots_of line.action)) (Err (NoSuchRoot 0)) (Ok line) in
    let third : Result Line TraceFault = cond (is_too_large line.action) (Err (NumberTooLarge 0)) last in
    let second : Result Line TraceFault = cond (list_any (nat_le 16) (registers_of line.action)) (Err (NoSuchRegister 0)) third in
    let a = ok_not (nat_le ms line.mutator) (NoSuchMutator 0) second h in
    let b = ok_not (list_any (nat_le 16) (registers_of line.action)) (NoSuchRegister 0) third a.1 in
    let c = ok_not (is_too_large line.action) (NumberTooLarge 0) last b.1 in
    let d = ok_not (list_any (nat_le rs) (roots_of line.action)) (NoSuchRoot 0) (Ok line) c.1 in
    (leb-false ms line.mutator a.0, fits_action u rs line.action e b.0 c.0 d.0)

each : (f : Line → Bool) (xs : List Line) → list_all f xs ≡ true → (j : ℕ) (d : Line) → j < length xs → f (get_or xs j d) ≡ true
each f [] h j d lt = absurd (omega (arith, lt))
each f (x ∷ xs) h zero d lt = (and_both _ _ h).0
each f (x ∷ xs) h (suc j) d lt = each f xs (and_both _ _ h).1 j d (omega (arith, lt))

pub lines_fit : (u : Setup) (ms rs : ℕ) (lines : List Line) → ms ≡ u.mutators → rs ≡ length u.heap.roots → list_all (is_within ms rs) lines ≡ true → AllFit u lines
lines_fit u ms rs lines f e h = λ j d lt. let p = line_fits u ms rs (get_or lines j d) e (each (is_within ms rs) lines h j d lt) in (omega (arith, p.0, f), p.1)
