-- What becomes of two handles, when what one of them keeps goes to the other.
use Rattle.std.proofs.Common.{◌≡◌, Bool, true, false, ◌⊎◌, inl, inr, Option, Some, None, is_some, IsTrue, IsFalse, MatchOption, refl, sym, ap, subst, ◌∙◌}
use Rattle.std.proofs.lemmas.Bool.{false≢true}
use Rattle.handle_base.specs.Answers.{bare}
use Rattle.handle_base.specs.Statuses.{not_empty, wrong_handle}
use Rattle.handle_base.specs.HandleKinds.{Fills, Settles, Turns, TurnsKept}
use Rattle.handle_base.specs.declared.answer.Answer.{Answer}
use Rattle.handle_base.specs.declared.kept.Kept.{Kept}
use Rattle.handle_base.specs.declared.opening.Turned.{Turned}

-- equal turns have equal parts
pub kept_by : {t u : Turned} → t ≡ u → t.kept ≡ u.kept
kept_by e = ap (λ (t : Turned). t.kept) e

pub goes_by : {t u : Turned} → t ≡ u → t.goes ≡ u.goes
goes_by e = ap (λ (t : Turned). t.goes) e

pub answer_by : {t u : Turned} → t ≡ u → t.answer ≡ u.answer
answer_by e = ap (λ (t : Turned). t.answer) e

-- a handle that is not full is empty
pub empty_of : (full : Bool) (old mid : Option Kept) → full ≡ is_some old → mid ≡ old → IsFalse full → mid ≡ None
empty_of full None mid is same not = same
empty_of full (Some k) mid is same not = absurd (false≢true (sym not ∙ is))

module _ {X : Type 0} (find : Option Kept → Option X) (Makes : X → Option Kept → Answer → Type 0) (Stays : X → Answer → Type 0) where
  -- a turn of what is kept, given what it is of the kind that is asked for
  abbrev TurnsAt : Option X → Bool → Kept → Kept → Bool → Answer → Type 0
  TurnsAt o full k l goes a =
      MatchOption o (IsFalse goes × (l ≡ k) × (a ≡ bare wrong_handle 0))
      (λ x. (IsTrue full × IsFalse goes × (l ≡ k) × (a ≡ bare not_empty 1)) ⊎ (IsFalse full × ((IsTrue goes × Makes x (Some l) a) ⊎ (IsFalse goes × (l ≡ k) × Stays x a))))

  -- the same of two handles
  abbrev TurnsBy : Option X → Kept → Option Kept → Option Kept → Option Kept → Answer → Type 0
  TurnsBy o k left to new a =
      MatchOption o ((a ≡ bare wrong_handle 0) × ((left ≡ Some k) × (new ≡ to))) (λ x. Fills 1 (λ now c. ((left ≡ None) × Makes x now c) ⊎ ((left ≡ Some k) × (now ≡ None) × Stays x c)) (left ≡ Some k) to new a)

  in_turn : (k l : Kept) (left new : Option Kept) (a : Answer) (o : Option X) (goes full : Bool) (to : Option Kept) → full ≡ is_some to → TurnsAt o full k l goes a → Settles goes l left to new → TurnsBy o k left to new a
  in_turn k l left new a None true full to is h s = absurd (false≢true (sym h.0))
  in_turn k l left new a None false full to is h s = (h.2, (s.0 ∙ ap (λ (y : Kept). Some y) h.1, s.1))
  in_turn k l left new a (Some x) true full None is (inl h) s = absurd (false≢true (sym h.1))
  in_turn k l left new a (Some x) false full None is (inl h) s = absurd (false≢true (sym is ∙ h.0))
  in_turn k l left new a (Some x) true full None is (inr (g, inl h)) s = inl (s.0, subst (λ (n : Option Kept). Makes x n a) (sym s.1) h.1)
  in_turn k l left new a (Some x) false full None is (inr (g, inl h)) s = absurd (false≢true h.0)
  in_turn k l left new a (Some x) true full None is (inr (g, inr h)) s = absurd (false≢true (sym h.0))
  in_turn k l left new a (Some x) false full None is (inr (g, inr h)) s = inr (s.0 ∙ ap (λ (y : Kept). Some y) h.1, s.1, h.2)
  in_turn k l left new a (Some x) true full (Some t) is (inl h) s = absurd (false≢true (sym h.1))
  in_turn k l left new a (Some x) false full (Some t) is (inl h) s = (s.1, h.3, s.0 ∙ ap (λ (y : Kept). Some y) h.2)
  in_turn k l left new a (Some x) goes full (Some t) is (inr h) s = absurd (false≢true (sym h.0 ∙ is))

  -- a turn of two handles is that of what the first one kept, where it was put then
  pub turned : (from to mid left new : Option Kept) (k l : Kept) (full goes : Bool) (a b : Answer) → from ≡ Some k → full ≡ is_some to → mid ≡ to → TurnsKept find Makes Stays full k l goes b
      → Settles goes l left mid new → a ≡ b → Turns find Makes Stays from left to new a
  turned from to mid left new k l full goes a b at is same h s answer =
      let settles = subst (λ (o : Option Kept). Settles goes l left o new) same s in
      subst (λ (o : Option Kept). Turns find Makes Stays o left to new a) (sym at)
      (subst (λ (c : Answer). TurnsBy (find (Some k)) k left to new c) (sym answer) (in_turn k l left new b (find (Some k)) goes full to is h settles))

  module _ (full : Bool) (k l : Kept) (goes : Bool) (a : Answer) where
    -- it is of another kind
    pub kept_other : find (Some k) ≡ None → goes ≡ false → l ≡ k → a ≡ bare wrong_handle 0 → TurnsKept find Makes Stays full k l goes a
    kept_other at stays same is = subst (λ (o : Option X). TurnsAt o full k l goes a) (sym at) (stays, same, is)

    -- the second handle is full
    pub kept_full : (x : X) → find (Some k) ≡ Some x → full ≡ true → goes ≡ false → l ≡ k → a ≡ bare not_empty 1 → TurnsKept find Makes Stays full k l goes a
    kept_full x at is stays same answer = subst (λ (o : Option X). TurnsAt o full k l goes a) (sym at) (inl (is, stays, same, answer))

    -- it goes
    pub kept_gone : (x : X) → find (Some k) ≡ Some x → full ≡ false → goes ≡ true → Makes x (Some l) a → TurnsKept find Makes Stays full k l goes a
    kept_gone x at is gone made = subst (λ (o : Option X). TurnsAt o full k l goes a) (sym at) (inr (is, inl (gone, made)))

    -- it stays
    pub kept_stays : (x : X) → find (Some k) ≡ Some x → full ≡ false → goes ≡ false → l ≡ k → Stays x a → TurnsKept find Makes Stays full k l goes a
    kept_stays x at is stays same why = subst (λ (o : Option X). TurnsAt o full k l goes a) (sym at) (inr (is, inr (stays, same, why)))

  -- it goes or stays, as it is told
  pub kept_either : (full : Bool) (k l : Kept) (goes : Bool) (a : Answer) (x : X) → find (Some k) ≡ Some x → full ≡ false → (goes ≡ true → Makes x (Some l) a) → (goes ≡ false → (l ≡ k) × Stays x a)
      → TurnsKept find Makes Stays full k l goes a
  kept_either full k l true a x at is goes _ = kept_gone full k l true a x at is refl (goes refl)
  kept_either full k l false a x at is _ stays = kept_stays full k l false a x at is refl (stays refl).0 (stays refl).1
