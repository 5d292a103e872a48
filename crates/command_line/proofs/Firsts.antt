-- The first element of a list that passes a test.
use Rattle.std.proofs.Common.{◌≡◌, ◌∙◌, ◌||◌, Bool, cond, true, false, refl, sym, ap, subst, List, [], ◌∷◌, Some, None, is_some}
use Rattle.std.specs.Prelude.{find}
use Rattle.std.specs.List.{All, list_all, list_any}
use Rattle.std.proofs.lemmas.Bool.{or_parts}
use Rattle.std.proofs.lemmas.List.Elements.{All-head, All-tail}
use Rattle.std.proofs.lemmas.Option.{same_Some}
use Rattle.clap.proofs.WalkLemmas.{both}

module _ {X : Type 0} (test : X → Bool) where
  -- it passes
  pub found_passes : (xs : List X) (x : X) → find test xs ≡ Some x → test x ≡ true
  found_passes [] x is = absurd cc
  found_passes (y ∷ ys) x is = go (test y) refl is (found_passes ys x)
    where
      go : (t : Bool) → test y ≡ t → cond t (Some y) (find test ys) ≡ Some x → (find test ys ≡ Some x → test x ≡ true) → test x ≡ true
      go true e is later = ap test (sym (same_Some y x is)) ∙ e
      go false e is later = later is

  -- so some element does
  pub found_any : (xs : List X) (x : X) → find test xs ≡ Some x → list_any test xs ≡ true
  found_any [] x is = absurd cc
  found_any (y ∷ ys) x is = go (test y) is (found_any ys x)
    where
      go : (t : Bool) → cond t (Some y) (find test ys) ≡ Some x → (find test ys ≡ Some x → list_any test ys ≡ true) → (t || list_any test ys) ≡ true
      go true is later = refl
      go false is later = later is

  -- there is none if no element passes
  pub none_found : (xs : List X) → list_any test xs ≡ false → find test xs ≡ None
  none_found [] none = refl
  none_found (y ∷ ys) none =
      let two = or_parts (test y) (list_any test ys) none in
      rw two.0 (none_found ys two.1)

  -- there is one if and only if some element passes
  pub any_found : (xs : List X) → list_any test xs ≡ is_some (find test xs)
  any_found [] = refl
  any_found (y ∷ ys) = go (test y) (any_found ys)
    where
      go : (t : Bool) → list_any test ys ≡ is_some (find test ys) → (t || list_any test ys) ≡ is_some (cond t (Some y) (find test ys))
      go true later = refl
      go false later = later

  -- what holds of each element holds of it
  pub found_all : (P : X → Type 0) (xs : List X) (x : X) → All P xs → find test xs ≡ Some x → P x
  found_all P [] x all is = absurd cc
  found_all P (y ∷ ys) x all is = go (test y) is (found_all P ys x (All-tail P y ys all))
    where
      go : (t : Bool) → cond t (Some y) (find test ys) ≡ Some x → (find test ys ≡ Some x → P x) → P x
      go true is later = subst P (same_Some y x is) (All-head P y ys all)
      go false is later = later is

  -- and so does another test that each element passes
  pub found_holds : (holds : X → Bool) (xs : List X) (x : X) → list_all holds xs ≡ true → find test xs ≡ Some x → holds x ≡ true
  found_holds holds [] x all is = absurd cc
  found_holds holds (y ∷ ys) x all is = go (test y) is (found_holds holds ys x (both _ _ all).1)
    where
      go : (t : Bool) → cond t (Some y) (find test ys) ≡ Some x → (find test ys ≡ Some x → holds x ≡ true) → holds x ≡ true
      go true is later = ap holds (sym (same_Some y x is)) ∙ (both _ _ all).0
      go false is later = later is
