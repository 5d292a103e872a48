-- `--reachable` is given if and only if a word before the first `--` says so.
use Rattle.std.proofs.Common.{arith, ◌≡◌, ◌∙◌, ◌⊎◌, ◌||◌, ◌++◌, ℕ, Bool, cond, true, false, refl, sym, ap, subst, List, [], ◌∷◌, Some, None, codes, inl, inr, slice_index, true≢false}
use Rattle.std.specs.Prelude.{find}
use Rattle.std.specs.Str.{bytes_eq}
use Rattle.std.proofs.lemmas.Bool.{or_from}
use Rattle.std.proofs.lemmas.Option.{same_Some}
use Rattle.std.proofs.lemmas.Slice.Eq.{bytes_eq-Decides}
use Rattle.command_line.specs.Forms.{Choice, Parameter, fresh, mutators, named, next_form, path_option, workers}
use Rattle.command_line.specs.Given.{Gives, HasOption, IsCommandWith, Use, is_among, is_flag}
use Rattle.command_line.specs.Given.Gives.{apart, joined, no_word, switched, then_values, to_next}
use Rattle.command_line.specs.NextArguments.{says_reachable}

abbrev Text : Type 0
Text = List ℕ

-- a word that is no flag is no word that is one
no_flag : (word flag : Text) → is_flag flag ≡ true → is_flag word ≡ false → bytes_eq word flag ≡ false
no_flag word flag is plain = go (bytes_eq word flag) refl
  where
    go : (t : Bool) → bytes_eq word flag ≡ t → bytes_eq word flag ≡ false
    go true e = absurd (true≢false (sym is ∙ ap is_flag (sym ((bytes_eq-Decides word flag).0 e)) ∙ plain))
    go false e = e

-- a word says nothing if it is neither `--` nor `--reachable`
other_says : (word : Text) (rest : List Text) → bytes_eq word (codes "--") ≡ false → bytes_eq word (codes "--reachable") ≡ false → says_reachable (word ∷ rest) ≡ says_reachable rest
other_says word rest dashes name = rw (dashes, name) refl

-- so does a word that is no flag
plain_says : (word : Text) (rest : List Text) → is_flag word ≡ false → says_reachable (word ∷ rest) ≡ says_reachable rest
plain_says word rest plain = other_says word rest (no_flag word (codes "--") refl plain) (no_flag word (codes "--reachable") refl plain)

-- one of two that is found is the first or the second
one_of_two : {X : Type 0} (test : X → Bool) (a b x : X) → find test (a ∷ b ∷ []) ≡ Some x → (x ≡ a) ⊎ (x ≡ b)
one_of_two {X} test a b x is = go (test a) (test b) is
  where
    go : (t u : Bool) → cond t (Some a) (cond u (Some b) None) ≡ Some x → (x ≡ a) ⊎ (x ≡ b)
    go true u e = inl (sym (same_Some a x e))
    go false true e = inr (sym (same_Some b x e))
    go false false e = absurd cc

-- one of three that is found is one of them
one_of_three : {X : Type 0} (test : X → Bool) (a b c x : X) → find test (a ∷ b ∷ c ∷ []) ≡ Some x → (x ≡ a) ⊎ ((x ≡ b) ⊎ (x ≡ c))
one_of_three {X} test a b c x is = go (test a) is
  where
    go : (t : Bool) → cond t (Some a) (find test (b ∷ c ∷ [])) ≡ Some x → (x ≡ a) ⊎ ((x ≡ b) ⊎ (x ≡ c))
    go true e = inl (sym (same_Some a x e))
    go false e = inr (one_of_two test b c x e)

-- one of four that is found is one of them
one_of_four : {X : Type 0} (test : X → Bool) (a b c d x : X) → find test (a ∷ b ∷ c ∷ d ∷ []) ≡ Some x → (x ≡ a) ⊎ ((x ≡ b) ⊎ ((x ≡ c) ⊎ (x ≡ d)))
one_of_four {X} test a b c d x is = go (test a) is
  where
    go : (t : Bool) → cond t (Some a) (find test (b ∷ c ∷ d ∷ [])) ≡ Some x → (x ≡ a) ⊎ ((x ≡ b) ⊎ ((x ≡ c) ⊎ (x ≡ d)))
    go true e = inl (sym (same_Some a x e))
    go false e = inr (one_of_three test b c d x e)

-- two texts with other bytes at an index are not the same
apart_at : (a b : Text) (k : ℕ) → (slice_index a k ≡ slice_index b k → ⊥) → bytes_eq a b ≡ false
apart_at a b k off = go (bytes_eq a b) refl
  where
    go : (t : Bool) → bytes_eq a b ≡ t → bytes_eq a b ≡ false
    go true e = absurd (off (ap (λ (l : Text). slice_index l k) ((bytes_eq-Decides a b).0 e)))
    go false e = e

-- an option of `next` has another name
record IsOther (o : Choice) : Type 0 where
  name : bytes_eq (codes "reachable") o.takes.id ≡ false
  says : (rest : List Text) → says_reachable ((codes "--" ++ o.takes.id) ∷ rest) ≡ says_reachable rest
  joins : (text : Text) (rest : List Text) → says_reachable ((codes "--" ++ (o.takes.id ++ (codes "=" ++ text))) ∷ rest) ≡ says_reachable rest

other_mutators : IsOther mutators
other_mutators = record {
  name = refl;
  says = λ rest. refl;
  joins = λ text rest. other_says (codes "--mutators=" ++ text) rest (apart_at (codes "--mutators=" ++ text) (codes "--") 2 (λ e. let bad : 109 ≡ 0 = e in absurd (omega arith)))
      (apart_at (codes "--mutators=" ++ text) (codes "--reachable") 2 (λ e. let bad : 109 ≡ 114 = e in absurd (omega arith)));
}

other_fresh : IsOther fresh
other_fresh = record {
  name = refl;
  says = λ rest. refl;
  joins = λ text rest. other_says (codes "--fresh=" ++ text) rest (apart_at (codes "--fresh=" ++ text) (codes "--") 2 (λ e. let bad : 102 ≡ 0 = e in absurd (omega arith)))
      (apart_at (codes "--fresh=" ++ text) (codes "--reachable") 2 (λ e. let bad : 102 ≡ 114 = e in absurd (omega arith)));
}

other_roots : IsOther (path_option (codes "roots"))
other_roots = record {
  name = refl;
  says = λ rest. refl;
  joins = λ text rest. other_says (codes "--roots=" ++ text) rest (apart_at (codes "--roots=" ++ text) (codes "--") 2 (λ e. let bad : 114 ≡ 0 = e in absurd (omega arith)))
      (apart_at (codes "--roots=" ++ text) (codes "--reachable") 3 (λ e. let bad : 111 ≡ 101 = e in absurd (omega arith)));
}

other_workers : IsOther workers
other_workers = record {
  name = refl;
  says = λ rest. refl;
  joins = λ text rest. other_says (codes "--workers=" ++ text) rest (apart_at (codes "--workers=" ++ text) (codes "--") 2 (λ e. let bad : 119 ≡ 0 = e in absurd (omega arith)))
      (apart_at (codes "--workers=" ++ text) (codes "--reachable") 2 (λ e. let bad : 119 ≡ 114 = e in absurd (omega arith)));
}

-- none of these arguments has its name
abbrev AreOff : List Parameter → Type 0
AreOff [] = Unit {0}
AreOff (a ∷ rest) = (bytes_eq (codes "reachable") a.id ≡ false) × AreOff rest

off_paths : (by_reach : Bool) → AreOff (next_form by_reach).arguments
off_paths true = (refl, (refl, (refl, tt)))
off_paths false = (refl, (refl, (refl, (refl, tt))))

option_of : (by_reach : Bool) (o : Choice) → HasOption (next_form by_reach) o → IsOther o
option_of true o has = elim (one_of_four (λ (x : Choice). bytes_eq x.takes.id o.takes.id) mutators fresh (path_option (codes "roots")) workers o has) [
  | inl e ↦ subst IsOther (sym e) other_mutators
  | inr more ↦ elim more [
    | inl e ↦ subst IsOther (sym e) other_fresh
    | inr last ↦ elim last [
      | inl e ↦ subst IsOther (sym e) other_roots
      | inr e ↦ subst IsOther (sym e) other_workers
    ]
  ]
]
option_of false o has = elim (one_of_two (λ (x : Choice). bytes_eq x.takes.id o.takes.id) mutators fresh o has) [
  | inl e ↦ subst IsOther (sym e) other_mutators
  | inr e ↦ subst IsOther (sym e) other_fresh
]

module _ (by_reach : Bool) where
  other_option : (o : Choice) → HasOption (next_form by_reach) o → IsOther o
  other_option o has = option_of by_reach o has

  -- after `--` nothing but arguments is given
  off_ended : {ended : Bool} {ahead : List Parameter} {words : List Text} {given : List Use} → Gives (next_form by_reach) ended ahead words given → ended ≡ true → AreOff ahead
      → is_among (codes "reachable") given ≡ false
  off_ended no_word e off = refl
  off_ended (then_values dashes more) e off = absurd (true≢false (sym e))
  off_ended (to_next {ended} {a} {ahead} {word} {rest} {given} flag more) e off = or_from _ _ off.0 (off_ended more e off.1)
  off_ended (apart has spelled flag more) e off = absurd (true≢false (sym e))
  off_ended (joined has spelled more) e off = absurd (true≢false (sym e))
  off_ended (switched has spelled more) e off = absurd (true≢false (sym e))

  -- before it, the switch is given if a word says so
  given_says : {ended : Bool} {ahead : List Parameter} {words : List Text} {given : List Use} → Gives (next_form by_reach) ended ahead words given → ended ≡ false → AreOff ahead
      → is_among (codes "reachable") given ≡ says_reachable words
  given_says no_word e off = refl
  given_says (then_values {ahead} {word} {rest} {given} dashes more) e off =
      off_ended more refl off ∙ sym (ap (λ (w : Text). says_reachable (w ∷ rest)) dashes)
  given_says (to_next {ended} {a} {ahead} {word} {rest} {given} flag more) e off =
      rw off.0 (given_says more e off.1 ∙ sym (plain_says word rest (flag e)))
  given_says (apart {o} {ahead} {word} {text} {rest} {given} has spelled flag more) e off =
      let other = other_option o has in
      rw other.name (given_says more e off ∙ sym (ap (λ (w : Text). says_reachable (w ∷ text ∷ rest)) spelled ∙ other.says (text ∷ rest) ∙ plain_says text rest flag))
  given_says (joined {o} {ahead} {word} {text} {rest} {given} has spelled more) e off =
      let other = other_option o has in
      rw other.name (given_says more e off ∙ sym (ap (λ (w : Text). says_reachable (w ∷ rest)) spelled ∙ other.joins text rest))
  given_says (switched {s} {ahead} {word} {rest} {given} has spelled more) e off =
      go (one_of_two (λ (x : Parameter). bytes_eq x.id s.id) (named (codes "large")) (named (codes "reachable")) s has) (given_says more e off)
    where
      go : (s ≡ named (codes "large")) ⊎ (s ≡ named (codes "reachable")) → is_among (codes "reachable") given ≡ says_reachable rest
          → (bytes_eq (codes "reachable") s.id || is_among (codes "reachable") given) ≡ says_reachable (word ∷ rest)
      go (inl is) later = ap (λ (p : Parameter). bytes_eq (codes "reachable") p.id || is_among (codes "reachable") given) is ∙ later
          ∙ sym (ap (λ (w : Text). says_reachable (w ∷ rest)) spelled ∙ ap (λ (p : Parameter). says_reachable ((codes "--" ++ p.id) ∷ rest)) is)
      go (inr is) later = ap (λ (p : Parameter). bytes_eq (codes "reachable") p.id || is_among (codes "reachable") given) is
          ∙ sym (ap (λ (w : Text). says_reachable (w ∷ rest)) spelled ∙ ap (λ (p : Parameter). says_reachable ((codes "--" ++ p.id) ∷ rest)) is)

  -- so it is with all words, since the name of the command says nothing
  pub reachable_said : (words : List Text) (given : List Use) → IsCommandWith (next_form by_reach) words given → is_among (codes "reachable") given ≡ says_reachable words
  reachable_said words given is =
      given_says is.gives refl (off_paths by_reach) ∙ sym (ap says_reachable is.begin)
