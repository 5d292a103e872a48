-- Two mutators of a list that met.
use Rattle.std.proofs.Common.{◌≡◌, ◌≢◌, ℕ, ◌+◌, ◌-◌, ◌<◌, List, ◌++◌, All, length, get_or, set, sym, ap, subst, ◌∙◌, arith, get_or-set_same, get_or-set_other, get_or-append-add, length-set}
use Rattle.std.proofs.Math.ListN.{get_or-append}
use Rattle.std.proofs.lemmas.List.{get_or_default, set-append_left, set-append_right}
use native.Mathlib.Decide.{ℕ_discrete}
use mathlib.Core.Logic.{dite}
use Rattle.comp_mutator.specs.Passes.{seen}
use Rattle.comp_mutator.specs.Pass.{Pass}
use Rattle.comp_mutator.specs.Calls.{Meets}
use Rattle.comp_mutator.specs.Mutators.{pass_of}
use Rattle.comp_mutator.specs.declared.mutator.Mutator.{Mutator}
use Rattle.comp_trace.specs.RoundsOfMeetings.{row, HaveMet}
use Rattle.comp_trace.proofs.MeetingRounds.{meeting_of, met_more, MetBelow}

-- what holds of each still holds after one is replaced
pub each_set : {A : Type 0} (Q : A → Type 0) (l : List A) (j : ℕ) (x : A) → All Q l → Q x → All Q (set l j x)
each_set Q l j x h q k d lt =
    let inside : k < length l = omega (arith, lt, length-set l j x) in
    dite (ℕ_discrete k j)
    (λ is. subst Q (sym (ap (λ i. get_or (set l j x) i d) is ∙ get_or-set_same l j x d (omega (arith, is, inside)))) q)
    (λ not. subst Q (sym (get_or-set_other l j k x d not)) (h k d inside))

-- two parts, with one element of each replaced
pub low_pair : {A : Type 0} (whole front back : List A) (k i : ℕ) (x y : A) → whole ≡ front ++ back → length front ≡ i → k < i → set front k x ++ set back 0 y ≡ set (set whole k x) i y
low_pair whole front back k i x y parts long lt =
    let none : i - i ≡ 0 = omega arith in
    sym (ap (λ l. set (set l k x) i y) parts ∙ ap (λ l. set l i y) (set-append_left front back k x (omega (arith, long, lt)))
    ∙ set-append_right (set front k x) back i i y (length-set front k x ∙ long) (omega arith) ∙ ap (λ j. set front k x ++ set back j y) none)

pub high_pair : {A : Type 0} (whole front back : List A) (k i : ℕ) (x y : A) → whole ≡ front ++ back → length front ≡ k → i < k → set front i y ++ set back 0 x ≡ set (set whole k x) i y
high_pair whole front back k i x y parts long lt =
    let none : k - k ≡ 0 = omega arith in
    sym (ap (λ l. set (set l k x) i y) parts ∙ ap (λ l. set l i y) (set-append_right front back k k x long (omega arith) ∙ ap (λ j. front ++ set back j x) none)
    ∙ set-append_left front (set back 0 x) i y (omega (arith, long, lt)))

-- the elements of two parts
pub in_front : {A : Type 0} (whole front back : List A) (j : ℕ) (d e : A) → whole ≡ front ++ back → j < length front → get_or whole j d ≡ get_or front j e
in_front whole front back j d e parts lt = ap (λ l. get_or l j d) parts ∙ get_or-append front back d j lt ∙ get_or_default front j d e lt

pub in_back : {A : Type 0} (whole front back : List A) (j : ℕ) (d e : A) → whole ≡ front ++ back → length front ≡ j → 0 < length back → get_or whole j d ≡ get_or back 0 e
in_back whole front back j d e parts long some =
    let at : j ≡ length front + 0 = omega (arith, long) in
    ap (λ l. get_or l j d) parts ∙ ap (λ i. get_or (front ++ back) i d) at ∙ get_or-append-add front back 0 d ∙ get_or_default back 0 d e some

-- the mutators at indices k and i were a and b
pub pair_met : {L : Type 0} (old new : List (Mutator L)) (k i : ℕ) (a b other m : Mutator L) → k ≢ i → k < length old → i < length old → ((d : Mutator L) → get_or old k d ≡ a) → ((d : Mutator L) → get_or old i d ≡ b)
    → new ≡ set (set old k other) i m → Meets (pass_of b) (pass_of a) (pass_of other) → Meets (pass_of a) (pass_of b) (pass_of m) → ((p : ℕ) → seen (pass_of other) p ≡ seen (pass_of m) p) → HaveMet k i old new
pair_met {L} old new k i a b other m apart low high at_k at_i new_is tells meets same =
    let was_k : (d : Mutator L) → row d old k ≡ pass_of a = λ d. ap pass_of (at_k d) in
    let was_i : (d : Mutator L) → row d old i ≡ pass_of b = λ d. ap pass_of (at_i d) in
    let is_i : (d : Mutator L) → row d new i ≡ pass_of m = λ d. ap (λ l. row d l i) new_is ∙ ap pass_of (get_or-set_same (set old k other) i m d (omega (arith, high, length-set old k other))) in
    let is_k : (d : Mutator L) → row d new k ≡ pass_of other = λ d. ap (λ l. row d l k) new_is ∙ ap pass_of (get_or-set_other (set old k other) i k m d apart ∙ get_or-set_same old k other d low) in
    record {
      other = λ d. moved (pass_of b) (pass_of a) (pass_of other) (row d old i) (row d old k) (row d new k) (was_i d) (was_k d) (is_k d) tells;
      met = λ d. moved (pass_of a) (pass_of b) (pass_of m) (row d old k) (row d old i) (row d new i) (was_k d) (was_i d) (is_i d) meets;
      same = λ d p. ap (λ (x : Pass). seen x p) (is_k d) ∙ same p ∙ ap (λ (x : Pass). seen x p) (sym (is_i d));
      others = λ d j not_i not_k. ap (λ l. row d l j) new_is ∙ ap pass_of (get_or-set_other (set old k other) i j m d not_i ∙ get_or-set_other old k j other d not_k);
    }
  where
    moved : (a b c a' b' c' : Pass) → a' ≡ a → b' ≡ b → c' ≡ c → Meets a b c → Meets a' b' c'
    moved a b c a' b' c' p q r h = subst (λ (x : Pass). Meets x b' c') (sym p) (subst (λ (x : Pass). Meets a x c') (sym q) (subst (λ (x : Pass). Meets a b x) (sym r) h))

-- one more mutator was met
pub met_next : {L : Type 0} (n i k : ℕ) (d : Mutator L) (first : ℕ → Pass) (old new : List (Mutator L)) → i < n → k < n → k ≢ i → MetBelow n i k first (row d old) → HaveMet k i old new → MetBelow n i (k + 1) first (row d new)
met_next n i k d first old new inside there apart below h =
    met_more n i k inside there apart first (row d old) (row d new) below (meeting_of (row d old k) (row d old i) (row d new k) (row d new i) (h.other d) (h.met d) (h.same d)) (h.others d)
