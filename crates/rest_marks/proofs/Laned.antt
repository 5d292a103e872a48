-- What one of several markers knows, and what it looked at.
use Rattle.std.proofs.Common.{◌≡◌, ℕ, ◌-◌, ◌^◌, ◌<◌, ◌≤◌, ◌==◌, ◌⊎◌, true, false, leb, List, [], ◌∷◌, ◌++◌, length, get_or, inl, inr, refl, sym, ap, subst, ◌∙◌, arith, length-append}
use Rattle.std.proofs.lemmas.Bool.{cases_Bool, cases_lt, cases_eq, both_ways, or_cases, or_left, or_right, and_parts, and_from}
use Rattle.std.proofs.lemmas.List.{get_or_append_left, get_or-append_right}
use Rattle.heap_layout.specs.declared.edition.Edition.{Edition}
use Rattle.heap_layout.specs.Bits.{bit, leads}
use Rattle.heap_layout.specs.Heap.{object_at}
use Rattle.heap_layout.specs.Values.{is_immediate, or_immediate}
use Rattle.reachability.specs.Queue.{is_address}
use Rattle.rest_marks.specs.Lanes.{IsLedTo, IsLedToUnknown, IsTold}
use Rattle.rest_marks.specs.Looks.{AreLookedAt}
use Rattle.rest_marks.specs.Marks.{AllKept}
use Rattle.rest_marks.specs.Meeting.{IsDone}
use Rattle.rest_marks.specs.Reached.{IsWordOf}

-- ---- what a lane was told

-- what is not known now was not known before
pub unknown-before : (old known : List ℕ) (i : ℕ) → ((j : ℕ) → bit old j ≡ true → bit known j ≡ true) → bit known i ≡ false → bit old i ≡ false
unknown-before old known i more off = elim (cases_Bool (bit old i)) [
  | inl on ↦ absurd (both_ways (bit known i) off (more i on))
  | inr out ↦ out
]

pub told-none : (led : ℕ → Type 0) (met known : List ℕ) → IsTold led met known met known
told-none led met known = record {
  stay = λ k lt. (lt, refl);
  more = λ i set. set;
  told = λ i set. inl set;
  claimed = λ k above below. absurd (omega (arith, above, below));
}

pub told-wide : (led wide : ℕ → Type 0) (old_met old_known met known : List ℕ) → ((i : ℕ) → led i → wide i)
    → IsTold led old_met old_known met known → IsTold wide old_met old_known met known
told-wide led wide old_met old_known met known all is = record {
  stay = is.stay;
  more = is.more;
  told = λ i set. elim (is.told i set) [
    | inl before ↦ inl before
    | inr new ↦ inr (all i new)
  ];
  claimed = λ k above below. (let new = is.claimed k above below in (new.0, all (get_or met k 0) new.1));
}

-- the queue is no shorter
pub told-longer : (led : ℕ → Type 0) (old_met old_known met known : List ℕ) → IsTold led old_met old_known met known → length old_met ≤ length met
told-longer led old_met old_known met known is = elim (cases_lt 0 (length old_met)) [
  | inl some ↦ (let last = (is.stay (length old_met - 1) (omega (arith, some))).0 in omega (arith, last, some))
  | inr none ↦ omega (arith, none)
]

-- first of these objects, and then of those
pub told-then : (led : ℕ → Type 0) (a a_known b b_known c c_known : List ℕ) → IsTold led a a_known b b_known → IsTold led b b_known c c_known
    → IsTold led a a_known c c_known
told-then led a a_known b b_known c c_known one two = record {
  stay = λ k lt. (let first = one.stay k lt in let second = two.stay k first.0 in (second.0, second.1 ∙ first.1));
  more = λ i set. two.more i (one.more i set);
  told = λ i set. elim (two.told i set) [
    | inl before ↦ one.told i before
    | inr new ↦ inr new
  ];
  claimed = λ k above below. elim (cases_lt k (length b)) [
    | inl earlier ↦ subst (λ (i : ℕ). (bit a_known i ≡ false) × led i) (sym (two.stay k earlier).1) (one.claimed k above earlier)
    | inr later ↦ (let new = two.claimed k later below in (unknown-before a_known b_known (get_or c k 0) one.more new.0, new.1))
  ];
}

-- of one object
pub told-one : (led : ℕ → Type 0) (old old_known new known : List ℕ) (i : ℕ) → led i → bit old_known i ≡ false
    → (new ≡ old) ⊎ (new ≡ old ++ i ∷ []) → bit known i ≡ true → ((j : ℕ) → (j ≡ i → ⊥) → bit known j ≡ bit old_known j)
    → IsTold led old old_known new known
told-one led old old_known new known i is off queue here elsewhere = record {
  stay = λ k lt. elim queue [
    | inl same ↦ subst (λ (xs : List ℕ). (k < length xs) × (get_or xs k 0 ≡ get_or old k 0)) (sym same) (lt, refl)
    | inr more ↦
        subst (λ (xs : List ℕ). (k < length xs) × (get_or xs k 0 ≡ get_or old k 0)) (sym more)
        (omega (arith, lt, length-append old (i ∷ [])), get_or_append_left old (i ∷ []) 0 k lt)
  ];
  more = λ j set. elim (cases_eq j i) [
    | inl same ↦ subst (λ (n : ℕ). bit known n ≡ true) (sym same) here
    | inr other ↦ elsewhere j other ∙ set
  ];
  told = λ j set. elim (cases_eq j i) [
    | inl same ↦ inr (subst led (sym same) is)
    | inr other ↦ inl (sym (elsewhere j other) ∙ set)
  ];
  claimed = λ k above below. elim queue [
    | inl same ↦ absurd (omega (arith, above, below, ap (λ (xs : List ℕ). length xs) same))
    | inr more ↦
        let last : k ≡ length old = omega (arith, above, below, ap (λ (xs : List ℕ). length xs) more, length-append old (i ∷ [])) in
        let zero : k - length old ≡ 0 = omega (arith, last) in
        let at : get_or new k 0 ≡ i =
        ap (λ (xs : List ℕ). get_or xs k 0) more ∙ get_or-append_right old (i ∷ []) (length old) k 0 refl above ∙ ap (λ (n : ℕ). get_or (i ∷ []) n 0) zero in
        subst (λ (n : ℕ). (bit old_known n ≡ false) × led n) (sym at) (off, is)
  ];
}

-- a value by itself, among all values
pub led-one : (count : ℕ) (values : List ℕ) (word k : ℕ) → k < length values → get_or values k 0 ≡ word → (i : ℕ) → IsLedTo count (word ∷ []) i → IsLedTo count values i
led-one count values word k lt at i of =
    let first : of.1 ≡ 0 = omega (arith, of.2) in
    (of.0, k, lt, at ∙ sym (ap (λ (n : ℕ). get_or (word ∷ []) n 0) first) ∙ of.3)

-- memory ran out for a value by itself, after others
pub lack-one : (count : ℕ) (old known values : List ℕ) (word k : ℕ) → k < length values → get_or values k 0 ≡ word
    → ((j : ℕ) → bit old j ≡ true → bit known j ≡ true) → IsLedToUnknown count known (word ∷ []) → IsLedToUnknown count old values
lack-one count old known values word k lt at more of = (of.0, led-one count values word k lt at of.0 of.1, unknown-before old known of.0 more of.2)

-- where more objects are known, a word that leads to a known one does still
pub kept-word : (e : Edition) (old known : List ℕ) (word : ℕ) → ((i : ℕ) → bit old i ≡ true → bit known i ≡ true)
    → or_immediate e (leads old) word ≡ true → or_immediate e (leads known) word ≡ true
kept-word e old known word more is = elim (or_cases (is_immediate e word) (leads old word) is) [
  | inl immediate ↦ or_left (is_immediate e word) (leads known word) immediate
  | inr to ↦ or_right (is_immediate e word) (leads known word) (elim (or_cases (word == 0) (is_address (bit old) word) to) [
    | inl null ↦ or_left (word == 0) (is_address (bit known) word) null
    | inr address ↦
        let parts = and_parts (leb (2 ^ 32) word) (bit old (word - 2 ^ 32)) address in
        or_right (word == 0) (is_address (bit known) word) (and_from (leb (2 ^ 32) word) (bit known (word - 2 ^ 32)) parts.0 (more (word - 2 ^ 32) parts.1))
  ])
]

-- ---- what a lane looked at

-- where more objects are known, what was looked at is as it must be still
pub looked-known : (e : Edition) (words met : List ℕ) (looked : ℕ) (old known bits : List ℕ) → ((i : ℕ) → bit old i ≡ true → bit known i ≡ true)
    → AreLookedAt e words met looked old bits → AreLookedAt e words met looked known bits
looked-known e words met looked old known bits more are = record {
  done = are.done;
  only = are.only;
  apart = are.apart;
  closed = λ k lt j below. kept-word e old known _ more (are.closed k lt j below);
}

-- where the objects at which it looked are at the same places, so is what was looked at
pub looked-stay : (e : Edition) (words old new : List ℕ) (looked : ℕ) (known bits : List ℕ) → ((k : ℕ) → k < looked → get_or new k 0 ≡ get_or old k 0)
    → AreLookedAt e words old looked known bits → AreLookedAt e words new looked known bits
looked-stay e words old new looked known bits stay are = record {
  done = λ k lt. subst (IsDone e words bits) (sym (stay k lt)) (are.done k lt);
  only = λ j set. (let at = are.only j set in (at.0, at.1, subst (λ (i : ℕ). IsWordOf e words i j) (sym (stay at.0 at.1)) at.2));
  apart = λ k l n order lt one two.
      are.apart k l n order lt (subst (λ (i : ℕ). IsWordOf e words i n) (stay k (omega (arith, order, lt))) one) (subst (λ (i : ℕ). IsWordOf e words i n) (stay l lt) two);
  closed = λ k lt. subst (λ (i : ℕ). AllKept e known (object_at e words i).references) (sym (stay k lt)) (are.closed k lt);
}

-- so it is where the lane was told of more
pub looked-told : (led : ℕ → Type 0) (e : Edition) (words old old_known new known : List ℕ) (looked : ℕ) (bits : List ℕ) → looked ≤ length old
    → IsTold led old old_known new known → AreLookedAt e words old looked old_known bits → AreLookedAt e words new looked known bits
looked-told led e words old old_known new known looked bits within is are =
    looked-known e words new looked old_known known bits is.more
    (looked-stay e words old new looked old_known bits (λ k lt. (is.stay k (omega (arith, lt, within))).1) are)
