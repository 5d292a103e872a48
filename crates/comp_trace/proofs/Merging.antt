-- The journal of a page that has all that the mutators did.
use Rattle.std.proofs.Common.{◌≡◌, ◌≢◌, ℕ, ◌+◌, ◌<◌, ◌≤◌, ◌==◌, Bool, true, false, cond, List, [], ◌∷◌, ◌++◌, refl, sym, ap, subst, ◌∙◌, arith, inl, inr}
use Rattle.std.proofs.lemmas.List.{append-nil}
use Rattle.std.specs.List.{All}
use Rattle.std.proofs.lemmas.List.Elements.{All-head, All-tail}
use Rattle.std.proofs.lemmas.Bool.{cases_lt, eq-eqb, ne_eqb}
use native.Mathlib.Decide.{ℕ_discrete}
use mathlib.Core.Logic.{dite}
use Rattle.comp_mutator.specs.Entry.{Entry}
use Rattle.comp_mutator.specs.Lists.{by, on, Rises, StartsWith}
use Rattle.comp_mutator.proofs.Joined.{by-append}
use Rattle.comp_mutator.proofs.Meetings.{between}
use Rattle.comp_mutator.proofs.OwnPages.{on_append}
use Rattle.comp_trace.specs.WrittenEntries.{WrittenEntries, IsMerged}

by_begins : (k : ℕ) (a b : List Entry) → StartsWith b a → StartsWith (by k b) (by k a)
by_begins k a b h = (by k h.0, ap (by k) h.1 ∙ by-append k a h.0)

-- what holds of a pass's entries before and after holds between
pub by_between : (k : ℕ) (a b c d : List Entry) → StartsWith b a → StartsWith c b → by k a ≡ d → by k c ≡ d → by k b ≡ d
by_between k a b c d h i e f = between (by k a) (by k b) (by k c) (by_begins k a b h) (by_begins k b c i) (f ∙ sym e) ∙ e

-- ---- journals that have the same entries of each writer are the same
pub mine : (e : Entry) (es : List Entry) (k : ℕ) → e.writer ≡ k → by k (e ∷ es) ≡ e ∷ by k es
mine e es k h = ap (λ (t : Bool). cond t (e ∷ by k es) (by k es)) (eq-eqb e.writer k h)

pub others : (e : Entry) (es : List Entry) (k : ℕ) → e.writer ≢ k → by k (e ∷ es) ≡ by k es
others e es k h = ap (λ (t : Bool). cond t (e ∷ by k es) (by k es)) (ne_eqb e.writer k h)

head_is : (x y : Entry) (xs ys : List Entry) → x ∷ xs ≡ y ∷ ys → x ≡ y
head_is x y xs ys e = cc

tail_is : (x y : Entry) (xs ys : List Entry) → x ∷ xs ≡ y ∷ ys → xs ≡ ys
tail_is x y xs ys e = cc

-- the first entry of a writer has a stamp from `low` on
first_above : (k low high : ℕ) (j : List Entry) (e : Entry) (more : List Entry) → Rises low j high → by k j ≡ e ∷ more → low ≤ e.stamp
first_above k low high [] e more h same = absurd cc
first_above k low high (f ∷ fs) e more h same =
    dite (ℕ_discrete f.writer k)
    (λ w. let is : f ≡ e = head_is f e (by k fs) more (sym (mine f fs k w) ∙ same) in omega (arith, h.0, ap (λ (x : Entry). x.stamp) is))
    (λ n. let later = first_above k (f.stamp + 1) high fs e more h.1 (sym (others f fs k n) ∙ same) in omega (arith, later, h.0))

-- two journals have the same entries of each writer
abbrev Alike : List Entry → List Entry → Type 0
Alike j l = (k : ℕ) → by k j ≡ by k l

none_alike : (f : Entry) (fs : List Entry) → Alike [] (f ∷ fs) → ⊥
none_alike f fs same = let h = same f.writer ∙ mine f fs f.writer refl in cc

-- their first entries are the same
same_first : (low low' high high' : ℕ) (e f : Entry) (es fs : List Entry) → Rises low (e ∷ es) high → Rises low' (f ∷ fs) high' → Alike (e ∷ es) (f ∷ fs) → e ≡ f
same_first low low' high high' e f es fs h i same =
    dite (ℕ_discrete f.writer e.writer)
    (λ w. head_is e f (by e.writer es) (by e.writer fs) (sym (mine e es e.writer refl) ∙ same e.writer ∙ mine f fs e.writer w))
    (λ n.
    let later = first_above e.writer (f.stamp + 1) high' fs e (by e.writer es) i.1 (sym (others f fs e.writer n) ∙ sym (same e.writer) ∙ mine e es e.writer refl) in
    let other = first_above f.writer (e.stamp + 1) high es f (by f.writer fs) h.1 (sym (others e es f.writer (λ w. n (sym w))) ∙ same f.writer ∙ mine f fs f.writer refl) in
    absurd (omega (arith, later, other)))

same_rest : (e : Entry) (es fs : List Entry) → Alike (e ∷ es) (e ∷ fs) → Alike es fs
same_rest e es fs same k =
    dite (ℕ_discrete e.writer k)
    (λ w. tail_is e e (by k es) (by k fs) (sym (mine e es k w) ∙ same k ∙ mine e fs k w))
    (λ n. sym (others e es k n) ∙ same k ∙ others e fs k n)

-- journals whose stamps rise, and which have the same entries of each writer, are the same
pub alike_same : (j l : List Entry) (low low' high high' : ℕ) → Rises low j high → Rises low' l high' → Alike j l → j ≡ l
alike_same [] [] low low' high high' h i same = refl
alike_same [] (f ∷ fs) low low' high high' h i same = absurd (none_alike f fs same)
alike_same (e ∷ es) [] low low' high high' h i same = absurd (none_alike e es (λ k. sym (same k)))
alike_same (e ∷ es) (f ∷ fs) low low' high high' h i same =
    let first = same_first low low' high high' e f es fs h i same in
    let moved : Alike (e ∷ es) (e ∷ fs) = λ k. same k ∙ ap (λ (x : Entry). by k (x ∷ fs)) (sym first) in
    ap (λ (x : Entry). x ∷ es) first ∙ ap (λ (xs : List Entry). f ∷ xs) (alike_same es fs (e.stamp + 1) (f.stamp + 1) high high' h.1 i.1 (same_rest e es fs moved))

-- there is at most one merged journal
pub merged_once : (n : ℕ) (written : WrittenEntries) (p : ℕ) (j l : List Entry) → IsMerged n written p j → IsMerged n written p l → j ≡ l
merged_once n written p j l h i =
    alike_same j l 0 0 h.rises.0 i.rises.0 h.rises.1 i.rises.1
    (λ k. elim (cases_lt k n) [ inl lt ↦ h.own k lt ∙ sym (i.own k lt) | inr le ↦ h.strangers k le ∙ sym (i.strangers k le) ])

-- ---- one entry more

-- what the mutators did, with one entry more of mutator i
abbrev pub IsOneMore : ℕ → WrittenEntries → WrittenEntries → ℕ → ℕ → Entry → Type 0
IsOneMore n written later i p e = (later i ≡ written i ++ (p, e) ∷ []) × ((k : ℕ) → k < n → k ≢ i → later k ≡ written k)

rises_with : (low : ℕ) (j : List Entry) (high : ℕ) (e : Entry) → Rises low j high → low ≤ e.stamp → All (λ (x : Entry). x.stamp < e.stamp) j → Rises low (j ++ e ∷ []) (e.stamp + 1)
rises_with low [] high e h le below = (le, omega arith)
rises_with low (f ∷ fs) high e h le below = (h.0, rises_with (f.stamp + 1) fs high e h.1 (omega (arith, All-head (λ (x : Entry). x.stamp < e.stamp) f fs below)) (All-tail (λ (x : Entry). x.stamp < e.stamp) f fs below))

-- the journal with that entry at its end is merged
pub merged_more : (n : ℕ) (written later : WrittenEntries) (i p q : ℕ) (e : Entry) (j : List Entry) → IsOneMore n written later i p e → i < n → e.writer ≡ i → All (λ (x : Entry). x.stamp < e.stamp) j
    → IsMerged n written q j → IsMerged n later q (j ++ on q ((p, e) ∷ []))
merged_more n written later i p q e j more lt writer below h =
    record {
      rises = elim (p == q) as (λ t. (high : ℕ) × Rises 0 (j ++ cond t (e ∷ []) []) high) [
        | true ↦ (e.stamp + 1, rises_with 0 j h.rises.0 e h.rises.1 (omega arith) below)
        | false ↦ (h.rises.0, subst (λ (l : List Entry). Rises 0 l h.rises.0) (sym (append-nil j)) h.rises.1)
      ];
      own = λ k in_. dite (ℕ_discrete k i)
          (λ is. by-append k j (on q ((p, e) ∷ [])) ∙ ap (λ (l : List Entry). l ++ by k (on q ((p, e) ∷ []))) (h.own k in_)
          ∙ ap (λ (l : List Entry). on q (written k) ++ l) (by_mine k q p e (writer ∙ sym is))
          ∙ sym (ap (on q) (subst (λ (x : ℕ). later x ≡ written x ++ (p, e) ∷ []) (sym is) more.0) ∙ on_append q (written k) ((p, e) ∷ [])))
          (λ not. by-append k j (on q ((p, e) ∷ [])) ∙ ap (λ (l : List Entry). by k j ++ l) (by_others k q p e (λ w. not (sym w ∙ writer))) ∙ append-nil (by k j) ∙ h.own k in_ ∙ ap (on q) (sym (more.1 k in_ not)));
      strangers = λ k le. by-append k j (on q ((p, e) ∷ [])) ∙ ap (λ (l : List Entry). by k j ++ l) (by_others k q p e (λ w. omega (arith, w, writer, le, lt))) ∙ append-nil (by k j) ∙ h.strangers k le;
    }
  where
    by_mine : (k q p : ℕ) (e : Entry) → e.writer ≡ k → by k (on q ((p, e) ∷ [])) ≡ on q ((p, e) ∷ [])
    by_mine k q p e w = elim (p == q) as (λ t. by k (cond t (e ∷ []) []) ≡ cond t (e ∷ []) []) [ true ↦ mine e [] k w | false ↦ refl ]

    by_others : (k q p : ℕ) (e : Entry) → e.writer ≢ k → by k (on q ((p, e) ∷ [])) ≡ []
    by_others k q p e w = elim (p == q) as (λ t. by k (cond t (e ∷ []) []) ≡ []) [ true ↦ others e [] k w | false ↦ refl ]

-- a merged journal of some deeds is one of equal deeds
pub merged_by : (n : ℕ) (written later : WrittenEntries) (p : ℕ) (j : List Entry) → ((k : ℕ) → k < n → written k ≡ later k) → IsMerged n written p j → IsMerged n later p j
merged_by n written later p j same h = record { rises = h.rises; own = λ k lt. h.own k lt ∙ ap (on p) (same k lt); strangers = h.strangers }

-- a merged journal is merged still if nothing is added
pub merged_still : (n : ℕ) (written : WrittenEntries) (p : ℕ) (j : List Entry) → IsMerged n written p j → IsMerged n written p (j ++ [])
merged_still n written p j = subst (IsMerged n written p) (sym (append-nil j))
