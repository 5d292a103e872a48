-- Pages that a line touches, and who has built them.
use Rattle.std.proofs.Common.{◌≡◌, ◌≢◌, ℕ, ◌<◌, ◌==◌, Bool, true, false, cond, List, [], ◌∷◌, ◌++◌, Option, Some, None, map, filter, refl, sym, ap, subst, ◌∙◌, arith, inl, inr, eqb-true, eq-eqb, ne_eqb}
use Rattle.std.specs.Prelude.{◌⊎◌, ◌||◌, option_map}
use Rattle.std.proofs.lemmas.List.{append-nil, map-append}
use Rattle.std.proofs.lemmas.List.Elements.{filter-append}
use Rattle.std.proofs.lemmas.List.Folds.{list_any-append}
use native.Mathlib.Decide.{ℕ_discrete}
use mathlib.Core.Logic.{dite, ⊎_elim}
use Rattle.heap_layout.specs.Heap.{live}
use Rattle.heap_layout.specs.declared.kind.Kind.{Kind}
use Rattle.heap_layout.specs.Header.{Head}
use Rattle.comp_mutator.specs.Sliding.{shape_at}
use Rattle.comp_mutator.specs.Lists.{only, times}
use Rattle.comp_mutator.specs.Passes.{builds_of, number_of, HasSeenBuilt}
use Rattle.comp_mutator.specs.Setup.{Setup}
use Rattle.comp_mutator.specs.Pass.{Pass}
use Rattle.comp_mutator.proofs.Sums.{times-other, total-append}
use Rattle.comp_mutator.specs.Calls.{Grows}
use Rattle.comp_mutator.specs.Objects.{page_at}
use Rattle.comp_mutator.specs.Allocations.{own_page, used, Allocates}
use Rattle.comp_mutator.specs.Fields.{field_address}
use Rattle.comp_mutator.specs.Reads.{BuildsNothing, BuildsPage, MayBuild, MayBuildTouched}
use Rattle.comp_trace.specs.LineBuilds.{built_after, built_by, is_built, slid_page, BuildsTouched}
use Rattle.comp_trace.specs.RoundsOfMeetings.{Met}
use Rattle.comp_mutator.proofs.Heaps.{page_is as on_page}

-- ---- the page that a call touched

none_there : (found : Option Head) → ((header : Head) → found ≡ Some header → ⊥) → found ≡ None
none_there None h = refl
none_there (Some header) h = absurd (h header refl)

pub field_touched : (u : Setup) (old new : Pass) (kind : Kind) (object field : ℕ) → MayBuildTouched u old new kind object field → BuildsTouched (slid_page u kind object field) old new
field_touched u old new kind object field (p, inl slid, seen) =
    let page : Head → ℕ = λ header. page_at (field_address kind object header field) in
    subst (λ (t : Option ℕ). BuildsTouched t old new) (sym (ap (option_map page) slid.0.slid)) (subst (λ (q : ℕ). MayBuild q old new × HasSeenBuilt new q) slid.0.page_is (slid.1, seen))
field_touched u old new kind object field (p, inr fresh, seen) =
    let page : Head → ℕ = λ header. page_at (field_address kind object header field) in
    let none = none_there (shape_at (live u.heap) object) (λ header is. fresh.0.0.apart (header, is)) in
    subst (λ (t : Option ℕ). BuildsTouched t old new) (sym (ap (option_map page) none)) fresh.1

pub made_touched : (u : Setup) (old new : Pass) (header : Head) (word_address : ℕ) → Allocates u old new header word_address → BuildsTouched (Some (page_at word_address)) old new
made_touched u old new header word_address h =
    let p = own_page u (number_of old) h.index in
    let is : page_at word_address ≡ p = ap page_at h.address_is ∙ on_page p (used u old h.index) (let room = h.lowest.room in omega (arith, room)) in
    subst (λ (q : ℕ). MayBuild q old new × HasSeenBuilt new q) (sym is) (h.builds, h.built)

-- ---- what was built, and one more

built_by_append : (k : ℕ) (xs ys : List (ℕ × ℕ)) → built_by k (xs ++ ys) ≡ built_by k xs ++ built_by k ys
built_by_append k xs ys =
    let who : ℕ × ℕ → Bool = λ x. x.0 == k in
    let page : ℕ × ℕ → ℕ = λ x. x.1 in
    ap (map page) (filter-append who xs ys) ∙ map-append page (filter who xs) (filter who ys)

built_own : (k p : ℕ) → built_by k ((k, p) ∷ []) ≡ p ∷ []
built_own k p = ap (λ (t : Bool). map (λ (x : ℕ × ℕ). x.1) (cond t ((k, p) ∷ []) [])) (eq-eqb k k refl)

built_other : (k m p : ℕ) → m ≢ k → built_by k ((m, p) ∷ []) ≡ []
built_other k m p not = ap (λ (t : Bool). map (λ (x : ℕ × ℕ). x.1) (cond t ((m, p) ∷ []) [])) (ne_eqb m k not)

-- a page that was not built is in nobody's list
times_none : (k p : ℕ) (built : List (ℕ × ℕ)) → is_built built p ≡ false → times p (built_by k built) ≡ 0
times_none k p [] h = refl
times_none k p (x ∷ xs) h =
    let parts = neither (x.1 == p) (is_built xs p) h in
    let rest = times_none k p xs parts.1 in
    elim (x.0 == k) as (λ t. times p (map (λ (y : ℕ × ℕ). y.1) (cond t (x ∷ filter (λ (y : ℕ × ℕ). y.0 == k) xs) (filter (λ (y : ℕ × ℕ). y.0 == k) xs))) ≡ 0) [
      | true ↦ times-other p x.1 (built_by k xs) (λ same. true_false (sym (eq-eqb x.1 p (sym same)) ∙ parts.0)) ∙ rest
      | false ↦ rest
    ]
  where
    neither : (a b : Bool) → (a || b) ≡ false → (a ≡ false) × (b ≡ false)
    neither true b e = cc
    neither false b e = (refl, e)

    true_false : true ≡ false → ⊥
    true_false e = cc

is_built_more : (built : List (ℕ × ℕ)) (m p q : ℕ) → is_built (built ++ (m, p) ∷ []) q ≡ true → (is_built built q ≡ true) ⊎ (p ≡ q)
is_built_more built m p q h = split (is_built built q) (sym (list_any-append (λ (x : ℕ × ℕ). x.1 == q) built ((m, p) ∷ [])) ∙ h)
  where
    alone : (b : Bool) → (b || false) ≡ true → b ≡ true
    alone true e = refl
    alone false e = e

    split : (a : Bool) → (a || ((p == q) || false)) ≡ true → (a ≡ true) ⊎ (p ≡ q)
    split true e = inl refl
    split false e = inr (eqb-true p q (alone (p == q) e))

-- ---- passes by their numbers

-- n passes have seen these pages built
abbrev pub SeeTheirs : ℕ → (ℕ → Pass) → List (ℕ × ℕ) → Type 0
SeeTheirs n passes built = (p k : ℕ) → is_built built p ≡ true → k < n → HasSeenBuilt (passes k) p

-- n passes built just these pages, and all of them know it
pub record BuiltTheirs (n : ℕ) (passes : ℕ → Pass) (built : List (ℕ × ℕ)) : Type 0 where
  pub own : (k : ℕ) → k < n → builds_of (passes k) ≡ built_by k built
  pub known : SeeTheirs n passes built

-- there is a page that all of them have seen built, and that none of them built
abbrev pub HaveStrange : ℕ → (ℕ → Pass) → Type 0
HaveStrange n passes = (p : ℕ) × ((k : ℕ) → k < n → HasSeenBuilt (passes k) p × (times p (builds_of (passes k)) ≡ 0))

-- A call of pass i between two rounds of meetings.
module _ (n i : ℕ) (inside : i < n) (first met acted last : ℕ → Pass) (before : Met n i first met) (after : Met n i acted last)
    (grows : Grows (met i) (acted i)) (others : (k : ℕ) → k ≢ i → acted k ≡ met k)
  where
    -- all have then seen built what one had seen built
    kept : (k j p : ℕ) → k < n → j < n → HasSeenBuilt (first j) p → HasSeenBuilt (last k) p
    kept k j p lt there h = after.other_built k p lt (grows.built p (before.built j p there h))

    builds_others : (k : ℕ) → k < n → k ≢ i → builds_of (last k) ≡ builds_of (first k)
    builds_others k lt not = after.builds k lt ∙ ap builds_of (others k not) ∙ before.builds k lt

    builds_none : BuildsNothing (met i) (acted i) → (k : ℕ) → k < n → builds_of (last k) ≡ builds_of (first k)
    builds_none same k lt = dite (ℕ_discrete k i)
        (λ is. subst (λ (x : ℕ). builds_of (last x) ≡ builds_of (first x)) (sym is) (after.builds i inside ∙ same ∙ before.builds i inside))
        (builds_others k lt)

    builds_one : (p : ℕ) → BuildsPage p (met i) (acted i) → builds_of (last i) ≡ builds_of (first i) ++ p ∷ []
    builds_one p h = after.builds i inside ∙ h.0 ∙ ap (λ (l : List ℕ). l ++ p ∷ []) (before.builds i inside)

    -- nothing was built
    same_built : (built : List (ℕ × ℕ)) → BuildsNothing (met i) (acted i) → BuiltTheirs n first built → BuiltTheirs n last built
    same_built built same h = record {
      own = λ k lt. builds_none same k lt ∙ h.own k lt;
      known = λ p k there lt. kept k k p lt lt (h.known p k there lt);
    }

    -- all have then seen the touched page built
    touch_seen : (p : ℕ) → HasSeenBuilt (acted i) p → (built : List (ℕ × ℕ)) → SeeTheirs n first built → SeeTheirs n last (built ++ (i, p) ∷ [])
    touch_seen p seen built h q k there lt =
        ⊎_elim (λ was. kept k k q lt lt (h q k was lt)) (λ is. subst (HasSeenBuilt (last k)) is (after.other_built k p lt seen)) (is_built_more built i p q there)

    pub see_built_on : (page : Option ℕ) → BuildsTouched page (met i) (acted i) → (built : List (ℕ × ℕ)) → SeeTheirs n first built → SeeTheirs n last (built_after built i page)
    see_built_on None same built h = λ p k there lt. kept k k p lt lt (h p k there lt)
    see_built_on (Some p) call built h = elim (is_built built p) as (λ t. SeeTheirs n last (cond t built (built ++ (i, p) ∷ []))) [
      | true ↦ λ q k there lt. kept k k q lt lt (h q k there lt)
      | false ↦ touch_seen p call.1 built h
    ]

    module _ (p : ℕ) (seen : HasSeenBuilt (acted i) p) (built : List (ℕ × ℕ)) (h : BuiltTheirs n first built) where
      -- the page was built now, for the first time
      one_more : BuildsPage p (met i) (acted i) → BuiltTheirs n last (built ++ (i, p) ∷ [])
      one_more page = record {
        own = λ k lt. dite (ℕ_discrete k i)
            (λ is. subst (λ (x : ℕ). builds_of (last x) ≡ built_by x (built ++ (i, p) ∷ [])) (sym is)
            (builds_one p page ∙ ap (λ (l : List ℕ). l ++ p ∷ []) (h.own i inside) ∙ ap (λ (l : List ℕ). built_by i built ++ l) (sym (built_own i p)) ∙ sym (built_by_append i built ((i, p) ∷ []))))
            (λ not. builds_others k lt not ∙ h.own k lt ∙ sym (append-nil (built_by k built)) ∙ ap (λ (l : List ℕ). built_by k built ++ l) (sym (built_other k i p (λ is. not (sym is))))
            ∙ sym (built_by_append k built ((i, p) ∷ [])));
        known = touch_seen p seen built h.known;
      }

      -- nobody had built the page, nor was it built now
      strange : is_built built p ≡ false → BuildsNothing (met i) (acted i) → HaveStrange n last
      strange none same = (p, λ k lt. (after.other_built k p lt seen, ap (times p) (builds_none same k lt ∙ h.own k lt) ∙ times_none k p built none))

      touched_page : MayBuild p (met i) (acted i) → BuiltTheirs n last (built_after built i (Some p)) ⊎ HaveStrange n last
      touched_page may = by_test (is_built built p) refl
        where
          by_test : (test : Bool) → is_built built p ≡ test → BuiltTheirs n last (cond (is_built built p) built (built ++ (i, p) ∷ [])) ⊎ HaveStrange n last
          by_test true was = ⊎_elim
              (λ same. inl (subst (λ (t : Bool). BuiltTheirs n last (cond t built (built ++ (i, p) ∷ []))) (sym was) (same_built built same h)))
              (λ page. absurd (page.1 (inl (before.built i p inside (h.known p i was inside)))))
              may
          by_test false none = ⊎_elim
              (λ same. inr (strange none same))
              (λ page. inl (subst (λ (t : Bool). BuiltTheirs n last (cond t built (built ++ (i, p) ∷ []))) (sym none) (one_more page)))
              may

    -- a page that none of them built is still built by none of them
    still_strange : (page : Option ℕ) → BuildsTouched page (met i) (acted i) → HaveStrange n first → HaveStrange n last
    still_strange page call (q, h) = (q, λ k lt. (kept k k q lt lt (h k lt).0, unnamed page call k lt))
      where
        unnamed : (page : Option ℕ) → BuildsTouched page (met i) (acted i) → (k : ℕ) → k < n → times q (builds_of (last k)) ≡ 0
        unnamed None same k lt = ap (times q) (builds_none same k lt) ∙ (h k lt).1
        unnamed (Some p) (may, seen) k lt = ⊎_elim
            (λ same. ap (times q) (builds_none same k lt) ∙ (h k lt).1)
            (λ built. dite (ℕ_discrete k i)
            (λ is. subst (λ (x : ℕ). times q (builds_of (last x)) ≡ 0) (sym is)
            (ap (times q) (builds_one p built) ∙ total-append (only q) (builds_of (first i)) (p ∷ [])
            ∙ omega (arith, (h i inside).1, times-other q p [] (λ same. built.1 (inl (subst (HasSeenBuilt (met i)) same (before.built i q inside (h i inside).0)))))))
            (λ not. ap (times q) (builds_others k lt not) ∙ (h k lt).1))
            may

    pub builds_on : (page : Option ℕ) → BuildsTouched page (met i) (acted i) → (built : List (ℕ × ℕ)) → BuiltTheirs n first built ⊎ HaveStrange n first
        → BuiltTheirs n last (built_after built i page) ⊎ HaveStrange n last
    builds_on page call built (inr strange) = inr (still_strange page call strange)
    builds_on None same built (inl h) = inl (same_built built same h)
    builds_on (Some p) call built (inl h) = touched_page p call.1 built h call.0
