-- Changes of one region queue at a time, except for what was taken.
use Rattle.std.proofs.Common.{◌≡◌, ◌≢◌, ℕ, zero, suc, ◌+◌, Bool, cond, List, [], ◌∷◌, ◌++◌, map, set, refl, sym, ap, subst, ◌∙◌, ⊎_elim, arith}
use Rattle.std.proofs.lemmas.Bool.{eq-eqb, ne_eqb}
use mathlib.Core.Option.{some, some-injective, some-ne-none}
use lib.ListN.{get_elem?}
use native.Mathlib.Decide.{ℕ_discrete}
use Rattle.comp_mutator.specs.Lists.{only, times, Each}
use Rattle.comp_mutator.proofs.Sums.{each-set, total-append, total-set}
use Rattle.comp_mutator.proofs.Rows.{at_map, at_map_back, at_set}
use Rattle.comp_sweep.specs.Queues.{all_ways_to, deques, put_in, ways_to, AreDistributed, IsAlone, LeadsTo, Linked, Standing}

pub only_same : (q x : ℕ) → q ≡ x → only q x ≡ 1
only_same q x e = ap (λ (b : Bool). cond b 1 0) (eq-eqb q x e)

pub only_other : (q x : ℕ) → (q ≡ x → ⊥) → only q x ≡ 0
only_other q x ne = ap (λ (b : Bool). cond b 1 0) (ne_eqb q x ne)

-- a function of the elements that the change leaves unchanged
pub map_same : {A B : Type 0} (f : A → B) (xs : List A) (k : ℕ) (v w : A) → get_elem? xs k ≡ some v → f w ≡ f v → map f (set xs k w) ≡ map f xs
map_same f [] k v w at e = absurd (some-ne-none v (sym at))
map_same f (x ∷ xs) zero v w at e = ap (λ y. y ∷ map f xs) (e ∙ ap f (sym (some-injective x v at)))
map_same f (x ∷ xs) (suc k) v w at e = ap (λ l. f x ∷ l) (map_same f xs k v w at e)

module _ {D : Type 0} where
  abbrev pub stand : D → List ℕ → ℕ → ℕ → List (ℕ × D) → Standing D
  stand d put out back ways = record { deque = d; put = put; out = out; back = back; ways = ways }

  pub stand_same : (d e : D) (p q : List ℕ) (o m b c : ℕ) (v w : List (ℕ × D)) → d ≡ e → p ≡ q → o ≡ m → b ≡ c → v ≡ w → stand d p o b v ≡ stand e q m c w
  stand_same d e p q o m b c v w ed ep eo eb ev =
      ap (λ x. stand x p o b v) ed ∙ ap (λ x. stand e x o b v) ep ∙ ap (λ x. stand e q x b v) eo ∙ ap (λ x. stand e q m x v) eb ∙ ap (λ x. stand e q m c x) ev

  module _ (queues : List (Standing D)) (k : ℕ) (s t : Standing D) (loose more : List (ℕ × D)) (at : get_elem? queues k ≡ some s) (deque : t.deque ≡ s.deque) where
    same_deques : deques (set queues k t) ≡ deques queues
    same_deques = map_same (λ (queue : Standing D). queue.deque) queues k s t at deque

    -- a change at k that loses no way
    linked_set : Linked queues loose → Each t.ways (LeadsTo (deques queues)) → Each more (LeadsTo (deques queues))
        → ((j : ℕ) → (j ≡ k → ⊥) → ways_to j t.ways + ways_to j more ≡ ways_to j s.ways + ways_to j loose)
        → t.out + s.back + ways_to k s.ways + ways_to k loose ≡ s.out + t.back + ways_to k t.ways + ways_to k more → Linked (set queues k t) more
    linked_set h lead lead_more other here = record {
      lead = subst (λ ds. Each (set queues k t) (λ (queue : Standing D). Each queue.ways (LeadsTo ds))) (sym same_deques)
          (each-set (λ (queue : Standing D). Each queue.ways (LeadsTo (deques queues))) queues k t h.lead lead);
      loose_lead = subst (λ ds. Each more (LeadsTo ds)) (sym same_deques) lead_more;
      whole = λ j a there.
          let sums = total-set (λ (queue : Standing D). ways_to j queue.ways) queues k s t at in
          ⊎_elim (λ (x : (j ≡ k) × (t ≡ a)).
          subst (λ (b : Standing D). b.out ≡ b.back + all_ways_to j (set queues k t) + ways_to j more) x.1
          (subst (λ i. t.out ≡ t.back + all_ways_to i (set queues k t) + ways_to i more) (sym x.0)
          (omega (arith, total-set (λ (queue : Standing D). ways_to k queue.ways) queues k s t at, here, h.whole k s at))))
          (λ (x : (j ≢ k) × (get_elem? queues j ≡ some a)). omega (arith, sums, other j x.0, h.whole j a x.1)) (at_set queues k j t a there);
    }

  module _ (queues : List (Standing D)) (k : ℕ) (s t : Standing D) (at : get_elem? queues k ≡ some s) (deque : t.deque ≡ s.deque) where
    -- regions are put
    pub linked_put : (loose : List (ℕ × D)) → t.out ≡ s.out → t.back ≡ s.back → t.ways ≡ s.ways → Linked queues loose → Linked (set queues k t) loose
    linked_put loose eo eb ew h =
        linked_set queues k s t loose loose at deque h (subst (λ l. Each l (LeadsTo (deques queues))) (sym ew) (h.lead k s at)) h.loose_lead
        (λ j ne. ap (λ l. ways_to j l + ways_to j loose) ew) (omega (arith, eo, eb, ap (ways_to k) ew))

    -- a way to k is made
    pub linked_out : t.out ≡ s.out + 1 → t.back ≡ s.back → t.ways ≡ s.ways → Linked queues [] → Linked (set queues k t) ((k, s.deque) ∷ [])
    linked_out eo eb ew h =
        linked_set queues k s t [] ((k, s.deque) ∷ []) at deque h (subst (λ l. Each l (LeadsTo (deques queues))) (sym ew) (h.lead k s at)) lead
        (λ j ne. omega (arith, ap (ways_to j) ew, only_other j k ne)) (omega (arith, eo, eb, ap (ways_to k) ew, only_same k k refl))
      where
        lead : Each ((k, s.deque) ∷ []) (LeadsTo (deques queues))
        lead zero w e = subst (LeadsTo (deques queues)) (some-injective (k, s.deque) w e) (at_map (λ (queue : Standing D). queue.deque) queues k s at)
        lead (suc j) w e = absurd (some-ne-none w (sym e))

    -- a loose way gets its region queue
    pub linked_hold : (w : ℕ × D) → t.out ≡ s.out → t.back ≡ s.back → t.ways ≡ s.ways ++ w ∷ [] → Linked queues (w ∷ []) → Linked (set queues k t) []
    linked_hold w eo eb ew h =
        linked_set queues k s t (w ∷ []) [] at deque h
        (subst (λ l. Each l (LeadsTo (deques queues))) (sym ew) (each_both s.ways (h.lead k s at))) (λ j x e. absurd (some-ne-none x (sym e)))
        (λ j ne. omega (arith, ap (ways_to j) ew, total-append (λ (v : ℕ × D). only j v.0) s.ways (w ∷ [])))
        (omega (arith, eo, eb, ap (ways_to k) ew, total-append (λ (v : ℕ × D). only k v.0) s.ways (w ∷ [])))
      where
        each_both : (l : List (ℕ × D)) → Each l (LeadsTo (deques queues)) → Each (l ++ w ∷ []) (LeadsTo (deques queues))
        each_both [] each j x e = h.loose_lead j x e
        each_both (y ∷ ys) each zero x e = each zero x e
        each_both (y ∷ ys) each (suc j) x e = each_both ys (λ i z f. each (suc i) z f) j x e

    -- the ways of k are loose
    pub linked_free : t.out ≡ s.out → t.back ≡ s.back → t.ways ≡ [] → Linked queues [] → Linked (set queues k t) s.ways
    linked_free eo eb ew h =
        linked_set queues k s t [] s.ways at deque h (subst (λ l. Each l (LeadsTo (deques queues))) (sym ew) (λ j x e. absurd (some-ne-none x (sym e)))) (h.lead k s at)
        (λ j ne. omega (arith, ap (ways_to j) ew)) (omega (arith, eo, eb, ap (ways_to k) ew))

    -- a loose way to k came back
    pub linked_back : (w : ℕ × D) (rest : List (ℕ × D)) → w.0 ≡ k → t.out ≡ s.out → t.back ≡ s.back + 1 → t.ways ≡ s.ways → Linked queues (w ∷ rest) → Linked (set queues k t) rest
    linked_back w rest is eo eb ew h =
        linked_set queues k s t (w ∷ rest) rest at deque h (subst (λ l. Each l (LeadsTo (deques queues))) (sym ew) (h.lead k s at)) (λ j x e. h.loose_lead (suc j) x e)
        (λ j ne. omega (arith, ap (ways_to j) ew, only_other j w.0 (λ e. ne (e ∙ is)))) (omega (arith, eo, eb, ap (ways_to k) ew, only_same k w.0 (sym is)))

    -- what was put into the other region queues is unchanged
    pub put_more : (x : ℕ) → put_in x (set queues k t) + times x s.put ≡ put_in x queues + times x t.put
    put_more x = total-set (λ (queue : Standing D). times x queue.put) queues k s t at

  -- where a loose way leads
  pub first_leads : (queues : List (Standing D)) (w : ℕ × D) (rest : List (ℕ × D)) → Linked queues (w ∷ rest) → (s : Standing D) × (get_elem? queues w.0 ≡ some s) × (s.deque ≡ w.1)
  first_leads queues w rest h = at_map_back (λ (queue : Standing D). queue.deque) queues w.0 w.1 (h.loose_lead 0 w refl)

  no_ways : (j : ℕ) (queues : List (Standing D)) → Each queues (λ (queue : Standing D). queue.ways ≡ []) → all_ways_to j queues ≡ 0
  no_ways j [] none = refl
  no_ways j (x ∷ xs) none = omega (arith, ap (ways_to j) (none 0 x refl), no_ways j xs (λ i y e. none (suc i) y e))

  -- if no region queue has a way, all ways came back
  pub all_alone : (queues : List (Standing D)) → Linked queues [] → Each queues (λ (queue : Standing D). queue.ways ≡ []) → Each queues IsAlone
  all_alone queues h none j s at = (none j s at, omega (arith, h.whole j s at, no_ways j queues none))

  -- no region queue has a way yet
  pub linked_none : (queues : List (Standing D)) → Each queues (λ (queue : Standing D). (queue.ways ≡ []) × (queue.out ≡ 0) × (queue.back ≡ 0)) → Linked queues []
  linked_none queues new = record {
    lead = λ j s at. subst (λ l. Each l (LeadsTo (deques queues))) (sym (new j s at).0) (λ i x e. absurd (some-ne-none x (sym e)));
    loose_lead = λ i x e. absurd (some-ne-none x (sym e));
    whole = λ j s at. omega (arith, (new j s at).1, (new j s at).2, no_ways j queues (λ i y e. (new i y e).0));
  }

  -- one more region is put
  pub distributed_next : (n : ℕ) (queues : List (Standing D)) (k : ℕ) (s t : Standing D) → get_elem? queues k ≡ some s → t.deque ≡ s.deque → t.out ≡ s.out → t.back ≡ s.back → t.ways ≡ s.ways
      → t.put ≡ s.put ++ n ∷ [] → AreDistributed n queues → AreDistributed (n + 1) (set queues k t)
  distributed_next n queues k s t at ed eo eb ew ep h =
      let more : (x : ℕ) → put_in x (set queues k t) ≡ put_in x queues + only x n =
      λ x. omega (arith, put_more queues k s t at ed x, ap (times x) ep, total-append (only x) s.put (n ∷ [])) in record {
        once = λ x less. elim (ℕ_discrete x n) [
          | yes same ↦ omega (arith, more x, h.no_other x (omega (arith, same)), only_same x n same)
          | no other ↦ omega (arith, more x, h.once x (omega (arith, less, other)), only_other x n other)
        ];
        no_other = λ x le. omega (arith, more x, h.no_other x (omega (arith, le)), only_other x n (λ same. omega (arith, same, le)));
        linked = linked_put queues k s t at ed [] eo eb ew h.linked;
      }
