-- Region queues of workers, and what was taken from them.
use Rattle.std.proofs.Common.{◌≡◌, ◌≢◌, ⊎_elim, ℕ, suc, ◌+◌, ◌<◌, ◌≤◌, List, [], ◌∷◌, ◌++◌, map, length, length-set, set, get_or, refl, sym, ap, subst, ◌∙◌, arith}
use Rattle.std.proofs.lemmas.List.{map-set, nil_from_length, length-map}
use mathlib.Core.Option.{some, some-injective}
use lib.ListN.{get_elem?}
use Rattle.comp_mutator.specs.Lists.{only, times, Each}
use Rattle.comp_mutator.proofs.Sums.{total-append, total-set}
use Rattle.comp_mutator.proofs.Rows.{at_below, at_map, at_map_back, at_set, at_value}
use Rattle.comp_sweep.specs.Queues.{own_deque, own_view, put_in, standing, standings, taken, taken_in, taken_on, way_deque, way_name, way_view, AreDistributed, AreTaken, Deque, Gives, HasBack, HasLinked, IsAlone, IsNew, IsOut, Linked, SameOwn, Standing, StillQueue}
use Rattle.comp_sweep.specs.declared.deques.Own.{Own}
use Rattle.comp_sweep.specs.declared.deques.Way.{Way}
use Rattle.comp_sweep.specs.declared.queues.RegionQueue.{RegionQueue}
use Rattle.comp_sweep.proofs.Stands.{distributed_next, first_leads, linked_back, linked_free, linked_hold, linked_none, linked_out, map_same, put_more, stand, stand_same}

abbrev ways_of : Standing Deque → List (ℕ × Deque)
ways_of queue = queue.ways

-- the same deque and the same ways
pub same_queue : (queue : RegionQueue) (own : Own) (ways : List Way) → SameOwn queue.own own → map way_name ways ≡ map way_name queue.ways.items
    → stand (own_deque own) (own_view own).put (own_view own).out (own_view own).back (map way_name ways) ≡ standing queue
same_queue queue own ways same names = stand_same _ _ _ _ _ _ _ _ _ _ same.deque same.put same.out same.back names

pub same_own : (a : Own) → SameOwn a a
same_own a = record { deque = refl; put = refl; out = refl; back = refl }

pub own_is : (a b : Own) → b ≡ a → SameOwn a b
own_is a b e = subst (SameOwn a) (sym e) (same_own a)

-- it is the same way
pub name_same : (a b : Way) → b.index ≡ a.index → way_deque b ≡ way_deque a → way_name b ≡ way_name a
name_same a b ei ed = ap (λ (i : ℕ). (i, way_deque b)) ei ∙ ap (λ d. (a.index, d)) ed

-- one region more
pub times_more : (x q : ℕ) (before after : List ℕ) → after ≡ before ++ q ∷ [] → times x after ≡ times x before + only x q
times_more x q before after e = omega (arith, ap (times x) e, total-append (only x) before (q ∷ []))

-- one way more
pub ways_more : (x : ℕ) (before after : List Way) (way : Way) → after ≡ before ++ way ∷ [] → taken_on x after ≡ taken_on x before + times x (way_view way).taken
ways_more x before after way e = omega (arith, ap (taken_on x) e, total-append (λ (w : Way). times x (way_view w).taken) before (way ∷ []))

-- the region queue at k is replaced
pub standing_set : (queues : List RegionQueue) (k : ℕ) (new : RegionQueue) → standings (set queues k new) ≡ set (standings queues) k (standing new)
standing_set queues k new = map-set standing queues k new

pub standing_at : (queues : List RegionQueue) (k : ℕ) (old : RegionQueue) → k < length queues → old ≡ get_or queues k old → get_elem? (standings queues) k ≡ some (standing old)
standing_at queues k old lt e = at_map standing queues k old (at_value queues k old lt e)

pub taken_set : (x : ℕ) (queues : List RegionQueue) (k : ℕ) (old new : RegionQueue) → k < length queues → old ≡ get_or queues k old → taken_in x (set queues k new) + taken x old ≡ taken_in x queues + taken x new
taken_set x queues k old new lt e = total-set (taken x) queues k old new (at_value queues k old lt e)

-- if no way is out and each deque was found empty, what was taken is what was put
taken_put : (x : ℕ) (queues : List RegionQueue) → Each (standings queues) IsAlone → Each queues IsOut → taken_in x queues ≡ put_in x (standings queues)
taken_put x [] alone out = refl
taken_put x (queue ∷ queues) alone out =
    let here = alone 0 (standing queue) refl in
    let none : queue.ways.items ≡ [] = nil_from_length queue.ways.items (omega (arith, length-map queue.ways.items way_name, ap length here.0)) in
    omega (arith, out 0 queue refl here.1 x, ap (taken_on x) none, taken_put x queues (λ j s e. alone (suc j) s e) (λ j l e. out (suc j) l e))

-- all regions were taken, each once
pub all_taken : (n : ℕ) (queues : List RegionQueue) → ((x : ℕ) → x < n → put_in x (standings queues) ≡ 1) → ((x : ℕ) → n ≤ x → put_in x (standings queues) ≡ 0) → Each (standings queues) IsAlone → Each queues IsOut → AreTaken n queues
all_taken n queues once no_other alone out = record {
  once = λ x lt. taken_put x queues alone out ∙ once x lt;
  no_other = λ x le. taken_put x queues alone out ∙ no_other x le;
}

-- the name of a way
pub name_is : (way : Way) (i : ℕ) (d : Deque) → way.index ≡ i → way_deque way ≡ d → way_name way ≡ (i, d)
name_is way i d ei ed = ap (λ (x : ℕ). (x, way_deque way)) ei ∙ ap (λ x. (i, x)) ed

module _ (queues : List RegionQueue) (k : ℕ) (old new : RegionQueue) (lt : k < length queues) (e : old ≡ get_or queues k old) where
  abbrev there : get_elem? (standings queues) k ≡ some (standing old)
  there = standing_at queues k old lt e

  -- one more region is put
  pub put_next : (n : ℕ) → StillQueue old new → (standing new).ways ≡ (standing old).ways → (standing new).out ≡ (standing old).out → (standing new).put ≡ (standing old).put ++ n ∷ []
      → AreDistributed n (standings queues) → AreDistributed (n + 1) (standings (set queues k new))
  put_next n still ways out put h =
      subst (AreDistributed (n + 1)) (sym (standing_set queues k new)) (distributed_next n (standings queues) k (standing old) (standing new) there still.deque out still.back ways put h)

  -- what was taken is unchanged if it is unchanged for the region queue at k
  pub taken_same : (x : ℕ) → taken x new ≡ taken x old → taken_in x (set queues k new) ≡ taken_in x queues
  taken_same x same = omega (arith, taken_set x queues k old new lt e, same)

  put_same : (x : ℕ) → (standing new).put ≡ (standing old).put → (standing new).deque ≡ (standing old).deque → put_in x (standings (set queues k new)) ≡ put_in x (standings queues)
  put_same x put deque = ap (put_in x) (standing_set queues k new) ∙ omega (arith, put_more (standings queues) k (standing old) (standing new) there deque x, ap (times x) put)

  -- a way to the region queue at k
  way_made : (way : Way) → Gives k old new way → Linked (standings queues) [] → Linked (standings (set queues k new)) (way_name way ∷ [])
  way_made way given h =
      subst (λ w. Linked (standings (set queues k new)) (w ∷ [])) (sym (name_is way k (standing old).deque given.index_is given.leads))
      (subst (λ l. Linked l ((k, (standing old).deque) ∷ [])) (sym (standing_set queues k new))
      (linked_out (standings queues) k (standing old) (standing new) there given.still.deque given.out given.still.back given.ways h))

  -- a way for the region queue at k
  way_held : (way : Way) → StillQueue old new → (standing new).out ≡ (standing old).out → (standing new).ways ≡ (standing old).ways ++ way_name way ∷ []
      → Linked (standings queues) (way_name way ∷ []) → Linked (standings (set queues k new)) []
  way_held way still out ways h =
      subst (λ l. Linked l []) (sym (standing_set queues k new))
      (linked_hold (standings queues) k (standing old) (standing new) there still.deque (way_name way) out still.back ways h)

  -- the ways of the region queue at k are loose
  pub ways_freed : (freed : List Way) → StillQueue old new → (standing new).out ≡ (standing old).out → (standing new).ways ≡ [] → map way_name freed ≡ (standing old).ways
      → Linked (standings queues) [] → Linked (standings (set queues k new)) (map way_name freed)
  ways_freed freed still out none names h =
      subst (Linked (standings (set queues k new))) (sym names)
      (subst (λ l. Linked l (standing old).ways) (sym (standing_set queues k new))
      (linked_free (standings queues) k (standing old) (standing new) there still.deque out still.back none h))

  pub put_freed : (x : ℕ) → StillQueue old new → (standing new).put ≡ (standing old).put → put_in x (standings (set queues k new)) ≡ put_in x (standings queues)
  put_freed x still put = put_same x put still.deque

  -- the first k region queues and this one have no way
  pub none_next : (standing new).ways ≡ [] → ((j : ℕ) (queue : Standing Deque) → j < k → get_elem? (standings queues) j ≡ some queue → queue.ways ≡ [])
      → (after : List RegionQueue) → map ways_of (standings after) ≡ map ways_of (standings (set queues k new))
      → (j : ℕ) (queue : Standing Deque) → j < k + 1 → get_elem? (standings after) j ≡ some queue → queue.ways ≡ []
  none_next none before after same j queue less at =
      let back = at_map_back ways_of (standings (set queues k new)) j queue.ways (subst (λ l. get_elem? l j ≡ some queue.ways) same (at_map ways_of (standings after) j queue at)) in
      let was : get_elem? (set (standings queues) k (standing new)) j ≡ some back.0 = subst (λ l. get_elem? l j ≡ some back.0) (standing_set queues k new) back.1 in
      sym back.2 ∙ ⊎_elim (λ (x : (j ≡ k) × (standing new ≡ back.0)). ap ways_of (sym x.1) ∙ none)
      (λ (x : (j ≢ k) × (get_elem? (standings queues) j ≡ some back.0)). before j back.0 (omega (arith, less, x.0)) x.1) (at_set (standings queues) k j (standing new) back.0 was)

  -- a way to the region queue at k came back
  pub gathered_next : (way : Way) (more rest : List Way) → rest ≡ way ∷ more → way.index ≡ k → HasBack old new way → Linked (standings queues) (map way_name rest)
      → Linked (standings (set queues k new)) (map way_name more)
  gathered_next way more rest e is came h =
      subst (λ l. Linked l (map way_name more)) (sym (standing_set queues k new))
      (linked_back (standings queues) k (standing old) (standing new) there came.deque (way_name way) (map way_name more) is came.out came.back came.ways
      (subst (λ l. Linked (standings queues) (map way_name l)) e h))

  pub put_back : (x : ℕ) (way : Way) → HasBack old new way → put_in x (standings (set queues k new)) ≡ put_in x (standings queues)
  put_back x way came = put_same x came.put came.deque

  pub ways_back : (way : Way) → HasBack old new way → map ways_of (standings (set queues k new)) ≡ map ways_of (standings queues)
  ways_back way came = ap (map ways_of) (standing_set queues k new) ∙ map_same ways_of (standings queues) k (standing old) (standing new) there came.ways

  pub taken_back : (x : ℕ) (way : Way) → HasBack old new way → taken_in x (set queues k new) ≡ taken_in x queues + times x (way_view way).taken
  taken_back x way came = omega (arith, taken_set x queues k old new lt e, came.taken x)

  -- the way leads there
  pub leads_here : (way : Way) (more rest : List Way) → rest ≡ way ∷ more → k ≡ way.index → Linked (standings queues) (map way_name rest) → way_deque way ≡ (standing old).deque
  leads_here way more rest e is h =
      let lead = first_leads (standings queues) (way_name way) (map way_name more) (subst (λ l. Linked (standings queues) (map way_name l)) e h) in
      let same : lead.0 ≡ standing old = some-injective _ _ (sym lead.1 ∙ ap (get_elem? (standings queues)) (sym is) ∙ there) in
      sym lead.2 ∙ ap (λ (s : Standing Deque). s.deque) same

-- a way leads to a region queue that is there
pub leads_inside : (queues : List RegionQueue) (way : Way) (more rest : List Way) → rest ≡ way ∷ more → Linked (standings queues) (map way_name rest) → way.index < length queues
leads_inside queues way more rest e h =
    let lead = first_leads (standings queues) (way_name way) (map way_name more) (subst (λ l. Linked (standings queues) (map way_name l)) e h) in
    omega (arith, at_below (standings queues) way.index lead.0 lead.1, length-map queues standing)

-- a way from one region queue to another
pub linked_to : (queues : List RegionQueue) (to from : ℕ) (g g' h h' : RegionQueue) (way : Way) → to < length queues → from < length queues → g ≡ get_or queues to g → h ≡ get_or (set queues to g') from h
    → Gives to g g' way → StillQueue h h' → (standing h').put ≡ (standing h).put → (standing h').out ≡ (standing h).out → (standing h').ways ≡ (standing h).ways ++ way_name way ∷ []
    → ((x : ℕ) → taken x h' ≡ taken x h + times x (way_view way).taken) → Linked (standings queues) [] → HasLinked queues (set (set queues to g') from h')
linked_to queues to from g g' h h' way lt_to lt_from eg eh given still put out ways taken_more linked =
    let mid = set queues to g' in
    let lt : from < length mid = omega (arith, lt_from, length-set queues to g') in record {
      count = length-set mid from h' ∙ length-set queues to g';
      linked = way_held mid from h h' lt eh way still out ways (way_made queues to g g' lt_to eg way given linked);
      put = λ x. put_same mid from h h' lt eh x put still.deque ∙ put_same queues to g g' lt_to eg x given.put given.still.deque;
      taken = λ x. omega (
        arith,
        taken_set x mid from h h' lt eh,
        taken_more x,
        ap (times x) given.fresh,
        taken_set x queues to g g' lt_to eg,
        given.taken x,
      );
    }

pub linked_then : (a b c : List RegionQueue) → HasLinked a b → HasLinked b c → HasLinked a c
linked_then a b c h k = record { count = k.count ∙ h.count; linked = k.linked; put = λ x. k.put x ∙ h.put x; taken = λ x. k.taken x ∙ h.taken x }

-- new region queues
new_ways : (queues : List RegionQueue) → Each queues IsNew → Each (standings queues) (λ (s : Standing Deque). (s.ways ≡ []) × (s.out ≡ 0) × (s.back ≡ 0))
new_ways queues new j s at =
    let queue = at_map_back standing queues j s at in
    let is = new j queue.0 queue.1 in subst (λ (a : Standing Deque). (a.ways ≡ []) × (a.out ≡ 0) × (a.back ≡ 0)) queue.2 (is.ways, is.out, is.back)

new_put : (x : ℕ) (queues : List RegionQueue) → Each queues IsNew → put_in x (standings queues) ≡ 0
new_put x [] new = refl
new_put x (queue ∷ queues) new = omega (arith, ap (times x) (new 0 queue refl).put, new_put x queues (λ j l e. new (suc j) l e))

pub new_taken : (x : ℕ) (queues : List RegionQueue) → Each queues IsNew → taken_in x queues ≡ 0
new_taken x [] new = refl
new_taken x (queue ∷ queues) new = omega (arith, (new 0 queue refl).taken x, new_taken x queues (λ j l e. new (suc j) l e))

pub new_distributed : (queues : List RegionQueue) → Each queues IsNew → AreDistributed 0 (standings queues)
new_distributed queues new = record { once = λ x lt. absurd (omega (arith, lt)); no_other = λ x le. new_put x queues new; linked = linked_none (standings queues) (new_ways queues new) }
