-- Each move keeps the rule of a deque.
use Rattle.std.proofs.Common.{◌≡◌, ◌≢◌, ℕ, zero, suc, ◌+◌, ◌<◌, List, [], ◌∷◌, ◌++◌, set, sym, refl, ap, subst, ⊎_elim, arith}
use mathlib.Core.Option.{some, some_inj, some-ne-none}
use lib.ListN.{get_elem?}
use Rattle.comp_mutator.specs.Lists.{only, times, total}
use Rattle.comp_mutator.proofs.Sums.{total-append, total-set, term_le}
use Rattle.crossbeam_deque.specs.Tasks.{Pushes, Takes, Finds, Forks, Merges}
use Rattle.crossbeam_deque.proofs.Lists.{at_set, at_snoc}
use Rattle.comp_sweep.specs.declared.distributing.Hand.{Hand}
use Rattle.comp_sweep.specs.Distributed.{hand, AllTaken, Distributed, IsGuest, puts, takes}

abbrev Guests : List Hand → Type 0
Guests views = (port : ℕ) (v : Hand) → get_elem? views port ≡ some v → 0 < port → IsGuest v

guests_set : (views : List Hand) (port : ℕ) (w : Hand) → (0 < port → IsGuest w) → Guests views → Guests (set views port w)
guests_set views port w mine guests j u e far =
    ⊎_elim (λ (x : (j ≡ port) × (w ≡ u)). subst IsGuest x.1 (mine (omega (arith, x.0, far)))) (λ (x : (j ≢ port) × (get_elem? views j ≡ some u)). guests j u x.1 far) (at_set views port j w u e)

begin_guests : Guests (hand 0 0 0 [] [] ∷ [])
begin_guests zero v e far = absurd (omega (arith, far))
begin_guests (suc k) v e far = absurd (some-ne-none v (sym e))

pub begins : Distributed [] (hand 0 0 0 [] [] ∷ [])
begins = record { ways = refl; same = λ q. refl; guests = begin_guests }

module _ (port : ℕ) (v : Hand) where
  pub distributed_put : port ≡ 0 → (xs : List ℕ) → Pushes Distributed port v xs (puts v xs)
  distributed_put first xs items views h at =
      let w : Hand = hand v.out v.back v.way (v.put ++ xs) v.taken in (
        w,
        record {
          ways = omega (
            arith,
            total-set (λ (u : Hand). u.out) views port v w at,
            total-set (λ (u : Hand). u.back) views port v w at,
            total-set (λ (u : Hand). u.way) views port v w at,
            h.ways,
          );
          same = λ q. omega (
            arith,
            total-set (λ (u : Hand). times q u.put) views port v w at,
            total-set (λ (u : Hand). times q u.taken) views port v w at,
            h.same q,
            total-append (only q) v.put xs,
            total-append (only q) items xs,
          );
          guests = guests_set views port w (λ far. absurd (omega (arith, far, first))) h.guests;
        },
        refl,
      )

  pub distributed_take : (0 < port → 0 < v.way) → Takes Distributed port v 1 (takes v)
  distributed_take some_way xs items views more few h at =
      let w : Hand = hand v.out v.back v.way v.put (v.taken ++ xs) in (
        w,
        record {
          ways = omega (
            arith,
            total-set (λ (u : Hand). u.out) views port v w at,
            total-set (λ (u : Hand). u.back) views port v w at,
            total-set (λ (u : Hand). u.way) views port v w at,
            h.ways,
          );
          same = λ q. omega (
            arith,
            total-set (λ (u : Hand). times q u.put) views port v w at,
            total-set (λ (u : Hand). times q u.taken) views port v w at,
            h.same q,
            total-append (only q) v.taken xs,
            total-append (only q) xs items,
          );
          guests = guests_set views port w
              (λ far. let g = h.guests port v at far in record { out = g.out; back = g.back; put = g.put; idle = λ none. absurd (omega (arith, none, some_way far)) }) h.guests;
        },
        refl,
      )

  pub distributed_fork : port ≡ 0 → Forks Distributed port v (hand (v.out + 1) v.back v.way v.put v.taken) (hand 0 0 1 [] [])
  distributed_fork first items views h at =
      let l : Hand = hand (v.out + 1) v.back v.way v.put v.taken in
      let r : Hand = hand 0 0 1 [] [] in
      let vs : List Hand = set views port l in
      let guest : IsGuest r = record { out = refl; back = refl; put = refl; idle = λ none. refl } in record {
        ways = omega (
          arith,
          total-append (λ (u : Hand). u.out) vs (r ∷ []),
          total-append (λ (u : Hand). u.back) vs (r ∷ []),
          total-append (λ (u : Hand). u.way) vs (r ∷ []),
          total-set (λ (u : Hand). u.out) views port v l at,
          total-set (λ (u : Hand). u.back) views port v l at,
          total-set (λ (u : Hand). u.way) views port v l at,
          h.ways,
        );
        same = λ q. omega (
          arith,
          total-append (λ (u : Hand). times q u.put) vs (r ∷ []),
          total-append (λ (u : Hand). times q u.taken) vs (r ∷ []),
          total-set (λ (u : Hand). times q u.put) views port v l at,
          total-set (λ (u : Hand). times q u.taken) views port v l at,
          h.same q,
        );
        guests = λ j u e far. ⊎_elim (λ x. guests_set views port l (λ f. absurd (omega (arith, f, first))) h.guests j u x far)
            (λ (is : r ≡ u). subst IsGuest is guest) (at_snoc vs r u j e);
      }

  pub distributed_join : port ≡ 0 → (other : ℕ) (w : Hand) → Merges Distributed port v other w (hand v.out (v.back + w.way) v.way v.put (v.taken ++ w.taken)) (hand 0 0 0 [] [])
  distributed_join first other w items views h at two at_w =
      let both : Hand = hand v.out (v.back + w.way) v.way v.put (v.taken ++ w.taken) in
      let vs : List Hand = set views port both in
      let spent : Hand = hand 0 0 0 [] [] in
      let empty : IsGuest spent = record { out = refl; back = refl; put = refl; idle = λ none. refl } in
      let far : 0 < other = omega (arith, two, first) in
      let g : IsGuest w =
      ⊎_elim (λ (x : (other ≡ port) × (both ≡ w)). absurd (two x.0)) (λ (x : (other ≢ port) × (get_elem? views other ≡ some w)). h.guests other w x.1 far) (at_set views port other both w at_w) in record {
        ways = omega (
          arith,
          total-set (λ (u : Hand). u.out) views port v both at,
          total-set (λ (u : Hand). u.back) views port v both at,
          total-set (λ (u : Hand). u.way) views port v both at,
          total-set (λ (u : Hand). u.out) vs other w spent at_w,
          total-set (λ (u : Hand). u.back) vs other w spent at_w,
          total-set (λ (u : Hand). u.way) vs other w spent at_w,
          h.ways,
          g.out,
          g.back,
        );
        same = λ q. omega (
          arith,
          total-set (λ (u : Hand). times q u.put) views port v both at,
          total-set (λ (u : Hand). times q u.put) vs other w spent at_w,
          total-set (λ (u : Hand). times q u.taken) views port v both at,
          total-set (λ (u : Hand). times q u.taken) vs other w spent at_w,
          h.same q,
          ap (times q) g.put,
          total-append (only q) v.taken w.taken,
        );
        guests = guests_set vs other spent (λ f. empty) (guests_set views port both (λ f. absurd (omega (arith, f, first))) h.guests);
      }

all_zero : (f : Hand → ℕ) (views : List Hand) → ((j : ℕ) (u : Hand) → get_elem? views j ≡ some u → f u ≡ 0) → total f views ≡ 0
all_zero f [] none = refl
all_zero f (x ∷ xs) none = omega (arith, none 0 x refl, all_zero f xs (λ j u e. none (suc j) u e))

-- a sum to which no other pass adds is the owner's own
alone : (f : Hand → ℕ) (views : List Hand) (v : Hand) → get_elem? views 0 ≡ some v → ((j : ℕ) (u : Hand) → get_elem? views j ≡ some u → 0 < j → f u ≡ 0) → total f views ≡ f v
alone f [] v at none = absurd (some-ne-none v (sym at))
alone f (x ∷ xs) v at none = omega (arith, ap f (some_inj.0 at), all_zero f xs (λ j u e. none (suc j) u e (omega arith)))

-- what the owner learns of an empty deque
pub distributed_out : (port : ℕ) (v : Hand) → port ≡ 0 → Finds Distributed port v (AllTaken v)
distributed_out port v first views h there back q =
    let at : get_elem? views 0 ≡ some v = subst (λ n. get_elem? views n ≡ some v) first there in
    let out = alone (λ (u : Hand). u.out) views v at (λ j u e far. (h.guests j u e far).out) in
    let came = alone (λ (u : Hand). u.back) views v at (λ j u e far. (h.guests j u e far).back) in
    let no_way : total (λ (u : Hand). u.way) views ≡ 0 = omega (arith, h.ways, out, came, back) in
    let idle : (j : ℕ) (u : Hand) → get_elem? views j ≡ some u → 0 < j → u.taken ≡ [] =
    λ j u e far. (h.guests j u e far).idle (omega (arith, no_way, term_le (λ (x : Hand). x.way) views j u e)) in
    let put = alone (λ (u : Hand). times q u.put) views v at (λ j u e far. ap (times q) (h.guests j u e far).put) in
    let taken = alone (λ (u : Hand). times q u.taken) views v at (λ j u e far. ap (times q) (idle j u e far)) in
    omega (arith, h.same q, put, taken)
