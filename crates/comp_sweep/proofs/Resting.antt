-- The sweep of what is left after all workers have ended, one region queue at a time.
use Rattle.std.specs.Global.{Vec}
use Rattle.std.specs.List.{AllZip}
use Rattle.std.proofs.Common.{◌≡◌, ◌≢◌, ⊎_elim, ℕ, zero, suc, ◌+◌, ◌<◌, List, [], ◌∷◌, length, set, get_or, sym, ap, subst, ◌∙◌, arith}
use Rattle.std.proofs.lemmas.List.{length-map, map-set}
use mathlib.Core.Option.{some}
use lib.ListN.{get_elem?}
use Rattle.comp_mutator.specs.Builder.{Ghosts}
use Rattle.comp_mutator.specs.Setup.{Setup}
use Rattle.comp_mutator.specs.Lists.{times, Each}
use Rattle.comp_mutator.specs.Pass.{Pass}
use Rattle.comp_mutator.proofs.Sums.{total-set}
use Rattle.comp_mutator.specs.CellEnds.{lists}
use Rattle.comp_mutator.proofs.Rows.{at_map, at_set, at_value}
use Rattle.comp_mutator.specs.Builds.{named}
use Rattle.comp_mutator.proofs.CompAccessGrowing.{known_more}
use Rattle.comp_mutator.specs.Mutators.{pass_of, IsMutatorOf}
use Rattle.comp_mutator.specs.declared.space.Space.{Space}
use Rattle.comp_mutator.specs.declared.mutator.Mutator.{Mutator}
use Rattle.comp_sweep.specs.Queues.{put_in, standing, standings, taken, taken_in, AreDistributed, IsAlone, IsOut, SameQueue}
use Rattle.comp_sweep.specs.RegionSplits.{AreAllOnce}
use Rattle.comp_sweep.specs.declared.queues.RegionQueue.{RegionQueue}
use Rattle.comp_sweep.proofs.Stands.{map_same}
use Rattle.comp_sweep.proofs.Tallies.{all_taken}
use Rattle.comp_sweep.specs.Sweeps.{HandsBack, SeesRegions, Sweeps}
use Rattle.comp_sweep.specs.Workers.{AreRest, KnowsAll, Listed}
use Rattle.comp_sweep.proofs.Composed.{sweeps_then}
use Rattle.comp_sweep.proofs.SweepAnswers.{beside}

module _ {X Y : Type 0} (R : X → Y → Type 0) where
  -- one element of the second list is replaced
  zip_right : (xs : List X) (ys : List Y) (k : ℕ) (y z : Y) → y ≡ get_or ys k y → k < length ys → ((x : X) → R x y → R x z) → AllZip R xs ys → AllZip R xs (set ys k z)
  zip_right [] [] k y z e lt f m = absurd (omega (arith, lt))
  zip_right [] (b ∷ ys) k y z e lt f m = absurd m
  zip_right (a ∷ xs) [] k y z e lt f m = absurd m
  zip_right (a ∷ xs) (b ∷ ys) zero y z e lt f m = (f a (subst (R a) (sym e) m.0), m.1)
  zip_right (a ∷ xs) (b ∷ ys) (suc k) y z e lt f m = (m.0, zip_right xs ys k y z e (omega (arith, lt)) f m.1)

  -- one element of each list is replaced
  zip_both : (xs : List X) (ys : List Y) (k : ℕ) (x : X) (y : Y) → R x y → AllZip R xs ys → AllZip R (set xs k x) (set ys k y)
  zip_both [] [] k x y r m = tt
  zip_both [] (b ∷ ys) k x y r m = absurd m
  zip_both (a ∷ xs) [] k x y r m = absurd m
  zip_both (a ∷ xs) (b ∷ ys) zero x y r m = (r, m.1)
  zip_both (a ∷ xs) (b ∷ ys) (suc k) x y r m = (m.0, zip_both xs ys k x y r m.1)

  -- the elements at one index
  zip_at : (xs : List X) (ys : List Y) (k : ℕ) (x : X) (y : Y) → x ≡ get_or xs k x → y ≡ get_or ys k y → k < length xs → AllZip R xs ys → R x y
  zip_at [] [] k x y ex ey lt m = absurd (omega (arith, lt))
  zip_at [] (b ∷ ys) k x y ex ey lt m = absurd m
  zip_at (a ∷ xs) [] k x y ex ey lt m = absurd m
  zip_at (a ∷ xs) (b ∷ ys) zero x y ex ey lt m = subst (λ z. R z y) (sym ex) (subst (R a) (sym ey) m.0)
  zip_at (a ∷ xs) (b ∷ ys) (suc k) x y ex ey lt m = zip_at xs ys k x y ex ey (omega (arith, lt)) m.1

module _ {L B : Type 0} {g : Ghosts B} (space : Space L B g) (first ms : List (Mutator L)) (k : ℕ) (m : Mutator L) (lt : k < length ms) (em : m ≡ get_or ms k m) (h : HandsBack space first ms) where
  -- a mutator that swept belongs to the space
  pub of_rest : IsMutatorOf space m
  of_rest = (beside (Sweeps space) first ms k m h (at_value ms k m lt em)).2.of

  -- it knows what all knew
  pub knows_rest : (given : List Pass) → Each first (λ (x : Mutator L). KnowsAll given (pass_of x)) → KnowsAll given (pass_of m)
  knows_rest given knows p all =
      let b = beside (Sweeps space) first ms k m h (at_value ms k m lt em) in
      known_more (pass_of b.0) (pass_of m) b.2.grows p (knows k b.0 b.1 p all)

  -- it sweeps more
  pub swept_rest : (n : Mutator L) → Sweeps space m n → HandsBack space first (set ms k n)
  swept_rest n more = zip_right (Sweeps space) first ms k m n em lt (λ x r. sweeps_then space x m n r more) h

module _ {L : Type 0} (u : Setup) (ms : List (Mutator L)) (ls : List (Vec ℕ)) (k : ℕ) (h : AllZip (SeesRegions u) ms ls) where
  -- what it has seen
  pub seen_at : (m : Mutator L) (l : Vec ℕ) → m ≡ get_or ms k m → l ≡ get_or ls k l → k < length ms → SeesRegions u m l
  seen_at m l em el lt = zip_at (SeesRegions u) ms ls k m l em el lt h

  pub seen_rest : (m : Mutator L) (l : Vec ℕ) → SeesRegions u m l → AllZip (SeesRegions u) (set ms k m) (set ls k l)
  seen_rest m l sees = zip_both (SeesRegions u) ms ls k m l sees h

module _ (os : List RegionQueue) (k : ℕ) (o n : RegionQueue) (lt : k < length os) (eo : o ≡ get_or os k o) where
  pub same_rest : (first : List RegionQueue) → SameQueue o n → standings os ≡ standings first → standings (set os k n) ≡ standings first
  same_rest first same e = map_same standing os k o n (at_value os k o lt eo) same ∙ e

  -- what was taken was listed
  pub tally_rest : (u : Setup) (pass : Pass) (first : List RegionQueue) (before ls : List (Vec ℕ)) (l v : Vec ℕ) → k < length ls → l ≡ get_or ls k l → Listed u pass o n l.items v.items
      → ((x : ℕ) → named x (lists ls) + taken_in x first ≡ named x (lists before) + taken_in x os)
      → (x : ℕ) → named x (lists (set ls k v)) + taken_in x first ≡ named x (lists before) + taken_in x (set os k n)
  tally_rest u pass first before ls l v less el listed tally x =
      omega (
        arith,
        tally x,
        listed.tally x,
        total-set (taken x) os k o n (at_value os k o lt eo),
        ap (named x) (map-set (λ (w : Vec ℕ). w.items) ls k v),
        total-set (times x) (lists ls) k l.items v.items (at_map (λ (w : Vec ℕ). w.items) ls k l (at_value ls k l less el)),
      )

  pub out_rest : ((j : ℕ) (queue : RegionQueue) → j < k → get_elem? os j ≡ some queue → IsOut queue) → IsOut n → (j : ℕ) (queue : RegionQueue) → j < k + 1 → get_elem? (set os k n) j ≡ some queue → IsOut queue
  out_rest before here j queue less at =
      ⊎_elim (λ (x : (j ≡ k) × (n ≡ queue)). subst IsOut x.1 here) (λ (x : (j ≢ k) × (get_elem? os j ≡ some queue)). before j queue (omega (arith, less, x.0)) x.1) (at_set os k j n queue at)

-- the number of region queues is unchanged
pub long_rest : (os first : List RegionQueue) → standings os ≡ standings first → length os ≡ length first
long_rest os first e = sym (length-map os standing) ∙ ap length e ∙ length-map first standing

-- the lists have all regions, each once
pub concluded : {L : Type 0} (u : Setup) (n : ℕ) (distributed gathered left : List RegionQueue) (before after : List (Vec ℕ)) (ms : List (Mutator L)) → AreDistributed n (standings distributed)
    → ((x : ℕ) → put_in x (standings gathered) ≡ put_in x (standings distributed)) → ((x : ℕ) → taken_in x gathered ≡ taken_in x distributed) → Each (standings gathered) IsAlone
    → ((x : ℕ) → named x (lists before) ≡ taken_in x distributed) → AreRest u gathered before ms left after → AreAllOnce n (lists after)
concluded u n distributed gathered left before after ms h put taken alone tally rest =
    let put_left : (x : ℕ) → put_in x (standings left) ≡ put_in x (standings distributed) = λ x. ap (put_in x) rest.same ∙ put x in
    let all = all_taken n left (λ x lt. put_left x ∙ h.once x lt) (λ x le. put_left x ∙ h.no_other x le) (subst (λ l. Each l IsAlone) (sym rest.same) alone) rest.out in record {
      once = λ x lt. omega (arith, rest.tally x, taken x, tally x, all.once x lt);
      no_other = λ x le. omega (arith, rest.tally x, taken x, tally x, all.no_other x le);
    }
