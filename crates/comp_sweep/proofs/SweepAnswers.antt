-- What a sweep's answer says about its mutators, from what its workers did.
use Rattle.std.specs.Global.{Vec}
use Rattle.std.specs.List.{AllZip}
use Rattle.std.specs.Result.{IfErr, IfOk, MatchResult}
use Rattle.std.proofs.Common.{◌≡◌, ℕ, zero, suc, ◌/◌, ◌<◌, Bool, cond, List, [], ◌∷◌, map, length, All, Result, Ok, Err, refl, sym, ap, ◌∙◌, subst, arith}
use Rattle.std.proofs.lemmas.Bool.{ne_eqb}
use Rattle.std.proofs.lemmas.List.{length-map}
use Rattle.std.proofs.lemmas.Slice.Zip.{AllZip-long}
use Rattle.std.proofs.lemmas.List.Elements.{All-cons, All-nil}
use mathlib.Core.Option.{some, some_inj, some-ne-none}
use lib.ListN.{get_elem?}
use native.Mathlib.Decide.{ℕ_discrete}
use Rattle.comp_mutator.specs.Builder.{Ghosts}
use Rattle.comp_mutator.specs.Setup.{Setup}
use Rattle.comp_mutator.specs.Lists.{only, times, Each}
use Rattle.comp_mutator.specs.Pass.{Pass}
use Rattle.comp_mutator.proofs.Sums.{some_term}
use Rattle.comp_mutator.specs.CellEnds.{lists}
use Rattle.comp_mutator.proofs.Rows.{at_map, at_map_back}
use Rattle.comp_mutator.specs.Builds.{named}
use Rattle.comp_mutator.specs.Mutators.{pass_of, setup_of, AreMutatorsOf, IsMutatorOf}
use Rattle.comp_mutator.specs.declared.space.Space.{Space}
use Rattle.comp_mutator.specs.declared.mutator.Mutator.{Mutator}
use Rattle.comp_mutator.specs.Reads.{KnowsBuilt}
use Rattle.comp_mutator.proofs.CompAccessGrowing.{known_more}
use Rattle.comp_sweep.specs.Queues.{standing, standings, taken_in, AreDistributed, SameQueue}
use Rattle.comp_sweep.specs.RegionSplits.{regions_of, AreAllOnce}
use Rattle.comp_sweep.specs.declared.queues.RegionQueue.{RegionQueue}
use Rattle.comp_sweep.specs.Regions.{SeesRegion}
use Rattle.comp_sweep.specs.Sweeps.{HandsBack, Sweeps, SeesRegions, SomeSeesBuilt, SweepRefused}
use Rattle.comp_sweep.specs.Workers.{input_queue, worker_queue, worker_mutator, AreInputs, AreMade, AreReady, HasEnded, HasQueue, HasNoRegion, WorkersEnded, HasSwept, IsNotSwept, IsSwept, KnowsAll}
use Rattle.comp_sweep.specs.declared.stopping.Sweeping as sweeping
use Rattle.comp_sweep.specs.declared.reserving.WorkerInput.{WorkerInput}
use Rattle.comp_sweep.specs.declared.working.Worker.{Worker}
use Rattle.comp_sweep.specs.declared.running.Outcome.{Outcome}
use Rattle.comp_sweep.specs.declared.report.NotSwept.{NotSwept}
use Rattle.comp_sweep.specs.declared.report.SweepReport.{SweepReport}
use Rattle.comp_sweep.proofs.Below.{all_at}
use Rattle.comp_sweep.proofs.Composed.{sweeps_none, sweeps_then}

module _ {X Y Z : Type 0} (f : X → Y) (R : Y → Z → Type 0) where
  map_zip : (xs : List X) (zs : List Z) → AllZip (λ x z. R (f x) z) xs zs → AllZip R (map f xs) zs
  map_zip [] [] m = tt
  map_zip [] (z ∷ zs) m = absurd m
  map_zip (x ∷ xs) [] m = absurd m
  map_zip (x ∷ xs) (z ∷ zs) m = (m.0, map_zip xs zs m.1)

-- the element of the first list that belongs to an element of the second
pub beside : {X Y : Type 0} (R : X → Y → Type 0) (xs : List X) (ys : List Y) (j : ℕ) (y : Y) → AllZip R xs ys → get_elem? ys j ≡ some y → (x : X) × (get_elem? xs j ≡ some x) × R x y
beside R [] [] j y m e = absurd (some-ne-none y (sym e))
beside R [] (b ∷ ys) j y m e = absurd m
beside R (a ∷ xs) [] j y m e = absurd m
beside R (a ∷ xs) (b ∷ ys) zero y m e = (a, refl, subst (R a) (some_inj.0 e) m.0)
beside R (a ∷ xs) (b ∷ ys) (suc j) y m e = beside R xs ys j y m.1 e

-- region queues that are the same, except for what was taken, have the same standings
pub same_standings : (old new : List RegionQueue) → AllZip SameQueue old new → standings new ≡ standings old
same_standings [] [] m = refl
same_standings [] (y ∷ ys) m = absurd m
same_standings (x ∷ xs) [] m = absurd m
same_standings (x ∷ xs) (y ∷ ys) m = ap (λ s. s ∷ standings ys) m.0 ∙ ap (λ l. standing x ∷ l) (same_standings xs ys m.1)

module _ {L B : Type 0} {g : Ghosts B} (space : Space L B g) where
  pub none_swept : (given : List (Mutator L)) → ((j : ℕ) (m : Mutator L) → get_elem? given j ≡ some m → IsMutatorOf space m) → HandsBack space given given
  none_swept [] of = tt
  none_swept (m ∷ ms) of = (sweeps_none space m (of 0 m refl), none_swept ms (λ j x e. of (suc j) x e))

  -- mutators that are handed back are the space's
  pub still_of : (given back : List (Mutator L)) → HandsBack space given back → AreMutatorsOf space back
  still_of [] [] h = All-nil _
  still_of [] (m ∷ ms) h = absurd h
  still_of (x ∷ xs) [] h = absurd h
  still_of (x ∷ xs) (m ∷ ms) h = All-cons (λ (a : Mutator L). IsMutatorOf space a) m ms h.0.of (still_of xs ms h.1)

  -- mutators that did nothing
  pub handed_none : (given : List (Mutator L)) → AreMutatorsOf space given → HandsBack space given given
  handed_none given of = none_swept given (all_at (λ (m : Mutator L). IsMutatorOf space m) given of)

  -- one sweep after another
  pub handed_then : (a b c : List (Mutator L)) → HandsBack space a b → HandsBack space b c → HandsBack space a c
  handed_then [] [] [] h k = tt
  handed_then [] [] (z ∷ zs) h k = absurd k
  handed_then [] (y ∷ ys) c h k = absurd h
  handed_then (x ∷ xs) [] c h k = absurd h
  handed_then (x ∷ xs) (y ∷ ys) [] h k = absurd k
  handed_then (x ∷ xs) (y ∷ ys) (z ∷ zs) h k = (sweeps_then space x y z h.0 k.0, handed_then xs ys zs h.1 k.1)

  -- each knows what all knew
  knows_back : (given back : List (Mutator L)) → HandsBack space given back → Each back (λ (m : Mutator L). KnowsAll (map pass_of given) (pass_of m))
  knows_back given back h j m at p all =
      let b = beside (Sweeps space) given back j m h at in
      known_more (pass_of b.0) (pass_of m) b.2.grows p (all_at (λ (a : Pass). KnowsBuilt a p) (map pass_of given) all j (pass_of b.0) (at_map pass_of given j b.0 b.1))

  -- what an Ok and an Err of a sweep both say
  pub answer_of : (given : List (Mutator L)) (answer : Result (SweepReport L) (NotSwept L)) → IfOk answer (IsSwept space given) → IfErr answer (IsNotSwept space given)
      → MatchResult answer (λ report. AreMutatorsOf space report.mutators.items) (λ refused. AreMutatorsOf space refused.mutators.items)
  answer_of given (Ok report) ok err = ok.of
  answer_of given (Err refused) ok err = err.of

  pub answer_back : (given : List (Mutator L)) (answer : Result (SweepReport L) (NotSwept L)) → IfOk answer (IsSwept space given) → IfErr answer (IsNotSwept space given)
      → MatchResult answer (λ report. HandsBack space given report.mutators.items) (λ refused. HandsBack space given refused.mutators.items)
  answer_back given (Ok report) ok err = ok.back
  answer_back given (Err refused) ok err = err.back

  -- an answer about the mutators that the workers left is one about the mutators that were given
  pub swept_then : (given back : List (Mutator L)) (answer : Result (SweepReport L) (NotSwept L)) → HandsBack space given back → IfOk answer (IsSwept space back) → IfOk answer (IsSwept space given)
  swept_then given back (Ok report) h ok = record { of = ok.of; back = handed_then given back report.mutators.items h ok.back; once = ok.once; seen = ok.seen }
  swept_then given back (Err refused) h ok = tt

  pub refused_then : (given back : List (Mutator L)) (answer : Result (SweepReport L) (NotSwept L)) → HandsBack space given back → IfErr answer (λ refused. HandsBack space back refused.mutators.items)
      → IfErr answer (λ refused. SweepRefused (setup_of space).compacted (map pass_of given) refused.fault) → IfErr answer (IsNotSwept space given)
  refused_then given back (Ok report) h err cause = tt
  refused_then given back (Err refused) h err cause =
      let all = handed_then given back refused.mutators.items h err in record { of = still_of given refused.mutators.items all; back = all; cause = cause }

  module _ {S : Type 0} {s : sweeping.Ghosts S} (cell : ℕ) (given : List (Mutator L)) (inputs : List (WorkerInput S s)) (workers : List (Worker L S s)) (made : AreMade cell given inputs workers) where
    -- workers that are made can begin
    pub ready_all : (compacted : ℕ) (told : List Pass) → told ≡ map pass_of given → compacted ≡ (setup_of space).compacted → AreMutatorsOf space given
        → AreReady space cell compacted told workers
    ready_all compacted told e ec of j x at =
        let here : get_elem? given j ≡ some x.mutator = subst (λ l. get_elem? l j ≡ some x.mutator) made.mutators (at_map worker_mutator workers j x at) in record {
          of = all_at (λ (m : Mutator L). IsMutatorOf space m) given of j x.mutator here;
          one = (j, subst (λ l. get_elem? l j ≡ some (pass_of x.mutator)) (sym e) (at_map pass_of given j x.mutator here));
          counted = ec;
          none = (made.fresh j x at).none;
          cell_is = (made.fresh j x at).note;
        }

    -- their mutators are handed back
    pub handed_back : (back : List (Mutator L)) → AllZip (HasSwept space) workers back → HandsBack space given back
    handed_back back m = subst (λ l. AllZip (Sweeps space) l back) made.mutators (map_zip worker_mutator (Sweeps space) workers back m)

    -- their region queues are those that were distributed
    queues_distributed : (n count : ℕ) (queues : List RegionQueue) → AllZip HasQueue workers queues → AreInputs n count inputs → AreDistributed n (standings queues)
    queues_distributed n count queues m k = subst (AreDistributed n) (sym (same_standings (map worker_queue workers) queues (map_zip worker_queue SameQueue workers queues m))) (subst (λ l. AreDistributed n (standings l)) (sym made.queues) k.distributed)

    -- what the workers left
    pub ended_of : (compacted count : ℕ) (told : List Pass) (outcome : Outcome L) → told ≡ map pass_of given → compacted ≡ (setup_of space).compacted → AreMutatorsOf space given
        → AreInputs (regions_of compacted) count inputs → WorkersEnded space compacted told workers outcome → HasEnded space compacted told outcome
    ended_of compacted count told outcome e ec of k run =
        let back = handed_back outcome.mutators.items run.swept in record {
          of = all_at (λ (m : Mutator L). IsMutatorOf space m) outcome.mutators.items (still_of given outcome.mutators.items back);
          knows = subst (λ l. Each outcome.mutators.items (λ (m : Mutator L). KnowsAll l (pass_of m))) (sym e) (knows_back given outcome.mutators.items back);
          count = AllZip-long HasQueue workers outcome.queues.items run.queues ∙ sym (AllZip-long (HasSwept space) workers outcome.mutators.items run.swept);
          distributed = queues_distributed (regions_of compacted) count outcome.queues.items run.queues k;
          seen = run.seen;
          tally = λ none x. omega (arith, run.tally none x, k.untaken x, ap (taken_in x) made.queues);
          refused = run.refused;
        }

-- worker inputs of these region queues
pub inputs_of : {S : Type 0} {s : sweeping.Ghosts S} (n count : ℕ) (inputs : List (WorkerInput S s)) (given : List RegionQueue) → map input_queue inputs ≡ given → Each inputs HasNoRegion → length given ≡ count
    → AreDistributed n (standings given) → ((x : ℕ) → taken_in x given ≡ 0) → AreInputs n count inputs
inputs_of n count inputs given e none long distributed untaken = record {
  count = omega (arith, length-map inputs input_queue, ap length e, long);
  distributed = subst (λ l. AreDistributed n (standings l)) (sym e) distributed;
  untaken = λ x. ap (taken_in x) e ∙ untaken x;
  none = none;
}

only_at : (q x : ℕ) → 0 < only q x → q ≡ x
only_at q x lt = elim (ℕ_discrete q x) [ yes e ↦ e | no ne ↦ absurd (omega (arith, lt, ap {B = ℕ} (λ (b : Bool). cond b 1 0) (ne_eqb q x ne))) ]

-- page p is in a region that one of the mutators swept
pub someone_sees : {L : Type 0} (u : Setup) (mutators : List (Mutator L)) (regions : List (Vec ℕ)) → AreAllOnce (regions_of u.compacted) (lists regions) → AllZip (SeesRegions u) mutators regions
    → (p : ℕ) → p < u.compacted → SomeSeesBuilt mutators p
someone_sees u mutators regions all m p lt =
    let q = p / 8 in
    let once : named q (lists regions) ≡ 1 = all.once q (omega (arith, lt)) in
    let one = some_term (times q) (lists regions) (omega (arith, once)) in
    let vec = at_map_back (λ (v : Vec ℕ). v.items) regions one.0 one.1 one.2 in
    let at = some_term (only q) one.1 one.3 in
    let who = beside (SeesRegions u) mutators regions one.0 vec.0 m vec.1 in
    let sees = all_at (SeesRegion u (pass_of who.0)) one.1 (subst (All (SeesRegion u (pass_of who.0))) vec.2 who.2) at.0 at.1 at.2 in
    let same : q ≡ at.1 = only_at q at.1 at.3 in
    (who.0, (one.0, who.1), sees p (record { from = omega (arith, same); to = omega (arith, same); compacted = lt }))
