-- What a worker does, call by call.
use Rattle.std.proofs.Common.{◌≡◌, ℕ, ◌<◌, [], ◌∷◌, ◌++◌, List, Option, Result, Ok, refl, sym, ap, subst, ◌∙◌, arith, append_assoc}
use Rattle.std.proofs.lemmas.List.{append-nil}
use Rattle.std.proofs.lemmas.List.Elements.{All-append, All-cons, All-nil}
use Rattle.comp_mutator.specs.Builder.{Ghosts}
use Rattle.comp_mutator.specs.Setup.{Setup}
use Rattle.comp_mutator.specs.Passes.{did, builds_of}
use Rattle.comp_mutator.specs.Pass.{Pass}
use Rattle.comp_mutator.specs.Calls.{Grows, WroteNothing}
use Rattle.comp_mutator.proofs.Growing.{grows_none, grows_then, wrote_then}
use Rattle.comp_mutator.specs.Mutators.{pass_of, setup_of, unposted_of, IsMutatorOf}
use Rattle.comp_mutator.specs.Reads.{KnowsBuilt}
use Rattle.comp_mutator.specs.Copies.{builds_after, PageRefused}
use Rattle.comp_mutator.specs.Touched.{Touched}
use Rattle.comp_mutator.specs.Touched.TheVariants.{Built, AlreadyBuilt}
use Rattle.comp_mutator.specs.Refusal.{Refusal}
use Rattle.comp_mutator.specs.Refusal.TheVariants.{Null, NotAStart, NoSuchField, NotInEdition, ObjectTooLarge, OutOfPages, Busy, JournalFull, OutOfMemory}
use Rattle.comp_mutator.specs.MadeWords.{allocated}
use Rattle.comp_mutator.specs.declared.space.Space.{Space}
use Rattle.comp_mutator.specs.declared.mutator.Mutator.{Mutator}
use Rattle.comp_mutator.proofs.CompAccessGrowing.{known_more}
use Rattle.comp_mutator.proofs.Parts.{words_counted}
use Rattle.comp_sweep.specs.Regions.{SeesRegion}
use Rattle.comp_sweep.specs.Sweeps.{BuildsMore, Sweeps}
use Rattle.comp_sweep.specs.Workers.{IsCauseOf, KnowsAll, WhyStopped, WhyUnbuilt}
use Rattle.comp_sweep.specs.declared.working.WorkerEnd.{WorkerEnd}
use Rattle.comp_sweep.specs.declared.working.WorkerEnd.TheVariants.{Full, Reported, Wants}
use Rattle.heap_layout.specs.declared.edition.Edition.{Edition}

-- the cause of what a worker reports, if its pass knows what all these passes know
pub cause_met : {A : Type 0} (compacted here : ℕ) (given : List Pass) (pass : Pass) (known : Option A) (why : WorkerEnd) → compacted ≡ here → KnowsAll given pass → WhyStopped here pass known why → IsCauseOf compacted given why
cause_met compacted here given pass known Reported same knows w = tt
cause_met compacted here given pass known Full same knows w = tt
cause_met compacted here given pass known (Wants p) same knows w = (subst (λ n. p < n) (sym same) w.0, λ all. w.1 (knows p all))

-- a page that is refused, but not as busy, was not known to be built
pub memory_wanted : (p : ℕ) (a b : Pass) (refusal : Refusal) → ((q : ℕ) → refusal ≡ Busy q → ⊥) → PageRefused p a b refusal → KnowsBuilt a p → ⊥
memory_wanted p a b Null waited r = absurd r
memory_wanted p a b (NotAStart x) waited r = absurd r
memory_wanted p a b NoSuchField waited r = absurd r
memory_wanted p a b NotInEdition waited r = absurd r
memory_wanted p a b ObjectTooLarge waited r = absurd r
memory_wanted p a b OutOfPages waited r = absurd r
memory_wanted p a b (Busy q) waited r = absurd (waited q refl)
memory_wanted p a b (JournalFull q) waited r = absurd r
memory_wanted p a b OutOfMemory waited r = r

module _ {L B : Type 0} {g : Ghosts B} (space : Space L B g) where
  -- no call
  pub sweeps_none : (a : Mutator L) → IsMutatorOf space a → Sweeps space a a
  sweeps_none a of = record {
    of = of;
    grows = grows_none (pass_of a);
    wrote = record { did = refl; seen = λ p. refl };
    unposted = refl;
    posted = refl;
    builds = ([], sym (append-nil _), All-nil _);
  }

  module _ (a b : Mutator L) (was : IsMutatorOf space a) (of : IsMutatorOf space b) (grows : Grows (pass_of a) (pass_of b) × WroteNothing (pass_of a) (pass_of b)) (unposted : unposted_of b ≡ unposted_of a) where
    -- a call that wrote nothing
    sweeps_of : BuildsMore (setup_of space).compacted (pass_of a) (pass_of b) → Sweeps space a b
    sweeps_of builds = record {
      of = of;
      grows = grows.0;
      wrote = grows.1;
      unposted = unposted;
      posted =
          let e = (setup_of space).heap.edition in
          let edition = λ (u : Setup). u.heap.edition in
          let before = words_counted a ∙ ap (λ (x : Edition). allocated x (did (pass_of a))) (ap edition was.of.about) in
          let after = words_counted b ∙ ap (λ (x : Edition). allocated x (did (pass_of b))) (ap edition of.of.about) in
          omega (arith, unposted, before, after, ap (allocated e) grows.1.did);
      builds = builds;
    }

    -- a touch that was refused
    pub sweeps_refused : builds_of (pass_of b) ≡ builds_of (pass_of a) → Sweeps space a b
    sweeps_refused same = sweeps_of ([], same ∙ sym (append-nil _), All-nil _)

    -- a touch of a page
    pub sweeps_touch : (p : ℕ) → p < (setup_of space).compacted → (touched : Touched) → builds_of (pass_of b) ≡ builds_after (builds_of (pass_of a)) p touched
        → (KnowsBuilt (pass_of a) p → ◌≡◌ {A = Result Touched Refusal} (Ok touched) (Ok AlreadyBuilt)) → Sweeps space a b
    sweeps_touch p lt AlreadyBuilt same known = sweeps_refused same
    sweeps_touch p lt Built same known =
        sweeps_of (p ∷ [], same, All-cons (λ q. (q < (setup_of space).compacted) × (KnowsBuilt (pass_of a) q → ⊥)) p [] (lt, λ k. let e = known k in cc) (All-nil _))

  module _ (a b c : Mutator L) (h : Sweeps space a b) where
    -- two calls
    pub sweeps_then : Sweeps space b c → Sweeps space a c
    sweeps_then k =
        let earlier = known_more (pass_of a) (pass_of b) h.grows in record {
          of = k.of;
          grows = grows_then (pass_of a) (pass_of b) (pass_of c) h.grows k.grows;
          wrote = wrote_then (pass_of a) (pass_of b) (pass_of c) h.wrote k.wrote;
          unposted = k.unposted ∙ h.unposted;
          posted = k.posted ∙ h.posted;
          builds = (
            h.builds.0 ++ k.builds.0,
            k.builds.1 ∙ ap (λ l. l ++ k.builds.0) h.builds.1 ∙ append_assoc _ h.builds.0 k.builds.0,
            All-append (λ p. (p < (setup_of space).compacted) × (KnowsBuilt (pass_of a) p → ⊥)) h.builds.0 k.builds.0 h.builds.2 (λ i d lt. let x = k.builds.2 i d lt in (x.0, λ known. x.1 (earlier _ known))),
          );
        }

    -- why a worker stops at the pages of a region, if it made calls before
    pub unbuilt_then : {A : Type 0} (compacted : ℕ) (known : Option A) (stop : WorkerEnd) → WhyUnbuilt compacted (pass_of b) known stop → WhyUnbuilt compacted (pass_of a) known stop
    unbuilt_then compacted known Reported w = w
    unbuilt_then compacted known Full w = absurd w
    unbuilt_then compacted known (Wants p) w = (w.0, λ k. w.1 (known_more (pass_of a) (pass_of b) h.grows p k))

    -- why a worker stops, if it made calls before
    pub stopped_then : {A : Type 0} (compacted : ℕ) (known : Option A) (stop : WorkerEnd) → WhyUnbuilt compacted (pass_of b) known stop → WhyStopped compacted (pass_of a) known stop
    stopped_then compacted known Reported w = w
    stopped_then compacted known Full w = absurd w
    stopped_then compacted known (Wants p) w = (w.0, λ k. w.1 (known_more (pass_of a) (pass_of b) h.grows p k))

  module _ (a b : Mutator L) (h : Sweeps space a b) where
    -- a region that was seen built is still seen built
    pub region_then : (u : Setup) (region : ℕ) → SeesRegion u (pass_of a) region → SeesRegion u (pass_of b) region
    region_then u region sees p is = h.grows.built p (sees p is)
