-- What a worker takes and lists, one region at a time.
use Rattle.std.proofs.Common.{◌≡◌, ℕ, ◌+◌, List, [], ◌∷◌, ◌++◌, All, refl, sym, subst, ◌∙◌, arith}
use Rattle.std.proofs.lemmas.List.Elements.{All-append, All-cons, All-nil}
use Rattle.comp_mutator.specs.Setup.{Setup}
use Rattle.comp_mutator.specs.Lists.{only}
use Rattle.comp_mutator.specs.Pass.{Pass}
use Rattle.comp_sweep.specs.Queues.{taken, SameQueue}
use Rattle.comp_sweep.specs.declared.queues.RegionQueue.{RegionQueue}
use Rattle.comp_sweep.proofs.Tallies.{times_more}
use Rattle.comp_sweep.specs.Regions.{SeesRegion}
use Rattle.comp_sweep.specs.Workers.{Listed}

pub queue_then : (a b c : RegionQueue) → SameQueue a b → SameQueue b c → SameQueue a c
queue_then a b c h k = k ∙ h

module _ (u : Setup) where
  -- nothing was taken
  pub listed_none : (pass : Pass) (queue : RegionQueue) (regions : List ℕ) → All (SeesRegion u pass) regions → Listed u pass queue queue regions regions
  listed_none pass queue regions seen = record { seen = seen; tally = λ x. refl }

  -- one region more
  pub listed_next : (pass next : Pass) (first old new : RegionQueue) (before after more : List ℕ) (q : ℕ) → ((region : ℕ) → SeesRegion u pass region → SeesRegion u next region) → SeesRegion u next q
      → ((x : ℕ) → taken x new ≡ taken x old + only x q) → more ≡ after ++ q ∷ [] → Listed u pass first old before after → Listed u next first new before more
  listed_next pass next first old new before after more q keeps here tally e h = record {
    seen = subst (All (SeesRegion u next)) (sym e)
        (All-append (SeesRegion u next) after (q ∷ []) (λ k d lt. keeps _ (h.seen k d lt)) (All-cons (SeesRegion u next) q [] here (All-nil _)));
    tally = λ x. omega (arith, times_more x q after more e, h.tally x, tally x);
  }
