-- One word more leads to an object whose bit is set.
use Rattle.std.proofs.Common.{◌≡◌, ℕ, ◌+◌, ◌<◌, true, List, get_or, inl, inr, ap, ◌∙◌, arith}
use Rattle.std.proofs.lemmas.Bool.{cases_lt}
use Rattle.heap_layout.specs.Bits.{bit}
use Rattle.heap_layout.specs.Heap.{from_address}
use Rattle.mark_job.specs.Heads.{AreAmong}
use Rattle.mark_job.specs.Marking.{AreMarkedTo}

pub marked-more : (count : ℕ) (from old new : List ℕ) (n : ℕ) → AreMarkedTo count from n old → AreAmong old new
    → ((i : ℕ) → i < count → get_or from n 0 ≡ from_address i → bit new i ≡ true) → AreMarkedTo count from (n + 1) new
marked-more count from old new n before stay next k i lt inside leads = elim (cases_lt k n) [
  | inl old ↦ stay i (before k i old inside leads)
  | inr new ↦
      let same : n ≡ k = omega arith in
      next i inside (ap (λ (j : ℕ). get_or from j 0) same ∙ leads)
]
