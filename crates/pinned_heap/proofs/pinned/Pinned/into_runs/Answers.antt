use Rattle.std.proofs.Common.{◌≡◌, ℕ, List, subst}
use Rattle.stopped_heap.specs.Growth.{IsFoundIn}
use Rattle.pinned_heap.specs.Around.{runs_from}
use Rattle.pinned_heap.specs.Pinned.{is_still, objects_in, FoundAround}
use Rattle.pinned_heap.proofs.Found.{runs-found}
use Rattle.pinned_heap.proofs.pinned.Pinned.into_runs.Goals as goal

pub returns : goal.returns
returns c =
    let inside = c.self.inside in
    subst (λ (p : FoundAround). (words : List ℕ) → IsFoundIn p.found words → inside.runs.items ≡ runs_from (is_still p) 0 (objects_in p.found words)) c.self.view_is
    (λ words is.
    runs-found inside.places.now words inside.heads.now inside.bits.now inside.counts.now inside.stays.items inside.bases.items inside.runs.items inside.end c.self.invariant is)
