use Rattle.std.proofs.Common.{◌≡◌, ℕ, List, subst}
use Rattle.stopped_heap.specs.Growth.{IsFoundIn}
use Rattle.pinned_heap.specs.Around.{end_from}
use Rattle.pinned_heap.specs.Pinned.{is_still, objects_in, FoundAround}
use Rattle.pinned_heap.proofs.Found.{end-found}
use Rattle.pinned_heap.proofs.pinned.Pinned.end.Goals as goal

pub returns : goal.returns
returns c =
    let inside = c.self.inside in
    subst (λ (p : FoundAround). (words : List ℕ) → IsFoundIn p.found words → inside.end ≡ end_from (is_still p) 0 (objects_in p.found words)) c.self.view_is
    (λ words is.
    end-found inside.places.now words inside.heads.now inside.bits.now inside.counts.now inside.stays.items inside.bases.items inside.runs.items inside.end c.self.invariant is)
