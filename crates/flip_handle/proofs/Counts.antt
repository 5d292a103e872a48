-- The counts of roots and of pages.
use Rattle.std.proofs.Common.{◌≡◌, ℕ, ◌-◌, ◌≤◌, List, Some, length, ap, sym, ◌∙◌, arith}
use Rattle.std.proofs.lemmas.List.{length-map}
use Rattle.heap_layout.specs.Heap.{Heap}
use Rattle.comp_crew.specs.Finishes.{pages_of}
use Rattle.comp_crew.specs.Finishing.{finished_of, setup_at_end, IsEnded}
use Rattle.comp_crew.specs.Forwarded.{AreForwarded}
use Rattle.comp_crew.specs.declared.finishing.Ended.{Ended as End}

-- each root is forwarded once
pub many : (heap : Heap) (roots : List ℕ) → AreForwarded heap roots → length roots ≡ length heap.roots
many heap roots h = sym (length-map roots (λ (address : ℕ). Some address)) ∙ ap length h ∙ length-map heap.roots _

-- the pages that are not fresh are the compacted ones
pub fresh_within : (e : End) → IsEnded e → (setup_at_end e).fresh ≤ length (pages_of (finished_of e))
fresh_within e h = omega arith

pub all_but_fresh : (e : End) → IsEnded e → length (pages_of (finished_of e)) - (setup_at_end e).fresh ≡ (setup_at_end e).compacted
all_but_fresh e h = let count = h.end.finished.pages.count in omega (arith, count)
