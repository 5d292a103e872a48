use Rattle.std.proofs.Common.{◌≡◌, ℕ, true, List, refl, sym, subst}
use Rattle.heap_layout.specs.Bits.{bit}
use Rattle.rest_marks.specs.Lanes.{Laned, AreLanedIn}
use Rattle.stopped_heap.proofs.LanesJoined.{looked-wider}
use Rattle.stopped_heap.proofs.lane.Lane.whole.Goals as goal

pub returns-clause-looked : goal.returns-clause-looked
returns-clause-looked c = λ words are.
    let inside = c.self.inside in
    let heads_too = subst (λ (ys : List ℕ). (i : ℕ) → bit c.deref.result.now i ≡ true → bit ys i ≡ true) c.deref-2.ensures.value c.in_default.ensures.none in
    let all = subst (λ (xs : List ℕ). (i : ℕ) → bit xs i ≡ true → bit inside.heads.items i ≡ true) c.deref.ensures.value heads_too in
    let seen = subst (λ (s : Laned). AreLanedIn s words) (sym c.self.view_is) are in
    looked-wider inside.edition words inside.queue.items inside.queue.items inside.next inside.known.items inside.heads.items inside.bits.items (λ k lt. refl) all seen
