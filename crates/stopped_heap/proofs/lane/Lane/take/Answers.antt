use Rattle.std.proofs.Common.{◌≡◌, ℕ, ◌-◌, ◌<◌, ◌≤◌, true, List, length, get_or, drop, inl, inr, sym, ap, subst, ◌∙◌, arith}
use Rattle.std.proofs.lemmas.Bool.{cases_lt}
use Rattle.std.proofs.lemmas.Grind.{common_steps}
use Rattle.std.proofs.lemmas.List.{take_at}
use Rattle.heap_layout.specs.Bits.{bit}
use Rattle.rest_marks.specs.Lanes.{Laned, AreLanedIn}
use Rattle.stopped_heap.proofs.LanesJoined.{at-stay, looked-wider}
use Rattle.stopped_heap.proofs.lane.Lane.take.Goals as goal

pub invariant_of-result : goal.invariant_of-result
invariant_of-result c =
    let inside = c.self.inside in
    let queue = c.take_all.new.queue.items in
    let known = c.take_all.new.known in
    let heads = c.take_all.new.heads in
    let known_long : length known ≡ inside.known.len = grind (arith, common_steps, c.take_all.ensures.known) in
    let heads_long : length heads ≡ inside.heads.len = grind (arith, common_steps, c.take_all.ensures.heads) in
    let within : inside.next ≤ length queue = elim (cases_lt 0 inside.next) [
      | inl some ↦
          let last = (at-stay inside.queue.items c.args.indices.now (inside.next - 1) (omega (arith, c.self.invariant.6, some))).0 in
          omega (arith, last, some, ap (λ (xs : List ℕ). length xs) c.in-Ok.ensures.queue)
      | inr none ↦ omega (arith, none)
    ] in
    rw (
      take_at heads (drop (length heads) inside.heads.items) inside.heads.len heads_long,
      take_at known (drop (length known) inside.known.items) inside.known.len known_long,
    ) (
      c.self.invariant.0,
      omega (arith, c.self.invariant.1, c.take_all.ensures.heads, c.deref_mut-2.ensures.len),
      c.self.invariant.2,
      omega (arith, c.self.invariant.3, c.take_all.ensures.known, c.deref_mut.ensures.len),
      c.in-Ok.ensures.met,
      c.in-Ok.ensures.once,
      within,
    )

pub returns-in-Ok-clause-has : goal.returns-in-Ok-clause-has
returns-in-Ok-clause-has c =
    let inside = c.self.inside in
    let heads = c.take_all.new.heads in
    let heads_long : length heads ≡ inside.heads.len = grind (arith, common_steps, c.take_all.ensures.heads) in
    rw (take_at heads (drop (length heads) inside.heads.items) inside.heads.len heads_long) c.in-Ok.ensures.has

pub returns-in-Ok-clause-knows : goal.returns-in-Ok-clause-knows
returns-in-Ok-clause-knows c =
    let inside = c.self.inside in
    let known = c.take_all.new.known in
    let known_long : length known ≡ inside.known.len = grind (arith, common_steps, c.take_all.ensures.known) in
    rw (take_at known (drop (length known) inside.known.items) inside.known.len known_long) c.in-Ok.ensures.knows

pub returns-in-Ok-clause-stay : goal.returns-in-Ok-clause-stay
returns-in-Ok-clause-stay c = λ k lt.
    let inside = c.self.inside in
    let queue = c.take_all.new.queue.items in
    let seen = subst (λ (s : Laned). k < length s.own.met) (sym c.self.view_is) lt in
    subst (λ (s : Laned). get_or queue k 0 ≡ get_or s.own.met k 0) c.self.view_is
    (ap (λ (xs : List ℕ). get_or xs k 0) c.in-Ok.ensures.queue ∙ (at-stay inside.queue.items c.args.indices.now k seen).1)

pub returns-in-Ok-clause-looked : goal.returns-in-Ok-clause-looked
returns-in-Ok-clause-looked c = λ words are.
    let inside = c.self.inside in
    let queue = c.take_all.new.queue.items in
    let known = c.take_all.new.known in
    let known_long : length known ≡ inside.known.len = grind (arith, common_steps, c.take_all.ensures.known) in
    let more = subst (λ (ks : List ℕ). (i : ℕ) → bit ks i ≡ true → bit known i ≡ true) c.deref_mut.ensures.value c.in-Ok.ensures.more in
    let seen = subst (λ (s : Laned). AreLanedIn s words) (sym c.self.view_is) are in
    rw (take_at known (drop (length known) inside.known.items) inside.known.len known_long)
    (looked-wider inside.edition words inside.queue.items queue inside.next inside.known.items known inside.bits.items
    (λ k lt. ap (λ (xs : List ℕ). get_or xs k 0) c.in-Ok.ensures.queue ∙ (at-stay inside.queue.items c.args.indices.now k (omega (arith, lt, c.self.invariant.6))).1)
    more seen)
