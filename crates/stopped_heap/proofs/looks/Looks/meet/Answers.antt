use Rattle.std.proofs.Common.{◌≡◌, ◌-◌, ◌<◌, ◌≤◌, length, get_or, drop, inl, inr, sym, subst, arith}
use Rattle.std.proofs.lemmas.Bool.{cases_lt}
use Rattle.std.proofs.lemmas.Grind.{common_steps}
use Rattle.std.proofs.lemmas.List.{take_at}
use Rattle.rest_marks.specs.Looks.{met_by, Looking, AreLooked}
use Rattle.rest_marks.proofs.LookedAt.{looked-met, places-kept}
use Rattle.stopped_heap.proofs.looks.Looks.meet.Goals as goal

pub returns-in-Err-Memory-clause-fault : goal.returns-in-Err-Memory-clause-fault
returns-in-Err-Memory-clause-fault c =
    let more = rw c.in-Err-Memory.field-0-is at c.in-Err-Memory.ensures.more in
    subst (λ (s : Looking). length s.met < length (met_by s.count s.met c.args.values.now)) c.self.view_is more

pub invariant_of-result : goal.invariant_of-result
invariant_of-result c =
    let inside = c.self.inside in
    let heads = c.meet_all.new.met in
    let heads_long : length heads ≡ inside.heads.len = grind (arith, common_steps, c.meet_all.ensures.length) in
    let within : inside.next ≤ length c.meet_all.new.queue.items = elim (cases_lt 0 inside.next) [
      | inl some ↦
          let last = (places-kept inside.count inside.queue.items c.meet_all.new.queue.items c.args.values.now c.in-Ok.ensures.queue (inside.next - 1) (omega (arith, c.self.invariant.5, some))).0 in
          omega (arith, last, some)
      | inr none ↦ omega (arith, none)
    ] in
    rw (take_at heads (drop (length heads) inside.heads.items) inside.heads.len heads_long) (
      c.self.invariant.0,
      omega (arith, c.self.invariant.1, c.meet_all.ensures.length, c.deref_mut.ensures.len),
      c.self.invariant.2,
      c.in-Ok.ensures.met,
      c.in-Ok.ensures.once,
      within,
    )

pub returns-clause-stay : goal.returns-clause-stay
returns-clause-stay c = λ k lt.
    let inside = c.self.inside in
    let seen = subst (λ (s : Looking). k < length s.met) (sym c.self.view_is) lt in
    subst (λ (s : Looking). get_or c.meet_all.new.queue.items k 0 ≡ get_or s.met k 0) c.self.view_is
    (places-kept inside.count inside.queue.items c.meet_all.new.queue.items c.args.values.now c.in-Ok.ensures.queue k seen).1

pub returns-clause-looked : goal.returns-clause-looked
returns-clause-looked c = λ words are.
    let inside = c.self.inside in
    let heads = c.meet_all.new.met in
    let heads_long : length heads ≡ inside.heads.len = grind (arith, common_steps, c.meet_all.ensures.length) in
    let seen = subst (λ (s : Looking). AreLooked s words) (sym c.self.view_is) are in
    rw (take_at heads (drop (length heads) inside.heads.items) inside.heads.len heads_long)
    (looked-met inside.edition inside.count words inside.queue.items c.meet_all.new.queue.items c.args.values.now inside.heads.items heads inside.bits.items inside.next
    c.self.invariant.5 c.in-Ok.ensures.queue c.self.invariant.3 c.in-Ok.ensures.met seen)
