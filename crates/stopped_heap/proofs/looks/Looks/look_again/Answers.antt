use Rattle.std.proofs.Common.{◌≡◌, ℕ, ◌-◌, ◌≤◌, true, List, length, drop, inl, inr, sym, subst, ◌∙◌, arith}
use Rattle.std.proofs.lemmas.Bool.{cases_lt}
use Rattle.std.proofs.lemmas.Grind.{common_steps}
use Rattle.std.proofs.lemmas.Result.{err_from_is_err_and}
use Rattle.std.proofs.lemmas.List.{take_at}
use Rattle.heap_layout.specs.Bits.{bit}
use Rattle.rest_marks.specs.LookFaults.{IsFieldsFault}
use Rattle.rest_marks.specs.Looks.{Looking, AreLookedAt, AreLooked, AreSameBut}
use Rattle.stopped_heap.proofs.looks.Looks.look_again.Goals as goal

pub look_again_at-requires-clause-inside : goal.look_again_at-requires-clause-inside
look_again_at-requires-clause-inside c =
    let i = c.args.i in
    let met : bit c.self.inside.heads.items i ≡ true = subst (λ (s : Looking). bit s.heads i ≡ true) (sym c.self.view_is) (sym c.is_met.ensures ∙ c.if-not-is_met.false) in
    c.self.invariant.4.within i (sym (c.self.invariant.3 i) ∙ met)

pub invariant_of-result : goal.invariant_of-result
invariant_of-result c =
    let inside = c.self.inside in
    let heads = c.look_again_at.new.heads in
    let heads_long : length heads ≡ inside.heads.len = grind (arith, common_steps, c.look_again_at.ensures.heads) in
    let within : inside.next ≤ length c.look_again_at.new.queue.items = elim (cases_lt 0 inside.next) [
      | inl some ↦ (let last = (c.in_ok-look_again_at.ensures.stay (inside.next - 1) (omega (arith, c.self.invariant.5, some))).0 in omega (arith, last, some))
      | inr none ↦ omega (arith, none)
    ] in
    rw (take_at heads (drop (length heads) inside.heads.items) inside.heads.len heads_long) (
      c.self.invariant.0,
      omega (arith, c.self.invariant.1, c.look_again_at.ensures.heads, c.deref_mut.ensures.len),
      c.self.invariant.2,
      c.in_ok-look_again_at.ensures.met,
      c.in_ok-look_again_at.ensures.once,
      within,
    )

pub returns-clause-looked : goal.returns-clause-looked
returns-clause-looked c = λ before now counted_before counted at same are.
    let inside = c.self.inside in
    let heads = c.look_again_at.new.heads in
    let heads_long : length heads ≡ inside.heads.len = grind (arith, common_steps, c.look_again_at.ensures.heads) in
    let seen = subst (λ (s : Looking). (length before ≡ s.count) × (length now ≡ s.count) × AreSameBut s.edition before now s.met s.looked c.args.i × AreLooked s before)
    (sym c.self.view_is) (counted_before, counted, same, are) in
    let old : AreLookedAt inside.edition before inside.queue.items inside.next c.deref_mut.result.now inside.bits.items =
    subst (λ (hs : List ℕ). AreLookedAt inside.edition before inside.queue.items inside.next hs inside.bits.items) (sym c.deref_mut.ensures.value) seen.3 in
    rw (take_at heads (drop (length heads) inside.heads.items) inside.heads.len heads_long)
    (c.in_ok-look_again_at.ensures.looked before now inside.bits.items inside.next seen.0 seen.1 c.self.invariant.5 at seen.2 old)

pub returns-in_err-look_again_at-clause-fault : goal.returns-in_err-look_again_at-clause-fault
returns-in_err-look_again_at-clause-fault c =
    let fault = c.in_err-look_again_at.field-0.0 in
    let p = err_from_is_err_and c.from_residual.result c.from_residual.ensures.1 in
    let cause = subst (λ (s : Looking). IsFieldsFault s.edition s.count s.met c.args.i c.args.run.now fault) c.self.view_is c.in_err-look_again_at.ensures.fault in
    rw (p.1, p.2) (inr (sym c.is_met.ensures ∙ c.if-not-is_met.false, cause))
