use Rattle.std.proofs.Common.{◌≡◌, ℕ, ◌<◌, ◌⊎◌, List, length, get_or, drop, inr, sym, subst, ◌∙◌, arith}
use Rattle.std.proofs.lemmas.Grind.{common_steps}
use Rattle.std.proofs.lemmas.Result.{err_from_is_err_and}
use Rattle.std.proofs.lemmas.List.{get_or_default, take_at}
use Rattle.reachability.proofs.Queues.{has-at}
use Rattle.rest_marks.specs.LookFaults.{IsFieldsFault, IsLookFault, IsPlacingFault}
use Rattle.rest_marks.specs.Looks.{Looking, IsAt, AreLookedAt, AreLooked}
use Rattle.stopped_heap.proofs.looks.Looks.look.Goals as goal

pub look_at-requires-clause-inside : goal.look_at-requires-clause-inside
look_at-requires-clause-inside c =
    let queue = c.self.inside.queue.items in
    let next = c.self.inside.next in
    let i = c.index.result.now in
    let within : next < length queue = omega (arith, c.if-next-len.false, c.len.ensures) in
    let here : get_or queue next 0 ≡ i = get_or_default queue next 0 i within ∙ sym c.index.ensures in
    let lt = c.self.invariant.4.within (get_or queue next 0) (has-at queue next within) in
    omega (arith, lt, here)

pub invariant_of-result : goal.invariant_of-result
invariant_of-result c =
    let inside = c.self.inside in
    let heads = c.look_at.new.heads in
    let bits = c.look_at.new.bits in
    let heads_long : length heads ≡ inside.heads.len = grind (arith, common_steps, c.look_at.ensures.heads) in
    let bits_long : length bits ≡ inside.bits.len = grind (arith, common_steps, c.look_at.ensures.bits) in
    let within : inside.next < length inside.queue.items = omega (arith, c.if-next-len.false, c.len.ensures) in
    rw (take_at heads (drop (length heads) inside.heads.items) inside.heads.len heads_long, take_at bits (drop (length bits) inside.bits.items) inside.bits.len bits_long) (
      c.self.invariant.0,
      omega (arith, c.self.invariant.1, c.look_at.ensures.heads, c.deref_mut.ensures.len),
      omega (arith, c.self.invariant.2, c.look_at.ensures.bits, c.deref_mut-2.ensures.len),
      c.in_ok-look_at.ensures.met,
      c.in_ok-look_at.ensures.once,
      (let stay = (c.in_ok-look_at.ensures.stay inside.next within).0 in omega (arith, stay)),
    )

pub returns-clause-looked : goal.returns-clause-looked
returns-clause-looked c = λ words counted at are.
    let inside = c.self.inside in
    let run = c.args.run.now in
    let heads = c.look_at.new.heads in
    let bits = c.look_at.new.bits in
    let heads_long : length heads ≡ inside.heads.len = grind (arith, common_steps, c.look_at.ensures.heads) in
    let bits_long : length bits ≡ inside.bits.len = grind (arith, common_steps, c.look_at.ensures.bits) in
    let within : inside.next < length inside.queue.items = omega (arith, c.if-next-len.false, c.len.ensures) in
    let i = c.index.result.now in
    let here : get_or inside.queue.items inside.next 0 ≡ i = get_or_default inside.queue.items inside.next 0 i within ∙ sym c.index.ensures in
    let seen = subst (λ (s : Looking). (length words ≡ s.count) × IsAt words (get_or s.met s.looked 0) run × AreLooked s words) (sym c.self.view_is) (counted, at, are) in
    let old : AreLookedAt inside.edition words inside.queue.items inside.next c.deref_mut.result.now c.deref_mut-2.result.now =
    subst (λ (hs : List ℕ). AreLookedAt inside.edition words inside.queue.items inside.next hs c.deref_mut-2.result.now) (sym c.deref_mut.ensures.value)
    (subst (λ (bs : List ℕ). AreLookedAt inside.edition words inside.queue.items inside.next inside.heads.items bs) (sym c.deref_mut-2.ensures.value) seen.2) in
    rw (take_at heads (drop (length heads) inside.heads.items) inside.heads.len heads_long, take_at bits (drop (length bits) inside.bits.items) inside.bits.len bits_long)
    (c.in_ok-look_at.ensures.looked words inside.next seen.0 within here (subst (λ (n : ℕ). IsAt words n run) here seen.1) old)

pub returns-in_err-look_at-clause-fault : goal.returns-in_err-look_at-clause-fault
returns-in_err-look_at-clause-fault c =
    let inside = c.self.inside in
    let next = inside.next in
    let run = c.args.run.now in
    let fault = c.in_err-look_at.field-0.0 in
    let within : next < length inside.queue.items = omega (arith, c.if-next-len.false, c.len.ensures) in
    let i = c.index.result.now in
    let here : get_or inside.queue.items next 0 ≡ i = get_or_default inside.queue.items next 0 i within ∙ sym c.index.ensures in
    let bits : IsPlacingFault inside.edition inside.count inside.bits.items i run fault ⊎ IsFieldsFault inside.edition inside.count inside.queue.items i run fault =
    subst (λ (bs : List ℕ). IsPlacingFault inside.edition inside.count bs i run fault ⊎ IsFieldsFault inside.edition inside.count inside.queue.items i run fault) c.deref_mut-2.ensures.value
    c.in_err-look_at.ensures.fault in
    let cause : IsPlacingFault inside.edition inside.count inside.bits.items (get_or inside.queue.items next 0) run fault ⊎ IsFieldsFault inside.edition inside.count inside.queue.items (get_or inside.queue.items next 0) run fault =
    subst (λ (n : ℕ). IsPlacingFault inside.edition inside.count inside.bits.items n run fault ⊎ IsFieldsFault inside.edition inside.count inside.queue.items n run fault) (sym here) bits in
    let p = err_from_is_err_and c.from_residual.result c.from_residual.ensures.1 in
    rw (p.1, p.2) (subst (λ (s : Looking). IsLookFault s run fault) c.self.view_is (inr (within, cause)))
