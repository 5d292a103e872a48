use Rattle.std.proofs.Common.{◌≡◌, ℕ, List, length, drop, sym, subst, arith}
use Rattle.std.proofs.lemmas.Grind.{common_steps}
use Rattle.std.proofs.lemmas.List.{take_at}
use Rattle.rest_marks.specs.Looks.{rows_of, Looking, AreLookedAt, AreLooked, AreRowsAt}
use Rattle.stopped_heap.proofs.looks.Looks.look_rows.Goals as goal

pub invariant_of-result : goal.invariant_of-result
invariant_of-result c =
    let inside = c.self.inside in
    let heads = c.look_each.new.heads in
    let bits = c.look_each.new.bits in
    let heads_long : length heads ≡ inside.heads.len = grind (arith, common_steps, c.look_each.ensures.heads) in
    let bits_long : length bits ≡ inside.bits.len = grind (arith, common_steps, c.look_each.ensures.bits) in
    rw (take_at heads (drop (length heads) inside.heads.items) inside.heads.len heads_long, take_at bits (drop (length bits) inside.bits.items) inside.bits.len bits_long) (
      c.self.invariant.0,
      omega (arith, c.self.invariant.1, c.look_each.ensures.heads, c.deref_mut.ensures.len),
      omega (arith, c.self.invariant.2, c.look_each.ensures.bits, c.deref_mut-2.ensures.len),
      c.in_ok-next.ensures.met,
      c.in_ok-next.ensures.once,
      c.in_ok-next.ensures.inside,
    )

pub returns-clause-looked : goal.returns-clause-looked
returns-clause-looked c = λ words counted at are.
    let inside = c.self.inside in
    let heads = c.look_each.new.heads in
    let bits = c.look_each.new.bits in
    let heads_long : length heads ≡ inside.heads.len = grind (arith, common_steps, c.look_each.ensures.heads) in
    let bits_long : length bits ≡ inside.bits.len = grind (arith, common_steps, c.look_each.ensures.bits) in
    let seen = subst (λ (s : Looking). (length words ≡ s.count) × AreRowsAt words c.look_each.new.queue.items s.looked (rows_of s.edition c.args.rows.now) × AreLooked s words)
    (sym c.self.view_is) (counted, at, are) in
    let old : AreLookedAt inside.edition words inside.queue.items inside.next c.deref_mut.result.now c.deref_mut-2.result.now =
    subst (λ (hs : List ℕ). AreLookedAt inside.edition words inside.queue.items inside.next hs c.deref_mut-2.result.now) (sym c.deref_mut.ensures.value)
    (subst (λ (bs : List ℕ). AreLookedAt inside.edition words inside.queue.items inside.next inside.heads.items bs) (sym c.deref_mut-2.ensures.value) seen.2) in
    rw (take_at heads (drop (length heads) inside.heads.items) inside.heads.len heads_long, take_at bits (drop (length bits) inside.bits.items) inside.bits.len bits_long)
    (c.in_ok-next.ensures.looked words seen.0 seen.1 old)
