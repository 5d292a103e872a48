use Rattle.std.proofs.Common.{◌≡◌, ℕ, List, length, drop, sym, subst, arith}
use Rattle.std.proofs.lemmas.Grind.{common_steps}
use Rattle.std.proofs.lemmas.Result.{err_from_is_err_and}
use Rattle.std.proofs.lemmas.List.{take_at}
use Rattle.rest_marks.specs.Lanes.{laned, Laned, AreLanedIn, IsLaneAfterRows, IsLaneRowsFault}
use Rattle.rest_marks.specs.Looks.{rows_of, AreLookedAt, AreRowsAt}
use Rattle.stopped_heap.proofs.lane.Lane.look_rows.Goals as goal

pub invariant_of-result : goal.invariant_of-result
invariant_of-result c =
    let inside = c.self.inside in
    let known = c.look_each.new.known in
    let heads = c.look_each.new.heads in
    let bits = c.look_each.new.bits in
    let known_long : length known ≡ inside.known.len = grind (arith, common_steps, c.look_each.ensures.known) in
    let heads_long : length heads ≡ inside.heads.len = grind (arith, common_steps, c.look_each.ensures.heads) in
    let bits_long : length bits ≡ inside.bits.len = grind (arith, common_steps, c.look_each.ensures.bits) in
    rw (
      take_at known (drop (length known) inside.known.items) inside.known.len known_long,
      take_at heads (drop (length heads) inside.heads.items) inside.heads.len heads_long,
      take_at bits (drop (length bits) inside.bits.items) inside.bits.len bits_long,
    ) (
      c.self.invariant.0,
      omega (arith, c.self.invariant.1, c.look_each.ensures.heads, c.deref_mut-2.ensures.len),
      omega (arith, c.self.invariant.2, c.look_each.ensures.bits, c.deref_mut-3.ensures.len),
      omega (arith, c.self.invariant.3, c.look_each.ensures.known, c.deref_mut.ensures.len),
      c.in_ok-next.ensures.met,
      c.in_ok-next.ensures.once,
      c.in_ok-next.ensures.inside,
    )

pub returns-clause-after : goal.returns-clause-after
returns-clause-after c =
    let inside = c.self.inside in
    let rows = c.args.rows.now in
    let known = c.look_each.new.known in
    let heads = c.look_each.new.heads in
    let bits = c.look_each.new.bits in
    let known_long : length known ≡ inside.known.len = grind (arith, common_steps, c.look_each.ensures.known) in
    let heads_long : length heads ≡ inside.heads.len = grind (arith, common_steps, c.look_each.ensures.heads) in
    let bits_long : length bits ≡ inside.bits.len = grind (arith, common_steps, c.look_each.ensures.bits) in
    let e = inside.edition in
    let count = inside.count in
    let met = inside.queue.items in
    let next = inside.next in
    let new = laned e count c.look_each.new.queue.items c.in_ok-next.next heads bits known in
    let all = rows_of e rows in
    let one = subst (λ (ks : List ℕ). IsLaneAfterRows (laned e count met next c.deref_mut-2.result.now c.deref_mut-3.result.now ks) all (length all) new) c.deref_mut.ensures.value c.in_ok-next.ensures.after in
    let two = subst (λ (hs : List ℕ). IsLaneAfterRows (laned e count met next hs c.deref_mut-3.result.now inside.known.items) all (length all) new) c.deref_mut-2.ensures.value one in
    let three = subst (λ (bs : List ℕ). IsLaneAfterRows (laned e count met next inside.heads.items bs inside.known.items) all (length all) new) c.deref_mut-3.ensures.value two in
    let seen = subst (λ (s : Laned). IsLaneAfterRows s (rows_of s.own.edition rows) (length (rows_of s.own.edition rows)) new) c.self.view_is three in
    rw (
      take_at known (drop (length known) inside.known.items) inside.known.len known_long,
      take_at heads (drop (length heads) inside.heads.items) inside.heads.len heads_long,
      take_at bits (drop (length bits) inside.bits.items) inside.bits.len bits_long,
    ) seen

pub returns-clause-looked : goal.returns-clause-looked
returns-clause-looked c = λ words counted at are.
    let inside = c.self.inside in
    let known = c.look_each.new.known in
    let bits = c.look_each.new.bits in
    let known_long : length known ≡ inside.known.len = grind (arith, common_steps, c.look_each.ensures.known) in
    let bits_long : length bits ≡ inside.bits.len = grind (arith, common_steps, c.look_each.ensures.bits) in
    let seen = subst (λ (s : Laned). (length words ≡ s.own.count) × AreRowsAt words c.look_each.new.queue.items s.own.looked (rows_of s.own.edition c.args.rows.now) × AreLanedIn s words)
    (sym c.self.view_is) (counted, at, are) in
    let old : AreLookedAt inside.edition words inside.queue.items inside.next c.deref_mut.result.now c.deref_mut-3.result.now =
    subst (λ (ks : List ℕ). AreLookedAt inside.edition words inside.queue.items inside.next ks c.deref_mut-3.result.now) (sym c.deref_mut.ensures.value)
    (subst (λ (bs : List ℕ). AreLookedAt inside.edition words inside.queue.items inside.next inside.known.items bs) (sym c.deref_mut-3.ensures.value) seen.2) in
    rw (take_at known (drop (length known) inside.known.items) inside.known.len known_long, take_at bits (drop (length bits) inside.bits.items) inside.bits.len bits_long)
    (c.in_ok-next.ensures.looked words seen.0 seen.1 old)

pub returns-in_err-next-clause-fault : goal.returns-in_err-next-clause-fault
returns-in_err-next-clause-fault c =
    let inside = c.self.inside in
    let rows = c.args.rows.now in
    let e = inside.edition in
    let count = inside.count in
    let met = inside.queue.items in
    let next = inside.next in
    let fault = c.in_err-next.field-0.0 in
    let all = rows_of e rows in
    let one = subst (λ (ks : List ℕ). IsLaneRowsFault (laned e count met next c.deref_mut-2.result.now c.deref_mut-3.result.now ks) all fault) c.deref_mut.ensures.value c.in_err-next.ensures.fault in
    let two = subst (λ (hs : List ℕ). IsLaneRowsFault (laned e count met next hs c.deref_mut-3.result.now inside.known.items) all fault) c.deref_mut-2.ensures.value one in
    let three = subst (λ (bs : List ℕ). IsLaneRowsFault (laned e count met next inside.heads.items bs inside.known.items) all fault) c.deref_mut-3.ensures.value two in
    let p = err_from_is_err_and c.from_residual.result c.from_residual.ensures.1 in
    rw (p.1, p.2) (subst (λ (s : Laned). IsLaneRowsFault s (rows_of s.own.edition rows) fault) c.self.view_is three)
