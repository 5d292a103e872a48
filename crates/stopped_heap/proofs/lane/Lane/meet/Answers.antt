use Rattle.std.proofs.Common.{◌≡◌, List, ℕ, length, drop, sym, subst, arith}
use Rattle.std.proofs.lemmas.Grind.{common_steps}
use Rattle.std.proofs.lemmas.List.{take_at}
use Rattle.rest_marks.specs.Lanes.{Laned, AreLanedIn, IsLedTo, IsLedToUnknown, IsTold}
use Rattle.rest_marks.specs.Marks.{AllKept}
use Rattle.rest_marks.proofs.Laned.{looked-told, told-longer}
use Rattle.stopped_heap.proofs.lane.Lane.meet.Goals as goal

pub returns-in-Err-Memory-clause-fault : goal.returns-in-Err-Memory-clause-fault
returns-in-Err-Memory-clause-fault c =
    let inside = c.self.inside in
    let lack = rw c.in-Err-Memory.field-0-is at c.in-Err-Memory.ensures.lack in
    let old = subst (λ (ks : List ℕ). IsLedToUnknown inside.count ks c.args.values.now) c.deref_mut.ensures.value lack in
    subst (λ (s : Laned). IsLedToUnknown s.own.count s.known c.args.values.now) c.self.view_is old

pub invariant_of-result : goal.invariant_of-result
invariant_of-result c =
    let inside = c.self.inside in
    let known = c.meet_known.new.known in
    let heads = c.meet_known.new.heads in
    let known_long : length known ≡ inside.known.len = grind (arith, common_steps, c.meet_known.ensures.known) in
    let heads_long : length heads ≡ inside.heads.len = grind (arith, common_steps, c.meet_known.ensures.heads) in
    let longer = told-longer (IsLedTo inside.count c.args.values.now) inside.queue.items c.deref_mut.result.now c.meet_known.new.queue.items known c.in-Ok.ensures.told in
    rw (
      take_at known (drop (length known) inside.known.items) inside.known.len known_long,
      take_at heads (drop (length heads) inside.heads.items) inside.heads.len heads_long,
    ) (
      c.self.invariant.0,
      omega (arith, c.self.invariant.1, c.meet_known.ensures.heads, c.deref_mut-2.ensures.len),
      c.self.invariant.2,
      omega (arith, c.self.invariant.3, c.meet_known.ensures.known, c.deref_mut.ensures.len),
      c.in-Ok.ensures.met,
      c.in-Ok.ensures.once,
      omega (arith, longer, c.self.invariant.6),
    )

pub returns-clause-stay : goal.returns-clause-stay
returns-clause-stay c =
    let inside = c.self.inside in
    let known = c.meet_known.new.known in
    let queue = c.meet_known.new.queue.items in
    let old = subst (λ (ks : List ℕ). IsTold (IsLedTo inside.count c.args.values.now) inside.queue.items ks queue known) c.deref_mut.ensures.value c.in-Ok.ensures.told in
    let seen = subst (λ (s : Laned). IsTold (IsLedTo s.own.count c.args.values.now) s.own.met s.known queue known) c.self.view_is old in
    λ k lt. (seen.stay k lt).1

pub returns-clause-known : goal.returns-clause-known
returns-clause-known c =
    let inside = c.self.inside in
    let known = c.meet_known.new.known in
    let known_long : length known ≡ inside.known.len = grind (arith, common_steps, c.meet_known.ensures.known) in
    rw (take_at known (drop (length known) inside.known.items) inside.known.len known_long)
    (subst (λ (s : Laned). AllKept s.own.edition known c.args.values.now) c.self.view_is c.in-Ok.ensures.kept)

pub returns-clause-more : goal.returns-clause-more
returns-clause-more c =
    let inside = c.self.inside in
    let known = c.meet_known.new.known in
    let queue = c.meet_known.new.queue.items in
    let known_long : length known ≡ inside.known.len = grind (arith, common_steps, c.meet_known.ensures.known) in
    let old = subst (λ (ks : List ℕ). IsTold (IsLedTo inside.count c.args.values.now) inside.queue.items ks queue known) c.deref_mut.ensures.value c.in-Ok.ensures.told in
    let seen = subst (λ (s : Laned). IsTold (IsLedTo s.own.count c.args.values.now) s.own.met s.known queue known) c.self.view_is old in
    rw (take_at known (drop (length known) inside.known.items) inside.known.len known_long) seen.more

pub returns-clause-told : goal.returns-clause-told
returns-clause-told c =
    let inside = c.self.inside in
    let known = c.meet_known.new.known in
    let queue = c.meet_known.new.queue.items in
    let known_long : length known ≡ inside.known.len = grind (arith, common_steps, c.meet_known.ensures.known) in
    let old = subst (λ (ks : List ℕ). IsTold (IsLedTo inside.count c.args.values.now) inside.queue.items ks queue known) c.deref_mut.ensures.value c.in-Ok.ensures.told in
    let seen = subst (λ (s : Laned). IsTold (IsLedTo s.own.count c.args.values.now) s.own.met s.known queue known) c.self.view_is old in
    rw (take_at known (drop (length known) inside.known.items) inside.known.len known_long) seen

pub returns-clause-looked : goal.returns-clause-looked
returns-clause-looked c = λ words are.
    let inside = c.self.inside in
    let known = c.meet_known.new.known in
    let queue = c.meet_known.new.queue.items in
    let known_long : length known ≡ inside.known.len = grind (arith, common_steps, c.meet_known.ensures.known) in
    let old = subst (λ (ks : List ℕ). IsTold (IsLedTo inside.count c.args.values.now) inside.queue.items ks queue known) c.deref_mut.ensures.value c.in-Ok.ensures.told in
    let seen = subst (λ (s : Laned). AreLanedIn s words) (sym c.self.view_is) are in
    rw (take_at known (drop (length known) inside.known.items) inside.known.len known_long)
    (looked-told (IsLedTo inside.count c.args.values.now) inside.edition words inside.queue.items inside.known.items queue known inside.next inside.bits.items
    c.self.invariant.6 old seen)
