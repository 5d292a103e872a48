use Rattle.std.proofs.Common.{ℕ, ◌<◌, List, ap, subst, sym, refl, ◌∙◌, arith}
use Rattle.std.specs.Mem.Slots.{slots_items, slots_len, IsFull}
use mathlib.Core.Option.{some}
use lib.ListN.{get_elem?}
use Rattle.mark_job.proofs.Emptied.{one-taken}
use Rattle.mark_job.proofs.Steps.{ends}
use Rattle.mark_job.proofs.lanes.mark_closed.Goals as goal

pub loop-k-init : goal.loop-k-init
loop-k-init c = record { long = refl; met = c.requires.met; taken = record { long = refl; filled = c.requires.slots; empty = λ k lt. absurd (omega arith); items = refl; words = refl } }

pub word-found-requires : goal.word-found-requires
word-found-requires c =
    let h = c.loop-k.invariant.taken in
    (omega (arith, h.long, c.requires.same, ap slots_len h.words), subst IsFull (sym h.words) c.requires.words)

pub take-lane-requires : goal.take-lane-requires
take-lane-requires c =
    let h = c.loop-k.invariant.taken in
    let inside : c.loop-k.k < slots_len c.loop-k.closed.slots = omega (arith, h.long) in
    (inside, h.filled c.loop-k.k (omega arith) inside)

pub mark_if-requires-clause-lane : goal.mark_if-requires-clause-lane
mark_if-requires-clause-lane c = λ free.
    let h = c.loop-k.invariant.taken in
    let k = c.loop-k.k in
    ends c.args.image.now (slots_items c.args.closed.words) (slots_items c.args.closed.slots) k c.take-lane.result c.requires.ends
    (ap (λ (ws : List ℕ). get_elem? ws k) (sym (ap slots_items h.words)) ∙ c.word-found.ensures ∙ ap (λ (n : ℕ). some n) free)
    (ap (λ (rows : List (List ℕ)). get_elem? rows k) (sym h.items) ∙ c.take-lane.ensures.value)

pub mark_if-requires-clause-room : goal.mark_if-requires-clause-room
mark_if-requires-clause-room c = omega (arith, c.requires.room, c.loop-k.invariant.long)

pub loop-k-preserved : goal.loop-k-preserved
loop-k-preserved c =
    let h = c.loop-k.invariant in
    let others = c.take-lane.ensures.others in
    record {
      long = c.mark_if.ensures.length ∙ h.long;
      met = c.mark_if.ensures.met;
      taken = one-taken c.args.closed c.loop-k.closed c.take-lane.new.self c.loop-k.k h.taken (omega (arith, h.taken.long)) others.0 others.1 others.2 others.3;
    }

pub free-requires : goal.free-requires
free-requires c = λ k lt. c.loop-k.invariant.taken.empty k (omega (arith, c.loop-k.invariant.taken.long))
