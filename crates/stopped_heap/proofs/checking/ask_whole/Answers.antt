use Rattle.std.proofs.Common.{ℕ, sym, subst, arith}
use Rattle.std.proofs.lemmas.Result.{err_from_is_err_and}
use Rattle.rest_marks.specs.Looks.{Looking}
use Rattle.rest_marks.specs.Meeting.{AreOnce}
use Rattle.stopped_heap.proofs.AskedAll.{asked-looked, check-fault, unowned}
use Rattle.stopped_heap.proofs.checking.ask_whole.Goals as goal

pub ask_all-requires-clause-once : goal.ask_all-requires-clause-once
ask_all-requires-clause-once c = subst (λ (n : ℕ). AreOnce n c.args.queue.now) (sym c.requires.counted) c.requires.once

pub returns-in_err-ask_all-clause-fault : goal.returns-in_err-ask_all-clause-fault
returns-in_err-ask_all-clause-fault c =
    let a = c.args in
    let looking : Looking = record { edition = a.edition; count = a.count; met = a.queue.now; looked = a.many; heads = a.heads.now; bits = a.bits.now } in
    let cause = check-fault looking a.words.now a.taken.now c.in_err-ask_all.field-0.0 c.requires.others c.requires.counted c.in_err-ask_all.ensures.fault in
    let p = err_from_is_err_and c.from_residual.result c.from_residual.ensures.1 in
    rw (p.1, p.2) cause

pub returns-in-Some-clause-fault : goal.returns-in-Some-clause-fault
returns-in-Some-clause-fault c =
    let a = c.args in
    let looking : Looking = record { edition = a.edition; count = a.count; met = a.queue.now; looked = a.many; heads = a.heads.now; bits = a.bits.now } in
    unowned looking a.words.now a.taken.now c.ask_all.new.taken c.requires.others c.in_ok-ask_all.ensures.asked c.in-Some.j c.requires.counted
    (omega (arith, c.in-Some.ensures.known, c.ask_all.ensures.length, c.requires.same, c.requires.long)) c.in-Some.ensures.unset

pub returns-clause-looked : goal.returns-clause-looked
returns-clause-looked c =
    let a = c.args in
    let looking : Looking = record { edition = a.edition; count = a.count; met = a.queue.now; looked = a.many; heads = a.heads.now; bits = a.bits.now } in
    asked-looked looking a.words.now a.taken.now c.ask_all.new.taken c.requires.others c.in_ok-ask_all.ensures.asked c.requires.met
    (subst (λ (n : ℕ). AreOnce n a.queue.now) (sym c.requires.counted) c.requires.once)
    (omega (arith, c.requires.room, c.requires.same, c.requires.counted))
    (λ j lt. c.in_default.ensures.none j (omega (arith, lt, c.ask_all.ensures.length, c.requires.same, c.requires.long)))
