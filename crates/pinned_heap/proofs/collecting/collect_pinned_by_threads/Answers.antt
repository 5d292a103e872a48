use Rattle.std.proofs.Common.{length, sym, ap, subst, arith}
use Rattle.stopped_heap.specs.Growth.{IsFoundIn}
use Rattle.rest_marks.specs.Places.{Found}
use Rattle.pinned_heap.proofs.Both.{collected-pinned}
use Rattle.pinned_heap.proofs.collecting.collect_pinned_by_threads.Goals as goal

pub returns-in-Err-clause-fault : goal.returns-in-Err-clause-fault
returns-in-Err-clause-fault g c = c.in-Err.ensures.fault c.args.most

pub returns-in-Err-pin_few-clause-fault : goal.returns-in-Err-pin_few-clause-fault
returns-in-Err-pin_few-clause-fault g c =
    c.in-Err-pin_few.ensures.fault c.args.edition c.args.words.now c.args.roots.now c.in-Ok.ensures.found c.in-Ok.ensures.edition c.in-Ok.ensures.reached c.in-Ok.ensures.leads c.in-Ok.ensures.few

pub returns-clause-few : goal.returns-clause-few
returns-clause-few g c =
    let words = c.args.words.now in
    let at : IsFoundIn c.in-Ok-pin_few.pinned.found words = subst (λ (f : Found). IsFoundIn f words) (sym c.in-Ok-pin_few.ensures.found) c.in-Ok.ensures.found in
    omega (arith, c.in-Ok-pin_few.ensures.few words at, ap length (c.leave.ensures.runs words at))

pub returns-clause-collected : goal.returns-clause-collected
returns-clause-collected g c =
    let p = c.in-Ok-pin_few.pinned in
    let found = c.in-Ok.places in
    let words = c.args.words.now in
    let at : IsFoundIn p.found words = subst (λ (f : Found). IsFoundIn f words) (sym c.in-Ok-pin_few.ensures.found) c.in-Ok.ensures.found in
    collected-pinned p found c.args.edition words c.args.roots.now c.args.pins.now c.in-Ok-pin_few.ensures.found c.in-Ok-pin_few.ensures.staying c.in-Ok.ensures.found c.in-Ok-pin_few.ensures.objects
    c.leave.result.end c.leave.result.runs.items c.leave.new.roots c.slide_within_by_threads.new.words c.slide_within_by_threads.ensures (c.leave.ensures.roots words at) (c.leave.ensures.runs words at)
    (c.leave.ensures.end words at) c.in-Ok.ensures.edition c.in-Ok.ensures.reached c.in-Ok.ensures.leads c.in-Ok.ensures.few
