use Rattle.std.proofs.Common.{ℕ, ◌<◌, List, length, get_or, sym, ap, subst, ◌∙◌, arith}
use Rattle.rest_marks.specs.Growing.{roots_on}
use Rattle.stopped_heap.specs.Ordered.{references_of_all, IsAddress, ReachEach}
use Rattle.stopped_heap.proofs.Waiting.{heap-more, lost-addresses, lost-each, lost-is}
use Rattle.stopped_heap.proofs.finalizing.references_of_lost.Goals as goal

pub references_of-requires-clause-addresses : goal.references_of-requires-clause-addresses
references_of-requires-clause-addresses c =
    let e = c.args.edition in
    let words = c.args.words.now in
    let marks = c.args.growing.now.marks in
    let waiting = c.args.waiting.now in
    let is = lost-is e c.args.growing.now.edition marks waiting c.deref.result.now c.push_lost.new.order.items c.new-lost.result.items c.deref.ensures.value c.in_default-push_lost.ensures
    c.new-lost.ensures.items c.requires.edition in
    subst (λ (xs : List ℕ). (k : ℕ) → k < length xs → IsAddress words (get_or xs k 0)) (sym is) (lost-addresses e words marks waiting c.in_default.ensures.all)

pub returns-in-Ok-clause-all : goal.returns-in-Ok-clause-all
returns-in-Ok-clause-all c =
    let e = c.args.edition in
    let marks = c.args.growing.now.marks in
    let waiting = c.args.waiting.now in
    let is = lost-is e c.args.growing.now.edition marks waiting c.deref.result.now c.push_lost.new.order.items c.new-lost.result.items c.deref.ensures.value c.in_default-push_lost.ensures
    c.new-lost.ensures.items c.requires.edition in
    c.in-Ok.ensures.all ∙ ap (references_of_all e c.args.words.now) is

pub returns-clause-fault : goal.returns-clause-fault
returns-clause-fault c =
    let e = c.args.edition in
    let words = c.args.words.now in
    let marks = c.args.growing.now.marks in
    let waiting = c.args.waiting.now in
    let is = lost-is e c.args.growing.now.edition marks waiting c.deref.result.now c.push_lost.new.order.items c.new-lost.result.items c.deref.ensures.value c.in_default-push_lost.ensures
    c.new-lost.ensures.items c.requires.edition in
    heap-more e words marks waiting c.in-Err-references_of.fault (omega (arith, c.if-waiting-max_roots.false, c.max_roots.ensures))
    (c.in-Err-references_of.ensures.fault (roots_on marks waiting)
    (subst (ReachEach e words (roots_on marks waiting)) (sym is) (lost-each e words marks waiting c.in_default.ensures.all)))
    c.in-Err-references_of.ensures.never
