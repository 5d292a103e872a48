use Rattle.std.proofs.Common.{subst, sym}
use Rattle.proved_crews.specs.Crews.{KeepsCrew, KeepsMutator}
use Rattle.proved_crews.proofs.mixed.mix.Goals as goal

pub meet-requires : goal.meet-requires
meet-requires c =
    let r = c.requires in
    let one = c.take.ensures.crews c.if-not-take.false r.0 r.2 in
    let two = c.take-2.ensures.crews c.if-not-take-2.false r.0 one.0 in
    (r.0, one.1, two.1)

pub give_wrongly-requires : goal.give_wrongly-requires
give_wrongly-requires c =
    let r = c.requires in
    let one = c.take.ensures.crews c.if-not-take.false r.0 r.2 in
    let two = c.take-2.ensures.crews c.if-not-take-2.false r.0 one.0 in
    let own = c.take-3.ensures.crews c.if-not-take-3.false r.1 r.3 in
    (r.0, r.1, two.0, own.1, r.4)

pub give-requires : goal.give-requires
give-requires c =
    let r = c.requires in
    let own = c.take-3.ensures.crews c.if-not-take-3.false r.1 r.3 in
    (r.1, own.0, subst (KeepsMutator r.1) (sym c.give_wrongly.ensures.same.1) own.1)

pub give-requires-2 : goal.give-requires-2
give-requires-2 c =
    let r = c.requires in
    let one = c.take.ensures.crews c.if-not-take.false r.0 r.2 in
    let two = c.take-2.ensures.crews c.if-not-take-2.false r.0 one.0 in
    let met = c.meet.ensures.crews c.if-not-meet.false r.0 one.1 two.1 in
    (r.0, subst (KeepsCrew r.0) (sym c.give_wrongly.ensures.same.0) two.0, met.1)

pub give-requires-3 : goal.give-requires-3
give-requires-3 c =
    let r = c.requires in
    let one = c.take.ensures.crews c.if-not-take.false r.0 r.2 in
    let two = c.take-2.ensures.crews c.if-not-take-2.false r.0 one.0 in
    let met = c.meet.ensures.crews c.if-not-meet.false r.0 one.1 two.1 in
    let still = subst (KeepsCrew r.0) (sym c.give_wrongly.ensures.same.0) two.0 in
    (r.0, c.give-2.ensures.crews c.if-not-give-2.false r.0 still, met.0)

pub returns-clause-first : goal.returns-clause-first
returns-clause-first c = λ done crew keeps.
    let one = c.take.ensures.crews c.if-not-take.false crew keeps in
    let two = c.take-2.ensures.crews c.if-not-take-2.false crew one.0 in
    let still = subst (KeepsCrew crew) (sym c.give_wrongly.ensures.same.0) two.0 in
    c.give-3.ensures.crews done crew (c.give-2.ensures.crews c.if-not-give-2.false crew still)

pub returns-clause-second : goal.returns-clause-second
returns-clause-second c = λ done crew keeps. c.give.ensures.crews c.if-not-give.false crew (c.take-3.ensures.crews c.if-not-take-3.false crew keeps).0
