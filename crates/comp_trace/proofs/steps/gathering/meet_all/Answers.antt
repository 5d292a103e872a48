use Rattle.std.proofs.Common.{◌<◌, length, arith}
use Rattle.comp_mutator.proofs.Sums.{there_at}
use Rattle.comp_trace.proofs.AllMeetings.{all_met, have_met, only_met}
use Rattle.comp_trace.proofs.steps.gathering.meet_all.Goals as goal

pub returns-clause-all : goal.returns-clause-all
returns-clause-all g c =
    let i = c.meet_others in
    let j = c.meet_others-2 in
    let some_first : 0 < length c.args.mutators.now = omega arith in
    let m = there_at i.new.mutators 0 (omega arith) in
    all_met c.args.space.now c.args.mutators.now i.new.mutators j.new.mutators m.0 m.1 c.requires some_first i.ensures.of i.auto.mutators i.ensures.met j.ensures.of j.auto.mutators j.ensures.met

pub returns-clause-met : goal.returns-clause-met
returns-clause-met g c =
    let i = c.meet_others in
    let j = c.meet_others-2 in
    let some_first : 0 < length c.args.mutators.now = omega arith in
    let m = there_at i.new.mutators 0 (omega arith) in
    have_met c.args.space.now c.args.mutators.now i.new.mutators j.new.mutators m.0 m.1 c.requires some_first i.ensures.of i.auto.mutators i.ensures.met j.ensures.of j.auto.mutators j.ensures.met

pub returns-clause-only : goal.returns-clause-only
returns-clause-only g c =
    let i = c.meet_others in
    let j = c.meet_others-2 in
    let some_first : 0 < length c.args.mutators.now = omega arith in
    let m = there_at i.new.mutators 0 (omega arith) in
    only_met c.args.space.now c.args.mutators.now i.new.mutators j.new.mutators m.0 m.1 c.requires some_first i.ensures.of i.auto.mutators i.ensures.met j.ensures.of j.auto.mutators j.ensures.met
