use Rattle.std.proofs.Common.{get_or}
use Rattle.std.proofs.lemmas.Result.{IfErr-at_err, IfOk-weaker, on_err_weaker}
use Rattle.comp_mutator.specs.Mutators.{pass_of, setup_of, IsMutatorOf}
use Rattle.comp_trace.specs.RoundsOfMeetings.{Learns}
use Rattle.comp_trace.proofs.MadeObjects.{learns_by}
use Rattle.comp_trace.proofs.MetPairs.{each_set}
use Rattle.comp_trace.proofs.StepLists.{all_last, builds_last, err_with, has_start, later_last, never_waits, nothing_done, ran_line, see_built_last, seen_last, was_turned_down}
use Rattle.comp_trace.proofs.steps.stepping.step.Given as given
use Rattle.comp_trace.proofs.steps.stepping.step.Goals as goal

-- the call
learns : (g : given.Over) (c : goal.After-mutators-2-1 g) → Learns (pass_of (get_or c.meet_others.new.mutators c.args.i c.index-mutators-i.result)) (pass_of c.act-answer.new.m)
learns g c =
    let call = c.act-answer.ensures in
    learns_by _ (setup_of c.args.space.now) c.args.action c.args.registers.now _ _ c.act-answer.result call.went call.grows call.did

pub meet_others-requires-2-clause-of : goal.meet_others-requires-2-clause-of
meet_others-requires-2-clause-of g c κs within =
    each_set (IsMutatorOf c.args.space.now) c.meet_others.new.mutators c.args.i c.act-answer.new.m c.meet_others.ensures.of c.act-answer.ensures.of

pub returns-clause-all : goal.returns-clause-all
returns-clause-all g c =
    all_last c.args.space.now c.args.i c.args.mutators.now c.meet_others.new.mutators c.meet_others-2.new.mutators c.index-mutators-i.result c.act-answer.new.m
    c.requires.all c.requires.inside c.index-mutators-i.is c.meet_others.ensures.of c.meet_others.auto.mutators c.meet_others.ensures.met (learns g c) c.meet_others-2.ensures.of c.meet_others-2.auto.mutators c.meet_others-2.ensures.met

pub returns-clause-later : goal.returns-clause-later
returns-clause-later g c =
    later_last c.args.space.now c.args.i c.args.mutators.now c.meet_others.new.mutators c.meet_others-2.new.mutators c.index-mutators-i.result c.act-answer.new.m
    c.requires.all c.requires.inside c.index-mutators-i.is c.meet_others.ensures.of c.meet_others.auto.mutators c.meet_others.ensures.met (learns g c) c.meet_others-2.ensures.of c.meet_others-2.auto.mutators c.meet_others-2.ensures.met

pub returns-clause-seen : goal.returns-clause-seen
returns-clause-seen g c =
    seen_last c.args.space.now c.args.i c.args.mutators.now c.meet_others.new.mutators c.meet_others-2.new.mutators c.index-mutators-i.result c.act-answer.new.m
    c.requires.all c.requires.inside c.index-mutators-i.is c.meet_others.ensures.of c.meet_others.auto.mutators c.meet_others.ensures.met (learns g c) c.meet_others-2.ensures.of c.meet_others-2.auto.mutators c.meet_others-2.ensures.met

pub returns-clause-start : goal.returns-clause-start
returns-clause-start g c =
    has_start c.args.space.now c.args.i c.args.mutators.now c.meet_others.new.mutators c.meet_others-2.new.mutators c.index-mutators-i.result c.act-answer.new.m
    c.requires.all c.requires.inside c.index-mutators-i.is c.meet_others.ensures.of c.meet_others.auto.mutators c.meet_others.ensures.met (learns g c) c.meet_others-2.ensures.of c.meet_others-2.auto.mutators c.meet_others-2.ensures.met

pub returns-clause-did : goal.returns-clause-did
returns-clause-did g c =
    on_err_weaker c.act-answer.result
    (λ same. nothing_done c.args.space.now c.args.i c.args.mutators.now c.meet_others.new.mutators c.meet_others-2.new.mutators c.index-mutators-i.result c.act-answer.new.m
    c.requires.all c.requires.inside c.index-mutators-i.is c.meet_others.ensures.of c.meet_others.auto.mutators c.meet_others.ensures.met (learns g c) c.meet_others-2.ensures.of c.meet_others-2.auto.mutators c.meet_others-2.ensures.met same.0)
    c.act-answer.ensures.did

pub returns-clause-ran : goal.returns-clause-ran
returns-clause-ran g c =
    IfOk-weaker c.act-answer.result _ _
    (λ answer went. ran_line c.args.space.now c.args.i c.args.mutators.now c.meet_others.new.mutators c.meet_others-2.new.mutators c.index-mutators-i.result c.act-answer.new.m
    c.requires.all c.requires.inside c.index-mutators-i.is c.meet_others.ensures.of c.meet_others.auto.mutators c.meet_others.ensures.met (learns g c) c.meet_others-2.ensures.of c.meet_others-2.auto.mutators c.meet_others-2.ensures.met
    c.args.action c.args.registers.now answer went.answers)
    c.act-answer.ensures.went

pub returns-clause-builds : goal.returns-clause-builds
returns-clause-builds g c =
    IfOk-weaker c.act-answer.result _ _
    (λ answer went. builds_last c.args.space.now c.args.i c.args.mutators.now c.meet_others.new.mutators c.meet_others-2.new.mutators c.index-mutators-i.result c.act-answer.new.m
    c.requires.all c.requires.inside c.index-mutators-i.is c.meet_others.ensures.of c.meet_others.auto.mutators c.meet_others.ensures.met (learns g c) c.meet_others-2.ensures.of c.meet_others-2.auto.mutators c.meet_others-2.ensures.met
    _ went.builds)
    c.act-answer.ensures.went

pub returns-clause-built : goal.returns-clause-built
returns-clause-built g c =
    IfOk-weaker c.act-answer.result _ _
    (λ answer went. see_built_last c.args.space.now c.args.i c.args.mutators.now c.meet_others.new.mutators c.meet_others-2.new.mutators c.index-mutators-i.result c.act-answer.new.m
    c.requires.all c.requires.inside c.index-mutators-i.is c.meet_others.ensures.of c.meet_others.auto.mutators c.meet_others.ensures.met (learns g c) c.meet_others-2.ensures.of c.meet_others-2.auto.mutators c.meet_others-2.ensures.met
    _ went.builds)
    c.act-answer.ensures.went

pub returns-clause-refused : goal.returns-clause-refused
returns-clause-refused g c =
    err_with c.act-answer.result _ _ _ c.act-answer.ensures.did
    (λ same refusal h. was_turned_down c.args.space.now c.args.i c.args.mutators.now c.meet_others.new.mutators c.meet_others-2.new.mutators c.index-mutators-i.result c.act-answer.new.m
    c.requires.all c.requires.inside c.index-mutators-i.is c.meet_others.ensures.of c.meet_others.auto.mutators c.meet_others.ensures.met (learns g c) c.meet_others-2.ensures.of c.meet_others-2.auto.mutators c.meet_others-2.ensures.met
    c.args.action c.args.registers.now refusal same.0 h)
    c.act-answer.ensures.refused

pub returns-clause-busy : goal.returns-clause-busy
returns-clause-busy g c = λ p e.
    never_waits c.args.space.now c.args.i c.args.mutators.now c.meet_others.new.mutators c.meet_others-2.new.mutators c.index-mutators-i.result c.act-answer.new.m
    c.requires.all c.requires.inside c.index-mutators-i.is c.meet_others.ensures.of c.meet_others.auto.mutators c.meet_others.ensures.met (learns g c) c.meet_others-2.ensures.of c.meet_others-2.auto.mutators c.meet_others-2.ensures.met
    c.args.action c.args.registers.now p (IfErr-at_err _ e c.act-answer.ensures.refused)
