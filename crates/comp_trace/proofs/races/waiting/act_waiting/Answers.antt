use Rattle.std.proofs.Common.{◌≡◌, ◌∙◌, ℕ, List, IfErr, IfOk, refl, sym, subst, true≢false}
use Rattle.std.proofs.lemmas.Result.{IfErr-at_err, IfOk-weaker, on_err_weaker}
use Rattle.comp_mutator.proofs.CompAccessGrowing.{knows_more}
use Rattle.comp_mutator.proofs.Growing.{grows_then}
use Rattle.comp_mutator.proofs.KnownStarts.{knows_slid}
use Rattle.comp_mutator.specs.Mutators.{pass_of, setup_of}
use Rattle.comp_mutator.specs.Refusal.TheVariants.{Busy}
use Rattle.comp_trace.specs.Acting.{registers_after, Refuses, Steps}
use Rattle.comp_trace.proofs.Retries.{refuses_then, steps_then, waits_first, waits_know, waits_more}
use Rattle.comp_trace.proofs.races.waiting.act_waiting.Goals as goal

pub loop-of-retried-init : goal.loop-of-retried-init
loop-of-retried-init g c = record { of = c.requires.of; registers = refl; waits = waits_first (setup_of c.args.space.now) c.args.action c.args.registers.now (pass_of c.args.m.now) }

pub loop-of-retried-preserved : goal.loop-of-retried-preserved
loop-of-retried-preserved g c =
    let u = setup_of c.args.space.now in
    let action = c.args.action in
    let old = pass_of c.args.m.now in
    let last = pass_of c.loop-of-retried.m in
    let new = pass_of c.act.new.m in
    let tried = c.act.ensures in
    let before = c.loop-of-retried.invariant in
    let busy = c.if-retried.ensures in
    let still = IfErr-at_err _ busy.1 tried.did in
    let why = subst (λ (l : List ℕ). Refuses u action l last new (Busy busy.0)) before.registers (IfErr-at_err _ busy.1 tried.refused) in
    record {
      of = tried.of;
      registers = still.1 ∙ before.registers;
      waits = waits_more u old last new action c.args.registers.now before.waits (IfErr-at_err _ busy.1 tried.grows) still.0 busy.0 why;
    }

pub returns-in-loop-of-retried : goal.returns-in-loop-of-retried
returns-in-loop-of-retried g c =
    let u = setup_of c.args.space.now in
    let action = c.args.action in
    let registers = c.args.registers.now in
    let old = pass_of c.args.m.now in
    let last = pass_of c.loop-of-retried.m in
    let new = pass_of c.act.new.m in
    let answer = c.act.result in
    let tried = c.act.ensures in
    let before = c.loop-of-retried.invariant in
    let knew = waits_know u action registers old last before.waits in
    let knows = knows_more _ _ old last c.requires.of before.of knew.0 in
    record {
      of = tried.of;
      went = IfOk-weaker answer _ _ (λ value s. steps_then u old last new action registers before.waits value s)
          (subst (λ (l : List ℕ). IfOk answer (Steps u action l last new)) before.registers tried.went);
      registers = subst (λ (l : List ℕ). IfOk answer (λ value. c.act.new.registers ≡ registers_after action l value)) before.registers tried.registers;
      grows = on_err_weaker answer (λ grows. grows_then old last new knew.0 grows) tried.grows;
      did = on_err_weaker answer (λ same. (same.0 ∙ knew.1, same.1 ∙ before.registers)) tried.did;
      busy = c.if-retried.ensures;
      refused = refuses_then u old last new knows (λ x position. knows_slid _ _ last before.of x position.0 position.1) action registers before.waits answer tried.grows
          (subst (λ (l : List ℕ). IfErr answer (Refuses u action l last new)) before.registers tried.refused);
    }

pub loop-of-retried-smaller : goal.loop-of-retried-smaller
loop-of-retried-smaller g c = (c.in-Some-retried.ensures.goes.on tt).2

pub unreachable-retried : goal.unreachable-retried
unreachable-retried g c = true≢false (sym c.in-None-retried.ensures.steps)
