use Rattle.std.proofs.Common.{map, length, ap, arith}
use Rattle.std.proofs.lemmas.List.{length-map}
use Rattle.comp_trace.specs.Runners.{mutator_of, run_of}
use Rattle.comp_trace.proofs.Runners.{nothing_left, one_moved}
use Rattle.comp_trace.proofs.races.racing.parted.Goals as goal

pub loop-runner-preserved : goal.loop-runner-preserved
loop-runner-preserved g c =
    let i = c.loop-runner.invariant in
    let l = c.loop-runner in
    let m = c.push_reserved in
    let r = c.push_reserved-in-loop-runner in
    let rest = c.in-Some.ensures.steps.0 in
    let left = c.next.new.self.rest.items in
    let all = c.args.runners.items in
    record {
      mutators = one_moved mutator_of l.mutators.items m.new.self.items c.in-Some.runner left l.runner-iterator.rest.items (map mutator_of all) m.ensures.items rest i.mutators;
      runs = one_moved run_of l.runs.items r.new.self.items c.in-Some.runner left l.runner-iterator.rest.items (map run_of all) r.ensures.items rest i.runs;
      mutator_room = omega (arith, i.mutator_room, ap length rest, m.ensures.len, l.mutators.ok.0, m.new.self.ok.0, m.ensures.capacity);
      run_room = omega (arith, i.run_room, ap length rest, r.ensures.len, l.runs.ok.0, r.new.self.ok.0, r.ensures.capacity);
    }

pub returns-clause-mutators : goal.returns-clause-mutators
returns-clause-mutators g c =
    let rest = c.loop-runner.runner-iterator.rest in
    nothing_left c.loop-runner.mutators.items (map mutator_of rest.items) (map mutator_of c.args.runners.items) (omega (arith, c.in-None.ensures.steps.0, rest.ok.0, length-map rest.items mutator_of)) c.loop-runner.invariant.mutators

pub returns-clause-runs : goal.returns-clause-runs
returns-clause-runs g c =
    let rest = c.loop-runner.runner-iterator.rest in
    nothing_left c.loop-runner.runs.items (map run_of rest.items) (map run_of c.args.runners.items) (omega (arith, c.in-None.ensures.steps.0, rest.ok.0, length-map rest.items run_of)) c.loop-runner.invariant.runs

pub loop-runner-smaller : goal.loop-runner-smaller
loop-runner-smaller g c = omega (arith, ap length c.in-Some.ensures.steps.0, c.loop-runner.runner-iterator.rest.ok.0, c.next.new.self.rest.ok.0)
