use Rattle.std.proofs.Common.{subst, sym, take, arith, ◌+◌, ◌≤◌, List, length}
use Rattle.std.proofs.lemmas.List.{take_all}
use Rattle.comp_trace.specs.declared.races.racing.Run.{Run}
use Rattle.commands.specs.JoinedRaces.{IsFirstRefusedLine}
use Rattle.commands.proofs.Walking.{first_on}
use Rattle.commands.proofs.by_line.first_refused_line.Goals as goal

pub loop-run-preserved : goal.loop-run-preserved
loop-run-preserved c =
    let k = c.loop-run.run-index in
    subst (IsFirstRefusedLine (take (k + 1) c.args.runs.now)) (sym c.earlier-first.ensures)
    (first_on c.args.runs.now k c.run-item.result c.loop-run.first (omega arith) c.run-item.is c.loop-run.invariant)

pub returns : goal.returns
returns c =
    let k = c.loop-run.run-index in
    let all : length c.args.runs.now ≤ k = omega arith in
    subst (λ (runs : List Run). IsFirstRefusedLine runs c.loop-run.first) (take_all k c.args.runs.now all) c.loop-run.invariant
