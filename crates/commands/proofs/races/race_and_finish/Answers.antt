use Rattle.std.proofs.Common.{◌<◌, List, All, inl, length, refl, sym, subst, ap, ◌∙◌}
use Rattle.comp_mutator.specs.Mutators.{setup_of}
use Rattle.comp_mutator.specs.Lists.{Each}
use Rattle.comp_trace.specs.Traces.{lines_of}
use Rattle.comp_trace.specs.declared.text.line.Line.{Line}
use Rattle.comp_trace.proofs.Callers.{all_of}
use Rattle.comp_trace.specs.declared.races.racing.Run.{Run}
use Rattle.commands.specs.TraceTasks.{AreByLine, HasEnded, IsLeastRefusedLine}
use Rattle.commands.specs.JoinedRaces.{AreOwn}
use Rattle.commands.proofs.Racing.{all_inside, each_own, many_runs, raced_heap, stopped_race}
use Rattle.comp_trace.proofs.Runnings.{all_row, all_there}
use Rattle.commands.proofs.races.race_and_finish.Goals as goal

pub race-requires-clause-all : goal.race-requires-clause-all
race-requires-clause-all g c κs within = all_of c.args.space (setup_of c.args.space).mutators c.args.mutators.items c.requires.of c.requires.new refl

pub by_line-shown-requires-clause-own : goal.by_line-shown-requires-clause-own
by_line-shown-requires-clause-own g c =
    let raced = c.in-Ok-race.raced in
    subst (λ (ls : List Line). AreOwn ls c.deref-runs.result.now) (sym c.lines-lines.ensures.lines)
    (subst (AreOwn (lines_of c.args.trace.now)) (sym c.deref-runs.ensures.value)
    (each_own c.args.space (lines_of c.args.trace.now) c.args.mutators.items raced.mutators.items raced.runs.items c.requires.new c.in-Ok-race.ensures.raced))

pub by_line-shown-requires-clause-inside : goal.by_line-shown-requires-clause-inside
by_line-shown-requires-clause-inside g c =
    let raced = c.in-Ok-race.raced in
    let u = setup_of c.args.space in
    let many = many_runs c.args.space (lines_of c.args.trace.now) c.args.mutators.items raced.mutators.items raced.runs.items c.requires.new c.in-Ok-race.ensures.raced in
    subst (λ (ls : List Line). All (λ (line : Line). line.mutator < length c.deref-runs.result.now) ls) (sym c.lines-lines.ensures.lines)
    (all_inside u.mutators (length u.heap.roots) (length c.deref-runs.result.now) (lines_of c.args.trace.now) c.requires.read.0 (ap length c.deref-runs.ensures.value ∙ many) c.requires.read.1)

pub finish_all-requires-clause-all : goal.finish_all-requires-clause-all
finish_all-requires-clause-all g c = all_there c.args.space c.in-Ok-race.raced.mutators.items c.in-Ok-race.ensures.raced.all

-- A line was refused.
pub returns-in-Some-clause-halted : goal.returns-in-Some-clause-halted
returns-in-Some-clause-halted g c =
    let raced = c.in-Ok-race.raced in
    let shown = c.by_line-shown.result.items in
    let same = c.deref-runs.ensures.value in
    inl (
      _,
      shown,
      stopped_race c.args.space (lines_of c.args.trace.now) c.args.mutators.items raced.mutators.items raced.runs.items c.requires.new c.in-Ok-race.ensures.raced c.requires.compacted
          shown (subst (λ (runs : List Run). AreByLine runs shown) same c.by_line-shown.ensures) c.in-Some.stop (subst (λ (runs : List Run). IsLeastRefusedLine runs c.in-Some.stop) same c.in-Some.ensures),
      refl,
    )

-- All lines ran, and the heap was finished.
pub returns-in-Ok-finish_all-clause-raced : goal.returns-in-Ok-finish_all-clause-raced
returns-in-Ok-finish_all-clause-raced g c =
    let space = c.args.space in
    let raced = c.in-Ok-race.raced in
    let shown = c.by_line-shown.result.items in
    let same = c.deref-runs.ensures.value in
    raced_heap space (lines_of c.args.trace.now) c.args.mutators.items raced.mutators.items raced.runs.items c.requires.new c.in-Ok-race.ensures.raced c.requires.compacted
    shown (subst (λ (runs : List Run). AreByLine runs shown) same c.by_line-shown.ensures) c.in-Ok-finish_all.finished
    (subst (λ (runs : List Run). Each runs HasEnded) same c.in-None.ensures)
    (c.in-Ok-finish_all.ensures.ordered (all_row space raced.mutators.items c.in-Ok-race.ensures.raced.all))
