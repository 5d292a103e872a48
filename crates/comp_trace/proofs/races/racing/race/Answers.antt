use Rattle.std.proofs.Common.{List, length, sym, subst, ap, ◌∙◌, arith}
use lib.ListN.{get_elem?}
use Rattle.comp_mutator.specs.declared.mutator.Mutator.{Mutator}
use Rattle.comp_trace.specs.AllMet.{HaveOnlyMet}
use Rattle.comp_trace.specs.AllMutators.{AreAll}
use Rattle.comp_trace.specs.TraceLines.{AllFit}
use Rattle.comp_trace.specs.Races.{HaveRaced}
use Rattle.comp_trace.specs.Traces.{lines_of}
use Rattle.comp_mutator.specs.Mutators.{setup_of}
use Rattle.comp_trace.proofs.Fitting.{lines_fit}
use Rattle.comp_trace.specs.Runners.{mutator_of, HaveRooms}
use Rattle.comp_trace.proofs.Runners.{have_run, met_after, ready_of, written_count}
use Rattle.comp_trace.proofs.Elements.{written_back}
use Rattle.comp_trace.proofs.races.racing.race.Goals as goal

pub run_all-requires-clause-fits : goal.run_all-requires-clause-fits
run_all-requires-clause-fits g c κs within =
    let u = setup_of c.args.space.now in
    let trace = c.args.trace.now in
    subst (AllFit u) (sym c.lines-lines.ensures.lines) (lines_fit u trace.mutators trace.roots trace.lines.items c.requires.parsed.0 c.requires.parsed.1 c.lines-lines.ensures.within)

pub run_all-requires-clause-ready : goal.run_all-requires-clause-ready
run_all-requires-clause-ready g c κs within k runner at =
    let r = c.readied-runners in
    let lines = c.lines-lines.result.now in
    let rooms = subst (λ (l : List (Mutator g.row.L.Denot)). HaveRooms lines l c.in-Ok-rooms.rooms.items) c.deref.ensures.value c.in-Ok-rooms.ensures.rooms in
    ready_of c.args.space.now lines c.args.mutators.items c.in-Ok-rooms.rooms.items r.result.items r.ensures.mutators r.ensures.rooms r.ensures.blank rooms c.requires.all k runner
    (ap (λ l. get_elem? l k) (sym c.deref_mut.ensures.value) ∙ at)

pub readied-runners-requires-clause-rooms : goal.readied-runners-requires-clause-rooms
readied-runners-requires-clause-rooms g c = c.in-Ok-rooms.ensures.rooms.count ∙ ap length c.deref.ensures.value

pub readied-runners-requires-clause-empty : goal.readied-runners-requires-clause-empty
readied-runners-requires-clause-empty g c =
    let v = c.in-Ok-with_capacity in
    (v.ensures.items, omega (arith, v.ensures.capacity, c.len.ensures, c.args.mutators.ok.0))

pub parted-after-requires-clause-mutators : goal.parted-after-requires-clause-mutators
parted-after-requires-clause-mutators g c =
    let r = c.readied-runners in
    let v = c.in-Ok-with_capacity-2 in
    let count = written_count mutator_of r.result.len c.run_all.new.runners r.result.items c.args.mutators.items r.ensures.mutators (c.run_all.ensures.long ∙ ap length c.deref_mut.ensures.value) r.result.ok.0 in
    (v.ensures.items, omega (arith, count, v.ensures.capacity, c.len-2.ensures, c.args.mutators.ok.0))

pub parted-after-requires-clause-runs : goal.parted-after-requires-clause-runs
parted-after-requires-clause-runs g c =
    let r = c.readied-runners in
    let v = c.in-Ok-with_capacity-3 in
    let count = written_count mutator_of r.result.len c.run_all.new.runners r.result.items c.args.mutators.items r.ensures.mutators (c.run_all.ensures.long ∙ ap length c.deref_mut.ensures.value) r.result.ok.0 in
    (v.ensures.items, omega (arith, count, v.ensures.capacity, c.len-3.ensures, c.args.mutators.ok.0))

pub meet_all-requires-after_bounds : goal.meet_all-requires-after_bounds
meet_all-requires-after_bounds g c κs within =
    let space = c.args.space.now in
    let lines = lines_of c.args.trace.now in
    let before = c.args.mutators.items in
    let r = c.readied-runners in
    let raced = c.parted-after.result in
    let ran = have_run space c.lines-lines.result.now lines before r.result.len r.result.items c.deref_mut.result.now c.run_all.new.runners raced.mutators.items raced.runs.items c.lines-lines.ensures.lines r.ensures.mutators r.result.ok.0
    c.deref_mut.ensures.value c.run_all.ensures.long c.requires.all c.run_all.ensures.ran c.parted-after.ensures.mutators c.parted-after.ensures.runs in
    subst (AreAll space) (sym c.deref_mut-2.ensures.value) ran.all

pub returns-clause-raced : goal.returns-clause-raced
returns-clause-raced g c =
    let space = c.args.space.now in
    let lines = lines_of c.args.trace.now in
    let before = c.args.mutators.items in
    let r = c.readied-runners in
    let raced = c.parted-after.result in
    let e = c.meet_all.ensures in
    let new = c.meet_all.new.mutators in
    let ran = have_run space c.lines-lines.result.now lines before r.result.len r.result.items c.deref_mut.result.now c.run_all.new.runners raced.mutators.items raced.runs.items c.lines-lines.ensures.lines r.ensures.mutators r.result.ok.0
    c.deref_mut.ensures.value c.run_all.ensures.long c.requires.all c.run_all.ensures.ran c.parted-after.ensures.mutators c.parted-after.ensures.runs in
    let only = subst (λ (ms : List (Mutator g.row.L.Denot)). HaveOnlyMet ms new) c.deref_mut-2.ensures.value e.only in
    let back = written_back raced.mutators.len new raced.mutators.items (omega (arith, only.count, raced.mutators.ok.0)) in
    subst (λ (ms : List (Mutator g.row.L.Denot)). HaveRaced space lines before ms raced.runs.items) (sym back)
    (met_after space lines before raced.mutators.items new raced.runs.items ran e.all e.met only)
