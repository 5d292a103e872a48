use Rattle.std.proofs.Common.{◌≡◌, ◌<◌, List, length, sym, ap, subst, arith}
use Rattle.std.specs.Prelude.{IfErr, IfOk, OnOk}
use Rattle.comp_mutator.specs.Mutators.{setup_of}
use Rattle.comp_mutator.specs.declared.mutator.Mutator.{Mutator}
use Rattle.comp_trace.specs.WrittenEntries.{HaveStart}
use Rattle.comp_trace.specs.AllMutators.{AreAll}
use Rattle.comp_trace.specs.RoundsOfMeetings.{AreLater}
use Rattle.comp_trace.specs.Replays.{HaveReplayedWith, HaveStopped, IsRefusal, RanNothing}
use Rattle.comp_trace.specs.TraceLines.{AllFit}
use Rattle.comp_trace.specs.declared.text.line.Line.{Line}
use Rattle.comp_trace.proofs.Fitting.{lines_fit}
use Rattle.comp_trace.proofs.Elements.{written_back}
use Rattle.comp_trace.proofs.replays.replaying.replay_registers.Goals as goal

pub run_lines-requires-clause-all : goal.run_lines-requires-clause-all
run_lines-requires-clause-all g c κs within = subst (AreAll c.args.space.now) (sym c.deref_mut.ensures.value) c.requires.all

pub run_lines-requires-clause-lines : goal.run_lines-requires-clause-lines
run_lines-requires-clause-lines g c κs within =
    let u = setup_of c.args.space.now in
    let trace = c.args.trace.now in
    subst (AllFit u) (sym c.lines.ensures.lines) (lines_fit u trace.mutators trace.roots trace.lines.items c.requires.parsed.0 c.requires.parsed.1 c.lines.ensures.within)

pub returns-clause-all : goal.returns-clause-all
returns-clause-all g c =
    let new = c.run_lines.new.mutators in
    let old = c.args.mutators.now in
    let back = written_back old.len new old.items (omega (arith, c.run_lines.auto.mutators, ap length c.deref_mut.ensures.value, old.ok.0)) in
    subst (AreAll c.args.space.now) (sym back) c.run_lines.ensures.all

pub returns-clause-start : goal.returns-clause-start
returns-clause-start g c =
    let u = setup_of c.args.space.now in
    let old = c.args.mutators.now in
    subst (λ (ls : List Line). 0 < length ls → OnOk c.run_lines.result (HaveStart u old.items)) c.lines.ensures.lines
    (subst (λ (l : List (Mutator g.row.L.Denot)). 0 < length c.lines.result.now → OnOk c.run_lines.result (HaveStart u l)) c.deref_mut.ensures.value c.run_lines.ensures.start)

pub returns-clause-started : goal.returns-clause-started
returns-clause-started g c =
    let u = setup_of c.args.space.now in
    subst (λ (l : List (Mutator g.row.L.Denot)). IfErr c.run_lines.result (λ stopped. IsRefusal stopped.fault → HaveStart u l)) c.deref_mut.ensures.value c.run_lines.ensures.started

pub returns-clause-ran : goal.returns-clause-ran
returns-clause-ran g c =
    let u = setup_of c.args.space.now in
    let new = c.run_lines.new.mutators in
    let old = c.args.mutators.now in
    let back = written_back old.len new old.items (omega (arith, c.run_lines.auto.mutators, ap length c.deref_mut.ensures.value, old.ok.0)) in
    let Says : List (Mutator g.row.L.Denot) → List (Mutator g.row.L.Denot) → List Line → Type 0 = λ olds news ls. IfOk c.run_lines.result (λ ran. HaveReplayedWith u olds news ls ran.shown.items ran.registers.items) in
    subst (λ (l : List (Mutator g.row.L.Denot)). Says old.items l c.args.trace.now.lines.items) (sym back)
    (subst (λ (ls : List Line). Says old.items new ls) c.lines.ensures.lines (subst (λ (l : List (Mutator g.row.L.Denot)). Says l new c.lines.result.now) c.deref_mut.ensures.value c.run_lines.ensures.ran))

pub returns-clause-stopped : goal.returns-clause-stopped
returns-clause-stopped g c =
    let u = setup_of c.args.space.now in
    let new = c.run_lines.new.mutators in
    let old = c.args.mutators.now in
    let back = written_back old.len new old.items (omega (arith, c.run_lines.auto.mutators, ap length c.deref_mut.ensures.value, old.ok.0)) in
    let Says : List (Mutator g.row.L.Denot) → List (Mutator g.row.L.Denot) → List Line → Type 0 = λ olds news ls. IfErr c.run_lines.result (λ stopped. HaveStopped u olds news ls stopped.shown.items stopped.fault) in
    subst (λ (l : List (Mutator g.row.L.Denot)). Says old.items l c.args.trace.now.lines.items) (sym back)
    (subst (λ (ls : List Line). Says old.items new ls) c.lines.ensures.lines (subst (λ (l : List (Mutator g.row.L.Denot)). Says l new c.lines.result.now) c.deref_mut.ensures.value c.run_lines.ensures.stopped))

pub returns-clause-later : goal.returns-clause-later
returns-clause-later g c =
    let new = c.run_lines.new.mutators in
    let old = c.args.mutators.now in
    let back = written_back old.len new old.items (omega (arith, c.run_lines.auto.mutators, ap length c.deref_mut.ensures.value, old.ok.0)) in
    subst (λ (l : List (Mutator g.row.L.Denot)). AreLater old.items l) (sym back) (subst (λ (l : List (Mutator g.row.L.Denot)). AreLater l new) c.deref_mut.ensures.value c.run_lines.ensures.later)

pub returns-clause-empty : goal.returns-clause-empty
returns-clause-empty g c =
    let new = c.run_lines.new.mutators in
    let old = c.args.mutators.now in
    let back = written_back old.len new old.items (omega (arith, c.run_lines.auto.mutators, ap length c.deref_mut.ensures.value, old.ok.0)) in
    let Says : List (Mutator g.row.L.Denot) → List (Mutator g.row.L.Denot) → List Line → Type 0 = λ olds news ls. length ls ≡ 0 → IfOk c.run_lines.result (λ ran. RanNothing olds news ran.shown.items) in
    subst (λ (l : List (Mutator g.row.L.Denot)). Says old.items l c.args.trace.now.lines.items) (sym back)
    (subst (λ (ls : List Line). Says old.items new ls) c.lines.ensures.lines (subst (λ (l : List (Mutator g.row.L.Denot)). Says l new c.lines.result.now) c.deref_mut.ensures.value c.run_lines.ensures.empty))

pub returns-clause-wide : goal.returns-clause-wide
returns-clause-wide g c =
    subst (λ (l : List (Mutator g.row.L.Denot)). IfOk c.run_lines.result (λ ran. length ran.registers.items ≡ length l)) c.deref_mut.ensures.value c.run_lines.ensures.wide
