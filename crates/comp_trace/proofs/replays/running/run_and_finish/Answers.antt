use Rattle.std.proofs.Common.{refl, subst, arith}
use Rattle.comp_mutator.specs.CellViews.{steps_of}
use Rattle.comp_mutator.specs.Unfinished.{IsUnfinishedFor}
use Rattle.comp_mutator.specs.Mutators.{cells_of, setup_of}
use Rattle.comp_mutator.specs.declared.finishing.FinishFault.{FinishFault}
use Rattle.comp_trace.specs.Traces.{lines_of}
use Rattle.comp_trace.proofs.Callers.{all_of, none_built, none_done}
use Rattle.comp_trace.proofs.Fitting.{lines_fit}
use Rattle.comp_trace.proofs.Bytes.{are_of}
use Rattle.comp_trace.proofs.Runnings.{all_row, all_there, cut_over, ran_over, ran_through, ran_with, without}
use Rattle.comp_trace.proofs.replays.running.run_and_finish.Goals as goal

pub replay_registers-requires-clause-all : goal.replay_registers-requires-clause-all
replay_registers-requires-clause-all g c = λ names lives. all_of c.args.space (setup_of c.args.space).mutators c.args.mutators.items c.requires.of c.requires.new refl

pub unreachable-requires : goal.unreachable-requires
unreachable-requires g c =
    let space = c.args.space in
    let after = c.replay_registers.new.mutators.items in
    let k = c.in-MutatorMissing.field-0 in
    let least = subst (λ (fault : FinishFault). IsUnfinishedFor (setup_of space).mutators after fault) c.in-MutatorMissing.is c.in-Err-finish.ensures.fault in
    least.missing (all_there space after c.replay_registers.ensures.all k least.below)

pub returns-in-Ok-finish-clause-run : goal.returns-in-Ok-finish-clause-run
returns-in-Ok-finish-clause-run g c =
    let space = c.args.space in
    let u = setup_of space in
    let trace = c.args.trace.now in
    let before = c.args.mutators.items in
    let after = c.replay_registers.new.mutators.items in
    let all = c.replay_registers.ensures.all in
    let table = steps_of (cells_of space) in
    let fit = lines_fit u trace.mutators trace.roots trace.lines.items c.requires.parsed.0 c.requires.parsed.1 c.lines.ensures.within in
    ran_over u before after (lines_of trace) c.in-Ok.ran.shown.items c.in-Ok-finish.finished c.requires.compacted c.requires.closed
    (none_done table u.mutators before c.requires.new) (none_built table u.mutators before c.requires.new)
    (let some = c.in-Ok-finish.ensures.flipped.some_mutators in omega (arith, some))
    (all_of space u.mutators before c.requires.of c.requires.new refl).count all.count fit (without u before after (lines_of trace) c.in-Ok.ran.shown.items c.in-Ok.ran.registers.items c.in-Ok.ensures.ran)
    (c.in-Ok-finish.ensures.ordered (all_row space after all))

pub returns-in-Ok-finish-clause-registers : goal.returns-in-Ok-finish-clause-registers
returns-in-Ok-finish-clause-registers g c =
    let space = c.args.space in
    let u = setup_of space in
    let trace = c.args.trace.now in
    let before = c.args.mutators.items in
    let after = c.replay_registers.new.mutators.items in
    let all = c.replay_registers.ensures.all in
    let table = steps_of (cells_of space) in
    let fit = lines_fit u trace.mutators trace.roots trace.lines.items c.requires.parsed.0 c.requires.parsed.1 c.lines.ensures.within in
    ran_with u before after (lines_of trace) c.in-Ok.ran.shown.items c.in-Ok.ran.registers.items c.in-Ok-finish.finished c.requires.compacted c.requires.closed
    (none_done table u.mutators before c.requires.new) (none_built table u.mutators before c.requires.new)
    (let some = c.in-Ok-finish.ensures.flipped.some_mutators in omega (arith, some))
    (all_of space u.mutators before c.requires.of c.requires.new refl).count all.count fit c.in-Ok.ensures.ran c.in-Ok.ensures.wide
    (c.in-Ok-finish.ensures.ordered (all_row space after all))

pub returns-in-OutOfMemory-clause-halted : goal.returns-in-OutOfMemory-clause-halted
returns-in-OutOfMemory-clause-halted g c =
    let space = c.args.space in
    let u = setup_of space in
    let before = c.args.mutators.items in
    ran_through u before c.replay_registers.new.mutators.items (lines_of c.args.trace.now) c.in-Ok.ran.shown.items c.requires.compacted
    (none_done (steps_of (cells_of space)) u.mutators before c.requires.new)
    (without u before c.replay_registers.new.mutators.items (lines_of c.args.trace.now) c.in-Ok.ran.shown.items c.in-Ok.ran.registers.items c.in-Ok.ensures.ran)

pub returns-in-Err-clause-halted : goal.returns-in-Err-clause-halted
returns-in-Err-clause-halted g c =
    let space = c.args.space in
    let u = setup_of space in
    let trace = c.args.trace.now in
    let before = c.args.mutators.items in
    let fit = lines_fit u trace.mutators trace.roots trace.lines.items c.requires.parsed.0 c.requires.parsed.1 c.lines.ensures.within in
    cut_over u before c.replay_registers.new.mutators.items (lines_of trace) c.in-Err.stopped.shown.items c.in-Err.stopped.fault c.requires.compacted
    (none_done (steps_of (cells_of space)) u.mutators before c.requires.new)
    (are_of space before (all_of space u.mutators before c.requires.of c.requires.new refl)) (are_of space c.replay_registers.new.mutators.items c.replay_registers.ensures.all) fit c.in-Err.ensures.stopped
