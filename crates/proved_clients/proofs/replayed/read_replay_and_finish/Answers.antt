use Rattle.std.proofs.Common.{set, arith, length-set}
use Rattle.page_plan.specs.Kind.TheVariants.{Data}
use Rattle.page_cells.proofs.Rows.{at_value}
use Rattle.comp_mutator.specs.Mutators.{setup_of}
use Rattle.proved_clients.proofs.AfterReplays.{all_set, row_of, set_there, still_reads}
use Rattle.proved_clients.proofs.replayed.read_replay_and_finish.Goals as goal

pub replay-requires-clause-all : goal.replay-requires-clause-all
replay-requires-clause-all g c κs within =
    let read = c.try_read_data.ensures in
    all_set c.args.space c.args.mutators.items c.args.k c.index_mut.result.now c.try_read_data.new.m c.requires.all
    (at_value c.args.mutators.items c.args.k c.index_mut.result.now c.requires.inside c.index_mut.ensures.value) read.of read.read.grows.number

pub returns-in-Ok-finish : goal.returns-in-Ok-finish
returns-in-Ok-finish g c =
    let space = c.args.space in
    let m = c.try_read_data.new.m in
    let before = set c.args.mutators.items c.args.k m in
    let after = c.replay.new.mutators.items in
    let told = c.replay.ensures in
    still_reads (setup_of space) before after c.args.k m c.in-Ok-finish.finished Data c.args.object c.args.field c.in-Ok.word (set_there c.args.mutators.items c.args.k m c.requires.inside)
    (omega (arith, length-set c.args.mutators.items c.args.k m, c.requires.inside)) told.later (c.in-Ok-finish.ensures.ordered (row_of space after told.all)) c.in-Ok.ensures.read.word
