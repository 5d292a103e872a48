use Rattle.std.proofs.Common.{◌<◌, length, refl, arith}
use Rattle.std.proofs.lemmas.Slice.Zip.{AllZip-long}
use Rattle.comp_mutator.proofs.Rows.{at_below}
use Rattle.comp_mutator.specs.Mutators.{pass_of, setup_of}
use Rattle.comp_sweep.specs.Sweeps.{SeesRegions, Sweeps}
use Rattle.comp_sweep.proofs.Resting.{knows_rest, long_rest, of_rest, out_rest, same_rest, seen_at, seen_rest, swept_rest, tally_rest}
use Rattle.comp_sweep.proofs.SweepAnswers.{none_swept}
use Rattle.comp_sweep.proofs.concluding.sweep_rest.Goals as goal

pub loop-k-init : goal.loop-k-init
loop-k-init g c = record {
  swept = none_swept c.args.space.now c.args.mutators.now.items c.requires.of;
  same = refl;
  seen = c.requires.seen;
  tally = λ x. refl;
  out = λ j queue lt at. absurd (omega (arith, lt));
}

pub index_mut-m-requires : goal.index_mut-m-requires
index_mut-m-requires g c =
    let long = AllZip-long (Sweeps c.args.space.now) c.args.mutators.now.items c.loop-k.mutators.items c.loop-k.invariant.swept in
    omega (arith, long, c.loop-k-test.true, c.len-k-end.ensures, c.loop-k.mutators.ok, c.args.mutators.now.ok)

pub index_mut-list-requires : goal.index_mut-list-requires
index_mut-list-requires g c =
    let long = AllZip-long (Sweeps c.args.space.now) c.args.mutators.now.items c.loop-k.mutators.items c.loop-k.invariant.swept in
    let lists = AllZip-long (SeesRegions (setup_of c.args.space.now)) c.loop-k.mutators.items c.loop-k.regions.items c.loop-k.invariant.seen in
    omega (arith, long, lists, c.loop-k-test.true, c.len-k-end.ensures, c.loop-k.regions.ok, c.args.mutators.now.ok)

pub sweep_left-requires-clause-of : goal.sweep_left-requires-clause-of
sweep_left-requires-clause-of g c κs within =
    let long = AllZip-long (Sweeps c.args.space.now) c.args.mutators.now.items c.loop-k.mutators.items c.loop-k.invariant.swept in
    let inside : c.loop-k.k < length c.loop-k.mutators.items = omega (arith, long, c.loop-k-test.true, c.len-k-end.ensures, c.args.mutators.now.ok) in
    of_rest c.args.space.now c.args.mutators.now.items c.loop-k.mutators.items c.loop-k.k c.index_mut-m.result.now inside c.index_mut-m.ensures.value c.loop-k.invariant.swept

pub sweep_left-requires-clause-knows : goal.sweep_left-requires-clause-knows
sweep_left-requires-clause-knows g c κs within =
    let long = AllZip-long (Sweeps c.args.space.now) c.args.mutators.now.items c.loop-k.mutators.items c.loop-k.invariant.swept in
    let inside : c.loop-k.k < length c.loop-k.mutators.items = omega (arith, long, c.loop-k-test.true, c.len-k-end.ensures, c.args.mutators.now.ok) in
    knows_rest c.args.space.now c.args.mutators.now.items c.loop-k.mutators.items c.loop-k.k c.index_mut-m.result.now inside c.index_mut-m.ensures.value c.loop-k.invariant.swept
    g.S.Sweeping.given c.requires.knows

pub sweep_left-requires-clause-seen : goal.sweep_left-requires-clause-seen
sweep_left-requires-clause-seen g c κs within =
    let long = AllZip-long (Sweeps c.args.space.now) c.args.mutators.now.items c.loop-k.mutators.items c.loop-k.invariant.swept in
    let inside : c.loop-k.k < length c.loop-k.mutators.items = omega (arith, long, c.loop-k-test.true, c.len-k-end.ensures, c.args.mutators.now.ok) in
    seen_at (setup_of c.args.space.now) c.loop-k.mutators.items c.loop-k.regions.items c.loop-k.k c.loop-k.invariant.seen c.index_mut-m.result.now c.index_mut-list.result.now
    c.index_mut-m.ensures.value c.index_mut-list.ensures.value inside

pub returns-in_err-sweep_left-clause-swept : goal.returns-in_err-sweep_left-clause-swept
returns-in_err-sweep_left-clause-swept g c =
    let long = AllZip-long (Sweeps c.args.space.now) c.args.mutators.now.items c.loop-k.mutators.items c.loop-k.invariant.swept in
    let inside : c.loop-k.k < length c.loop-k.mutators.items = omega (arith, long, c.loop-k-test.true, c.len-k-end.ensures, c.args.mutators.now.ok) in
    swept_rest c.args.space.now c.args.mutators.now.items c.loop-k.mutators.items c.loop-k.k c.index_mut-m.result.now inside c.index_mut-m.ensures.value c.loop-k.invariant.swept
    c.sweep_left.new.m c.sweep_left.ensures.sweeps

pub loop-k-preserved : goal.loop-k-preserved
loop-k-preserved g c =
    let u = setup_of c.args.space.now in
    let inv = c.loop-k.invariant in
    let k = c.loop-k.k in
    let ms = c.loop-k.mutators.items in
    let os = c.loop-k.queues.items in
    let ls = c.loop-k.regions.items in
    let long = AllZip-long (Sweeps c.args.space.now) c.args.mutators.now.items ms inv.swept in
    let inside : k < length ms = omega (arith, long, c.loop-k-test.true, c.len-k-end.ensures, c.args.mutators.now.ok) in
    let inside_queues : k < length os = omega (arith, inside, long, long_rest os c.args.queues.now.items inv.same, c.requires.count) in
    let inside_lists : k < length ls = omega (arith, inside, AllZip-long (SeesRegions u) ms ls inv.seen) in
    let o = c.index_mut-queue.result.now in
    let n = c.sweep_left.new.queue in
    let eo = c.index_mut-queue.ensures.value in
    let listed = c.in_ok-sweep_left.ensures.listed in record {
      swept = swept_rest c.args.space.now c.args.mutators.now.items ms k c.index_mut-m.result.now inside c.index_mut-m.ensures.value inv.swept c.sweep_left.new.m c.sweep_left.ensures.sweeps;
      same = same_rest os k o n inside_queues eo c.args.queues.now.items c.sweep_left.ensures.queue inv.same;
      seen = seen_rest u ms ls k inv.seen c.sweep_left.new.m c.sweep_left.new.regions listed.seen;
      tally = tally_rest os k o n inside_queues eo u (pass_of c.sweep_left.new.m) c.args.queues.now.items c.args.regions.now.items ls c.index_mut-list.result.now c.sweep_left.new.regions
          inside_lists c.index_mut-list.ensures.value listed inv.tally;
      out = out_rest os k o n inside_queues eo inv.out c.in_ok-sweep_left.ensures.out;
    }

pub returns-clause-rest : goal.returns-clause-rest
returns-clause-rest g c =
    let inv = c.loop-k.invariant in
    let os = c.loop-k.queues.items in record {
      same = inv.same;
      seen = inv.seen;
      tally = inv.tally;
      out = λ j queue at.
          inv.out j queue (omega (arith, at_below os j queue at, long_rest os c.args.queues.now.items inv.same, c.requires.count, c.loop-k-test.false, c.len-k-end.ensures, c.args.mutators.now.ok)) at;
    }
