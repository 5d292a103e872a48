use Rattle.std.proofs.Common.{◌<◌, ◌^◌, w64, bit_and, get_or, refl, arith, rules}
use Rattle.std.specs.Int.{bit_not}
use Rattle.reachability.specs.Queue.{is_met}
use Rattle.reachability.proofs.Blocks.{listed-next, listed-all, met-block}
use Rattle.reachability.proofs.marks.push_block.Goals as goal

pub loop-rest-preserved : goal.loop-rest-preserved
loop-rest-preserved c =
    let row = c.args.starts.now in
    let unmet = c.args.unmet.now in
    let b = c.args.b in
    let block = bit_and (get_or row b 0) (bit_not w64 (get_or unmet b 0)) in
    let small : get_or unmet b 0 < 2 ^ 64 = search rules in
    let block_small : block < 2 ^ 64 = search rules in
    rw c.in_ok-push.ensures.items
    (listed-next (is_met row unmet) b block c.loop-rest.list.items c.loop-rest.i c.loop-rest.rest _ (met-block row unmet b small) c.loop-rest.invariant block_small (omega arith) (search rules) refl)

pub returns : goal.returns
returns c =
    let row = c.args.starts.now in
    let unmet = c.args.unmet.now in
    let b = c.args.b in
    let block = bit_and (get_or row b 0) (bit_not w64 (get_or unmet b 0)) in
    let small : get_or unmet b 0 < 2 ^ 64 = search rules in
    listed-all (is_met row unmet) b block c.loop-rest.list.items c.loop-rest.i c.loop-rest.rest (met-block row unmet b small) c.loop-rest.invariant (omega arith)
