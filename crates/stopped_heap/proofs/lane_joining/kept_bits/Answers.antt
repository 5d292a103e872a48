use Rattle.std.proofs.Common.{◌≡◌, length, drop, arith}
use Rattle.std.proofs.lemmas.Grind.{common_steps}
use Rattle.std.proofs.lemmas.List.{take_at}
use Rattle.stopped_heap.proofs.lane_joining.kept_bits.Goals as goal

pub returns-clause-met : goal.returns-clause-met
returns-clause-met c =
    let heads = c.args.heads in
    let new = c.clear_last.new.heads in
    let long : length new ≡ heads.len = grind (arith, common_steps, c.clear_last.ensures.heads) in
    rw (take_at new (drop (length new) heads.items) heads.len long) c.clear_last.ensures.met
