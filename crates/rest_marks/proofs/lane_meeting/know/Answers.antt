use Rattle.std.proofs.Common.{◌∷◌, [], refl, arith}
use Rattle.heap_layout.specs.Heap.{from_address}
use Rattle.rest_marks.specs.Lanes.{IsLedTo}
use Rattle.rest_marks.proofs.Laned.{told-one}
use Rattle.rest_marks.proofs.lane_meeting.know.Goals as goal

pub returns-clause-told : goal.returns-clause-told
returns-clause-told c =
    let i = c.args.i in
    told-one (IsLedTo c.args.count (from_address i ∷ [])) c.args.queue.now.items c.args.known.now c.claim_one.new.queue.items c.set.new.bits i
    (c.requires.inside, 0, omega arith, refl) c.requires.unknown c.in_ok-claim_one.ensures.queue c.set.ensures.here c.set.ensures.elsewhere
