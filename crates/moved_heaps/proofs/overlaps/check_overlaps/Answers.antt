use Rattle.std.proofs.Common.{refl}
use Rattle.moved_heaps.proofs.Ordering.{are_by_place}
use Rattle.moved_heaps.proofs.overlaps.check_overlaps.Goals as goal

pub check_neighbours-requires-clause-row : goal.check_neighbours-requires-clause-row
check_neighbours-requires-clause-row c =
    rw c.deref.ensures.value
    (are_by_place c.args.moved.now.places c.in_ok-row.row.items c.sort_unstable.new.self.items c.in_ok-row.ensures c.sort_unstable.ensures.permutation c.args.moved.now refl c.sort_unstable.ensures.sorted)
