use Rattle.std.proofs.Common.{◌≡◌, ◌-◌, length}
use Rattle.rest_marks.specs.LiveBits.{AreLiveTo}
use Rattle.rest_marks.proofs.live_bits.fill_part.Given as goal

abbrev pub invariant-loop-next : goal.invariant-loop-next
invariant-loop-next l = record {
  live : AreLiveTo l.edition l.words l.heads l.base l.next l.part;
  long : length l.part ≡ length l.fn.part;
}

abbrev pub decreases-loop-next : goal.decreases-loop-next
decreases-loop-next l = l.limit - l.next
