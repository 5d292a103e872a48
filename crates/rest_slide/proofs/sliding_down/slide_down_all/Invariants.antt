use Rattle.std.proofs.Common.{◌-◌}
use Rattle.rest_slide.proofs.SlidingDown.{IsSlidDown}
use Rattle.rest_slide.proofs.sliding_down.slide_down_all.Given as goal

abbrev pub invariant-loop-place : goal.invariant-loop-place
invariant-loop-place l = IsSlidDown l.edition l.fn.words l.heads l.place l.next l.words

abbrev pub decreases-loop-place : goal.decreases-loop-place
decreases-loop-place l = l.live - l.place
