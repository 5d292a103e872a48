use Rattle.std.proofs.Common.{◌≡◌, ℕ, ◌-◌, ◌<◌, false, get_or}
use Rattle.reachability.specs.Queue.{has}
use Rattle.rest_marks.specs.Surveys.{AreTables}
use Rattle.rest_slide.proofs.SlidingDown.{IsSlidDown}
use Rattle.young_heap.specs.Young.{AreOld, AreRemembered}
use Rattle.young_heap.proofs.Safe.{IsAt}
use Rattle.young_heap.proofs.sliding.slide_above.Given as goal

-- it stays within the words, and if the old words are as they must be, the live objects before index `next` are slid
abbrev pub invariant-loop-place : goal.invariant-loop-place
invariant-loop-place l = record {
  safe : IsAt l.edition l.fn.words l.old l.heads l.bits l.place l.next l.words;
  down : AreTables l.edition l.fn.words l.heads l.bits l.counts → AreOld l.edition l.fn.words l.heads l.old → AreRemembered l.edition l.fn.words l.heads l.old l.fields l.weaks
      → IsSlidDown l.edition l.fn.words l.heads l.place l.next l.words;
  low : (j : ℕ) → j < l.old → has l.fields j ≡ false → has l.weaks j ≡ false → get_or l.words j 0 ≡ get_or l.fn.words j 0;
}

abbrev pub decreases-loop-place : goal.decreases-loop-place
decreases-loop-place l = l.live - l.place
