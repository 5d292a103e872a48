use Rattle.std.proofs.Common.{◌≡◌, ℕ, ◌-◌, ◌<◌, List, length}
use Rattle.rest_marks.specs.Surveys.{told, AreTables}
use Rattle.rest_slide.proofs.Tried.{IsTried}
use Rattle.rest_slide.proofs.trying.try_slide_run.Given as goal

-- The words that were surveyed are some that have these tables. The index of the next object is only looked for if
-- words of it slide into the part.
abbrev pub invariant-loop-place : goal.invariant-loop-place
invariant-loop-place l =
    (ws : List ℕ) × (length ws ≡ length l.words) × AreTables l.edition ws l.heads l.bits l.counts
    × (next : ℕ) × (l.place < l.end → next ≡ l.start) × IsTried (told l.edition ws l.heads) l.words l.first l.place next l.part
    × (length l.part ≡ length l.fn.part)

abbrev pub decreases-loop-place : goal.decreases-loop-place
decreases-loop-place l = l.end - l.place
