use Rattle.std.proofs.Common.{◌-◌}
use Rattle.rest_slide.proofs.Slides.{IsSlid}
use Rattle.rest_slide.proofs.sliding.slide_run.Given as goal

abbrev pub invariant-loop-place : goal.invariant-loop-place
invariant-loop-place l = IsSlid l.edition l.words l.heads l.first l.place l.next l.part

abbrev pub decreases-loop-place : goal.decreases-loop-place
decreases-loop-place l = l.end - l.place
