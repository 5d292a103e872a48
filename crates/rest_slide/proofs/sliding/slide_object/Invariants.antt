use Rattle.std.proofs.Common.{◌≡◌, ℕ, ◌+◌, ◌-◌, ◌<◌, ◌≤◌, length, get_or}
use Rattle.heap_layout.specs.Heap.{live, object_at}
use Rattle.rest_slide.specs.Settled.{settled}
use Rattle.rest_marks.specs.Surveys.{told}
use Rattle.rest_slide.proofs.sliding.slide_object.Given as goal

-- the words before `at` are there
abbrev pub invariant-loop-at : goal.invariant-loop-at
invariant-loop-at l = record {
  from : l.from ≤ l.at;
  some : 1 ≤ l.at;
  before : l.at ≤ l.end;
  long : length l.part ≡ length l.fn.part;
  kept : (k : ℕ) → k < l.begin → get_or l.part k 0 ≡ get_or l.fn.part k 0;
  made : (j : ℕ) → l.from + j < l.at → get_or l.part (l.begin + j) 0 ≡ get_or (settled (live (told l.fn.edition l.words l.heads)) (object_at l.fn.edition l.words l.start)) (l.from + j) 0;
}

abbrev pub decreases-loop-at : goal.decreases-loop-at
decreases-loop-at l = l.end - l.at

-- and all references
abbrev pub invariant-loop-at-2 : goal.invariant-loop-at-2
invariant-loop-at-2 l = record {
  from : l.from ≤ l.at;
  some : 1 ≤ l.at;
  before : l.at ≤ l.end;
  references : l.at < l.end → 1 + l.fn.shape.refs ≤ l.at;
  long : length l.part ≡ length l.fn.part;
  kept : (k : ℕ) → k < l.begin → get_or l.part k 0 ≡ get_or l.fn.part k 0;
  made : (j : ℕ) → l.from + j < l.at → get_or l.part (l.begin + j) 0 ≡ get_or (settled (live (told l.fn.edition l.words l.heads)) (object_at l.fn.edition l.words l.start)) (l.from + j) 0;
}

abbrev pub decreases-loop-at-2 : goal.decreases-loop-at-2
decreases-loop-at-2 l = l.end - l.at
