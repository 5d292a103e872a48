use Rattle.std.proofs.Common.{◌≡◌, ℕ, ◌+◌, ◌-◌, ◌<◌, ◌≤◌, length, get_or}
use Rattle.heap_layout.specs.Header.{refs_of}
use Rattle.heap_layout.specs.Heap.{header_at, object_at, IsValue}
use Rattle.rest_marks.specs.Places.{found_in, led_by, led_words}
use Rattle.rest_marks.specs.Surveys.{marks_of}
use Rattle.rest_slide.proofs.trying.try_slide_object.Given as goal

-- the words before `at` are there
abbrev pub invariant-loop-at : goal.invariant-loop-at
invariant-loop-at l = record {
  from : l.from ≤ l.at;
  some : 1 ≤ l.at;
  before : l.at ≤ l.end;
  long : length l.part ≡ length l.fn.part;
  kept : (k : ℕ) → k < l.begin → get_or l.part k 0 ≡ get_or l.fn.part k 0;
  marked : (f : ℕ) → l.from ≤ f → f < l.at → 1 ≤ f → f ≤ refs_of (header_at l.fn.edition l.words l.start) → IsValue l.fn.edition (marks_of l.heads) (get_or l.words (l.start + f) 0);
  made : (j : ℕ) → l.from + j < l.at → get_or l.part (l.begin + j) 0 ≡ get_or (led_words (led_by (found_in l.fn.edition (length l.words) l.heads l.bits 0)) (object_at l.fn.edition l.words l.start)) (l.from + j) 0;
}

abbrev pub decreases-loop-at : goal.decreases-loop-at
decreases-loop-at l = l.end - l.at

-- and all references
abbrev pub invariant-loop-at-2 : goal.invariant-loop-at-2
invariant-loop-at-2 l = record {
  from : l.from ≤ l.at;
  some : 1 ≤ l.at;
  before : l.at ≤ l.end;
  references : l.at < l.end → 1 + l.fn.shape.refs ≤ l.at;
  long : length l.part ≡ length l.fn.part;
  kept : (k : ℕ) → k < l.begin → get_or l.part k 0 ≡ get_or l.fn.part k 0;
  marked : (f : ℕ) → l.from ≤ f → f < l.end → 1 ≤ f → f ≤ refs_of (header_at l.fn.edition l.words l.start) → IsValue l.fn.edition (marks_of l.heads) (get_or l.words (l.start + f) 0);
  made : (j : ℕ) → l.from + j < l.at → get_or l.part (l.begin + j) 0 ≡ get_or (led_words (led_by (found_in l.fn.edition (length l.words) l.heads l.bits 0)) (object_at l.fn.edition l.words l.start)) (l.from + j) 0;
}

abbrev pub decreases-loop-at-2 : goal.decreases-loop-at-2
decreases-loop-at-2 l = l.end - l.at
