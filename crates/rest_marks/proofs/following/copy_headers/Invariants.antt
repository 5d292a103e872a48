use Rattle.std.proofs.Common.{◌≡◌, ℕ, ◌<◌, length, slice_index}
use Rattle.rest_marks.proofs.following.copy_headers.Given as goal

abbrev pub invariant-loop-k : goal.invariant-loop-k
invariant-loop-k l = (k : ℕ) → k < l.k → slice_index l.objects k < length l.words → slice_index l.headers k ≡ slice_index l.words (slice_index l.objects k)
