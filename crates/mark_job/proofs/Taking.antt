-- What was met is marked.
use Rattle.std.proofs.Common.{◌≡◌, ℕ, ◌*◌, ◌<◌, ◌≤◌, true, List, length, Contains, sym, subst, arith}
use Rattle.heap_layout.specs.Bits.{bit}
use Rattle.reachability.proofs.Indices.{index-there}
use Rattle.rest_marks.specs.Surveys.{marks_of}
use Rattle.rest_marks.proofs.Bounding.{bit-inside}
use Rattle.mark_job.specs.Marking.{AreKept}

-- the object whose bit is set is marked
mark-of : (heads : List ℕ) (i : ℕ) → bit heads i ≡ true → Contains (marks_of heads) i
mark-of heads i is = index-there (bit heads) (64 * length heads) i (bit-inside heads i is) is

pub are-kept : (count blocks : ℕ) (bits heads marks : List ℕ) → count ≤ 64 * blocks → marks ≡ marks_of heads
    → ((i : ℕ) → i < 64 * blocks → bit bits i ≡ true → bit heads i ≡ true) → AreKept count bits marks
are-kept count blocks bits heads marks few same among i inside is =
    subst (λ (ms : List ℕ). Contains ms i) (sym same) (mark-of heads i (among i (omega arith) is))
