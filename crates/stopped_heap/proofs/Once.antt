-- There is one list of the objects that are reached.
use Rattle.std.proofs.Common.{◌≡◌, ℕ, List, arith}
use Rattle.heap_layout.specs.declared.edition.Edition.{Edition}
use Rattle.reachability.proofs.Rising.{contains-had, has-contained, Rises, rises, rises-same}
use Rattle.rest_marks.specs.Reached.{AreReached}

marks-rise : (edition : Edition) (words roots marks : List ℕ) → AreReached edition words roots marks → Rises 0 marks
marks-rise edition words roots marks are = rises 0 marks are.rising (λ some. omega arith)

pub once : (edition : Edition) (words roots marks others : List ℕ) → AreReached edition words roots marks → AreReached edition words roots others → marks ≡ others
once edition words roots marks others one other =
    rises-same 0 marks others (marks-rise edition words roots marks one) (marks-rise edition words roots others other)
    (λ i there. has-contained others i (other.all i (one.reached i (contains-had marks i there))))
    (λ i there. has-contained marks i (one.all i (other.reached i (contains-had others i there))))
