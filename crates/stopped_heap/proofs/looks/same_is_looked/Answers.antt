use Rattle.rest_marks.proofs.LookedAt.{looked-same}
use Rattle.stopped_heap.proofs.looks.same_is_looked.Goals as goal

pub returns : goal.returns
returns c = λ looking before now counted same are. looked-same looking.edition before now looking.met looking.looked looking.heads looking.bits counted same are
