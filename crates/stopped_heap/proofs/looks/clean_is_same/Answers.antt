use Rattle.rest_marks.proofs.LookedAt.{clean-same}
use Rattle.stopped_heap.proofs.looks.clean_is_same.Goals as goal

pub returns : goal.returns
returns c = λ edition before now clean i counted written placed all. clean-same edition before now clean counted written i placed all
