use Rattle.stopped_heap.proofs.Unchanged.{words-same}
use Rattle.stopped_heap.proofs.laws.words_now_are_settled.Goals as goal

pub returns : goal.returns
returns c = λ found heap of. words-same found heap of
