use Rattle.stopped_heap.proofs.Unchanged.{led-same}
use Rattle.stopped_heap.proofs.laws.led_is_settled.Goals as goal

pub returns : goal.returns
returns c = λ found heap word of. led-same found heap word of
