use Rattle.stopped_heap.proofs.Faultless.{faultless}
use Rattle.stopped_heap.proofs.laws.sound_has_no_fault.Goals as goal

pub returns : goal.returns
returns c = λ heap fault sound are is. faultless heap sound are fault is
