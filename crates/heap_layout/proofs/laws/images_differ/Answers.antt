use Rattle.heap_layout.proofs.Injective.{images_same}
use Rattle.heap_layout.proofs.laws.images_differ.Goals as goal

pub returns : goal.returns
returns c = images_same
