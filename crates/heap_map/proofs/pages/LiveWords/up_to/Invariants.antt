use Rattle.std.proofs.Common.{◌-◌, length}
use Rattle.heap_map.proofs.pages.LiveWords.up_to.Given as goal

abbrev pub decreases-loop-self : goal.decreases-loop-self
decreases-loop-self l = length l.marks - l.self.mark
