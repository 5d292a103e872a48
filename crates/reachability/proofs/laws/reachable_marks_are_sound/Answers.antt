use Rattle.reachability.proofs.Least.{marks-sound}
use Rattle.reachability.proofs.laws.reachable_marks_are_sound.Goals as goal

pub returns : goal.returns
returns c = marks-sound
