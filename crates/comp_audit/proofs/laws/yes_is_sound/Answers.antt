use Rattle.comp_audit.proofs.Sound.{yes_is_sound}
use Rattle.comp_audit.proofs.laws.yes_is_sound.Goals as goal

pub returns : goal.returns
returns c = yes_is_sound
