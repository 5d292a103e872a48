use Rattle.stopped_heap.proofs.Slid.{slid-found, slid-reached, parts-found}
use Rattle.stopped_heap.proofs.given.slid_is_sound.Goals as goal

pub returns-clause-reached : goal.returns-clause-reached
returns-clause-reached c = λ found before words roots of slid i reached. slid-reached found before words roots of slid i reached

pub returns-clause-sound : goal.returns-clause-sound
returns-clause-sound c = λ found before words roots of slid weak. slid-found found before words roots of slid weak

pub returns-clause-joined : goal.returns-clause-joined
returns-clause-joined c = λ found words first a b low high. parts-found found words first a b low high
