use Rattle.stopped_cycles.proofs.AroundPins.{around-numbered, around-sound}
use Rattle.stopped_cycles.proofs.laws.pinned_in_object_numbers.Goals as goal

pub returns-clause-numbers : goal.returns-clause-numbers
returns-clause-numbers c = λ heap pins end runs roots after numbers stable is numbered. around-numbered heap pins end runs roots after is numbers stable numbered

pub returns-clause-sound : goal.returns-clause-sound
returns-clause-sound c = λ heap pins end runs roots after is. around-sound heap pins end runs roots after is
