use Rattle.stopped_heap.proofs.TidyWords.{slid-tidied}
use Rattle.stopped_heap.proofs.tidied.slid_is_tidied.Goals as goal

pub returns-clause-sound : goal.returns-clause-sound
returns-clause-sound c = λ found before words roots of slid. (slid-tidied found before words roots of slid).0

pub returns-clause-words : goal.returns-clause-words
returns-clause-words c = λ found before words roots of slid. (slid-tidied found before words roots of slid).1
