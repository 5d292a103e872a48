use Rattle.heap_layout.proofs.Marked.{closed}
use Rattle.stopped_heap.proofs.Rows.{closed-sound, marks-reached}
use Rattle.stopped_heap.proofs.laws.accepted_is_sound.Goals as goal

pub returns-clause-reached : goal.returns-clause-reached
returns-clause-reached c = λ heap accepted are. marks-reached heap (closed heap accepted) are

pub returns-clause-sound : goal.returns-clause-sound
returns-clause-sound c = λ heap accepted. closed-sound heap (closed heap accepted)
