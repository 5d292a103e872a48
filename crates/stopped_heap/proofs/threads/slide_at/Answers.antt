use Rattle.std.proofs.Common.{ℕ, List, length, get_or, drop, ap, ◌∙◌}
use Rattle.std.proofs.lemmas.List.{get_or-take, get_or-drop}
use Rattle.heap_layout.specs.Heap.{live}
use Rattle.rest_slide.specs.Settled.{settled_words}
use Rattle.rest_marks.specs.Surveys.{heap_of}
use Rattle.stopped_heap.proofs.threads.slide_at.Goals as goal

pub returns-clause-words : goal.returns-clause-words
returns-clause-words c = λ k lt.
    let all = settled_words (live (heap_of c.args.survey.now)) in
    ap (λ (xs : List ℕ). get_or xs k 0) c.slide.ensures
    ∙ get_or-take (length c.args.part.now) (drop c.args.start all) k 0 lt ∙ get_or-drop c.args.start all k 0
