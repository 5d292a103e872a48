use Rattle.std.proofs.Common.{ℕ, List, Bool, ap, ◌∙◌}
use Rattle.heap_layout.specs.Bits.{leads}
use Rattle.heap_layout.specs.Heap.{is_value}
use Rattle.heap_layout.specs.Values.{or_immediate}
use Rattle.rest_marks.specs.Surveys.{Surveyed}
use Rattle.rest_marks.proofs.Heads.{heads-lead}
use Rattle.stopped_heap.proofs.growing.Growing.keeps.Goals as goal

pub returns : goal.returns
returns c =
    let inside = c.self.inside in
    c.leads_to.ensures ∙ ap (λ (xs : List ℕ). or_immediate inside.edition (leads xs) c.args.word) c.deref.ensures.value
    ∙ ap (λ (test : ℕ → Bool). or_immediate inside.edition test c.args.word) (heads-lead inside.heads.items)
    ∙ ap (λ (s : Surveyed). is_value s.edition s.marks c.args.word) c.self.view_is
