use Rattle.std.proofs.Common.{◌≡◌, ℕ, List, Bool, length, get_or, drop, sym, ap, subst, ◌∙◌, arith}
use Rattle.std.proofs.lemmas.Grind.{common_steps}
use Rattle.std.proofs.lemmas.List.{get_or_default, take_at}
use Rattle.heap_layout.specs.declared.edition.Edition.{Edition}
use Rattle.heap_layout.specs.Heap.{IsValue}
use Rattle.heap_layout.specs.Values.{or_immediate}
use Rattle.rest_marks.specs.Growing.{roots_on}
use Rattle.rest_marks.specs.Reached.{AreReached}
use Rattle.rest_marks.specs.Surveys.{marks_of, Surveyed}
use Rattle.rest_marks.proofs.Grown.{reached-together}
use Rattle.rest_marks.proofs.Heads.{heads-lead}
use Rattle.stopped_heap.proofs.growing.Growing.also.Goals as goal

pub returns-clause-together : goal.returns-clause-together
returns-clause-together c =
    let inside = c.self.inside in
    let more = c.args.more.now in
    let heads = c.grow-grown.new.heads in
    let long : length heads ≡ inside.heads.len = grind (arith, common_steps, c.grow-grown.ensures.same, c.deref_mut.ensures.len) in
    let on : AreReached c.args.self.edition c.args.self.words (roots_on c.args.self.marks more) (marks_of heads) =
    subst (λ (s : Surveyed). AreReached s.edition s.words (roots_on s.marks more) (marks_of heads)) c.self.view_is
    (subst (λ (xs : List ℕ). AreReached inside.edition inside.words.now (roots_on (marks_of xs) more) (marks_of heads)) c.deref_mut.ensures.value c.in_default.ensures.reached) in
    rw (take_at heads (drop (length heads) inside.heads.items) inside.heads.len long)
    (λ roots before. reached-together c.args.self.edition c.args.self.words roots c.args.self.marks more (marks_of heads) before on)

pub returns-clause-leads : goal.returns-clause-leads
returns-clause-leads c =
    let inside = c.self.inside in
    let more = c.args.more.now in
    let heads = c.grow-grown.new.heads in
    let long : length heads ≡ inside.heads.len = grind (arith, common_steps, c.grow-grown.ensures.same, c.deref_mut.ensures.len) in
    rw (take_at heads (drop (length heads) inside.heads.items) inside.heads.len long)
    (λ k d lt.
    subst (λ (edition : Edition). IsValue edition (marks_of heads) (get_or more k d)) (ap (λ (s : Surveyed). s.edition) c.self.view_is)
    (subst (IsValue inside.edition (marks_of heads)) (get_or_default more k 0 d lt)
    (sym (ap (λ (test : ℕ → Bool). or_immediate inside.edition test (get_or more k 0)) (heads-lead heads)) ∙ c.in_default.ensures.leads k lt)))
