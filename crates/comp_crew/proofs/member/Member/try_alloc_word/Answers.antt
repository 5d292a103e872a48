use Rattle.std.proofs.Common.{IfErr, ap, subst, ◌∙◌}
use Rattle.heap_layout.specs.Header.{header_of, size_of, Head}
use Rattle.heap_layout.specs.declared.edition.Edition.{Edition}
use Rattle.comp_access.specs.Allocations.{AllocationRefused}
use Rattle.comp_crew.specs.Members.{pass_of, setup_in}
use Rattle.comp_crew.specs.declared.crew.Crew.{Crew}
use Rattle.comp_crew.specs.declared.member.Member.{Member}
use Rattle.comp_crew.proofs.member.Member.try_alloc_word.Goals as goal

pub returns-clause-refused : goal.returns-clause-refused
returns-clause-refused c =
    let own = ap (λ (crew : Crew). (setup_in crew).heap.edition) c.deref.ensures in
    let is = c.from_word_of-header.ensures ∙ ap (λ (e : Edition). header_of e c.args.word) (c.edition.ensures ∙ own) in
    let after : Member = record { crew = c.args.self.now.crew; hand = c.alloc_with.new.self } in
    subst (λ (h : Head). IfErr c.alloc_with.result (AllocationRefused (setup_in c.args.self.now.crew.value) (pass_of c.args.self.now) (pass_of after) (size_of h))) is
    (subst (λ (crew : Crew). IfErr c.alloc_with.result (AllocationRefused (setup_in crew) (pass_of c.args.self.now) (pass_of after) (size_of c.from_word_of-header.result))) c.deref-2.ensures c.alloc_with.ensures.refused)
