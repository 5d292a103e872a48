use Rattle.std.proofs.Common.{Option, IfErr, ap, sym, subst, ◌∙◌}
use Rattle.heap_layout.specs.Header.{header_with, size_of, Head}
use Rattle.comp_access.specs.Allocations.{AllocationRefused, AskedRefused}
use Rattle.comp_crew.specs.Members.{pass_of, setup_in}
use Rattle.comp_access.specs.Hands as hands
use Rattle.comp_crew.specs.declared.crew.Crew.{Crew}
use Rattle.comp_crew.proofs.member.Member.try_alloc_weak.Goals as goal

pub returns-clause-refused : goal.returns-clause-refused
returns-clause-refused c =
    let old = pass_of c.args.self.now in
    let new = hands.pass_of c.alloc_with.new.self in
    let crew = c.args.self.now.crew.value in
    let refused = subst (λ (x : Crew). IfErr c.alloc_with.result (AllocationRefused (setup_in x) old new (size_of c.in_ok-header.header))) c.deref-2.ensures c.alloc_with.ensures.refused in
    let asked = ap (λ (x : Crew). header_with (setup_in x).heap.edition c.args.refs c.args.weak c.args.data_words c.args.tag) (sym c.deref.ensures) ∙ c.in_ok-header.ensures.header in
    subst (λ (o : Option Head). IfErr c.alloc_with.result (AskedRefused (setup_in crew) old new o)) (sym asked) refused
