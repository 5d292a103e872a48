use Rattle.std.proofs.Common.{◌<◌, List, ap, sym, subst, ◌∙◌}
use Rattle.heap_layout.proofs.Ordered.{none_missing}
use Rattle.comp_access.specs.declared.hand.Hand.{Hand}
use Rattle.comp_crew.specs.Benches.{setup_on}
use Rattle.comp_crew.specs.Members.{setup_in}
use Rattle.comp_crew.specs.HandOrders.{number_of_hand, IsLeastMissing}
use Rattle.comp_crew.specs.declared.crew.Crew.{Crew}
use Rattle.comp_crew.proofs.finishing.calls.finish.Goals as goal

pub returns-in-Some-clause-fault : goal.returns-in-Some-clause-fault
returns-in-Some-clause-fault c =
    let count = ap (λ (x : Crew). x.mutators) c.deref-2.ensures ∙ c.args.bench.crew.value.all in
    let missing = subst (λ n. IsLeastMissing n c.deref.result.now c.in-Some.number) count c.in-Some.ensures in
    subst (λ (l : List Hand). IsLeastMissing (setup_on c.args.bench).mutators l c.in-Some.number) c.deref.ensures.value missing

pub returns-in_default-reserve-clause-fault : goal.returns-in_default-reserve-clause-fault
returns-in_default-reserve-clause-fault c = λ k lt.
    none_missing number_of_hand c.args.bench.hands.items c.deref.result.now c.deref-2.result.now.mutators c.least_missing.result c.deref.ensures.value c.in_default.not-Some c.least_missing.ensures k
    (subst (λ n. k < n) (sym (ap (λ (x : Crew). x.mutators) c.deref-2.ensures ∙ c.args.bench.crew.value.all)) lt)

pub close_all-requires-clause-all : goal.close_all-requires-clause-all
close_all-requires-clause-all c = λ k lt.
    none_missing number_of_hand c.args.bench.hands.items c.deref.result.now c.deref-2.result.now.mutators c.least_missing.result c.deref.ensures.value c.in_default.not-Some c.least_missing.ensures k
    (subst (λ n. k < n) (sym (ap (λ (x : Crew). x.mutators) c.deref-2.ensures ∙ c.args.bench.crew.value.all)) (subst (λ (x : Crew). k < (setup_in x).mutators) c.in-Ok-try_unwrap.ensures.ok lt))

pub returns-in-Err-clause-fault : goal.returns-in-Err-clause-fault
returns-in-Err-clause-fault c = λ k lt.
    none_missing number_of_hand c.args.bench.hands.items c.deref.result.now c.deref-2.result.now.mutators c.least_missing.result c.deref.ensures.value c.in_default.not-Some c.least_missing.ensures k
    (subst (λ n. k < n) (sym (ap (λ (x : Crew). x.mutators) c.deref-2.ensures ∙ c.args.bench.crew.value.all)) lt)
