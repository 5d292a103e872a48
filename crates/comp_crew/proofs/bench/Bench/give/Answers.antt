use Rattle.std.proofs.Common.{◌≡◌, List, All, ap, sym, subst, ◌∙◌}
use Rattle.std.proofs.lemmas.List.Elements.{All-push}
use Rattle.comp_access.specs.Hands.{IsHandOf}
use Rattle.comp_access.specs.declared.hand.Hand.{Hand}
use Rattle.comp_crew.specs.Benches.{name_on}
use Rattle.comp_crew.specs.Members.{name_of}
use Rattle.comp_crew.specs.declared.crew.Crew.{Crew}
use Rattle.comp_crew.proofs.bench.Bench.give.Goals as goal

pub returns-clause-bench : goal.returns-clause-bench
returns-clause-bench c =
    let bench = c.args.self.now in
    let m = c.args.m in
    let named : name_of m ≡ name_on bench = sym c.crew_name.ensures ∙ c.if-crew_name-deref.false ∙ ap (λ (x : Crew). x.name) c.deref.ensures in
    let its = subst (λ (x : Crew). IsHandOf x.cells m.hand) (c.requires.apart named) c.requires.of in
    let is_hand = λ (hand : Hand). IsHandOf bench.crew.value.cells hand in
    subst (λ (l : List Hand). All is_hand l) (sym c.push_reserved.ensures.items) (All-push is_hand bench.hands.items m.hand c.requires.bench its)
