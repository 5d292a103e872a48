use Rattle.std.proofs.Common.{subst, sym}
use Rattle.rest_marks.specs.Places.{Found}
use Rattle.handle_base.specs.Knowing.{knows}
use Rattle.beside_handle.specs.Marking.{IsFoundBy}
use Rattle.beside_handle.proofs.marking.found_by.Goals as goal

pub returns-in-Ok-clause-found : goal.returns-in-Ok-clause-found
returns-in-Ok-clause-found c =
    let own = c.args.own in
    let found = c.in_ok-found.ensures in
    subst (λ (f : Found). IsFoundBy (knows own.marking own.met) c.args.roots.now f) (sym c.in-Ok.ensures.ok)
    (record {
      edition_is = found.edition;
      count_is = found.count;
      some_heap = found.found;
      few_roots = found.few_roots;
      roots_lead = found.roots;
      begun = found.begun;
      met = found.met;
    })
