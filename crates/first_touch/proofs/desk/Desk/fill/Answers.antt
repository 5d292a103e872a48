use Rattle.std.proofs.Common.{rules, length, ap, ◌∙◌}
use Rattle.first_touch.specs.Asked.{Asked}
use Rattle.first_touch.specs.Seen.{Desked}
use Rattle.first_touch.specs.declared.desk.Desk.TheInside.{Inside}
use Rattle.first_touch.proofs.Refusals.{page-fault}
use Rattle.first_touch.proofs.desk.Desk.fill.Goals as goal

pub returns-in-Err-clause-refused : goal.returns-in-Err-clause-refused
returns-in-Err-clause-refused c =
    let asked = c.args.self.now.asked in
    let asked_is = ap (λ (i : Inside). i.source) c.self-inside.view_is ∙ ap (λ (d : Desked). d.asked) c.self.view_is in (
      c.requires.inside,
      record {
        fault = page-fault asked c.args.page c.args.first (length c.args.taken.page.now) _ _ c.in-Err.fault (ap (λ (a : Asked). a.found) asked_is) (ap (λ (a : Asked). a.words) asked_is)
            c.requires.first c.requires.len (rw c.in-Err.is at c.slide-tried.ensures.fault);
        back = search rules;
      },
    )
