use Rattle.std.proofs.Common.{◌∙◌, ◌||◌, ℕ, Option, ap, nat_lt, sym}
use Rattle.comp_audit.specs.Noted.{is_below}
use Rattle.comp_audit.proofs.Noting.{lesser_below}
use Rattle.comp_audit.proofs.checks.starts.lesser.Goals as goal

pub returns-in-Some : goal.returns-in-Some
returns-in-Some c = λ n.
    ap (λ (m : ℕ). nat_lt m n) c.min.ensures
    ∙ lesser_below c.in-Some.other c.args.stamp n
    ∙ ap (λ (noted : Option ℕ). is_below noted n || nat_lt c.args.stamp n) (sym c.in-Some.is)
