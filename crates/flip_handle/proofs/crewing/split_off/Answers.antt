use Rattle.std.proofs.Common.{◌≡◌, Result, MatchResult, ap, sym, subst, ◌∙◌}
use Rattle.comp_crew.specs.declared.bench.Bench.{Bench}
use Rattle.flip_handle.specs.Crewing.{IsUnsplit, Splits}
use Rattle.handle_base.specs.declared.answer.Answer.{Answer}
use Rattle.flip_handle.specs.declared.crewing.Seated.{Seated}
use Rattle.handle_base.specs.declared.kept.Kept.TheVariants as kept
use Rattle.flip_handle.proofs.Taken.{splits, unsplit}
use Rattle.flip_handle.proofs.crewing.split_off.Goals as goal
use Rattle.flip_handle.proofs.crewing.split_off.Goals.{then-full, else-full}

pub returns-clause-splits : goal.returns-clause-splits
returns-clause-splits c =
    let k = c.args.kept in
    let before = c.in-Ok.bench in
    let at = c.in-Ok.ensures.crew in
    let result = λ (after : Bench) (r : Result Seated Answer). MatchResult r (λ (seated : Seated). Splits k (kept.Crew after) seated.member) (λ (a : Answer). (kept.Crew after ≡ k) × IsUnsplit c.args.full k a) in
    elim c.if-full.branch [
      | then-full w ↦
          subst (λ (r : Result Seated Answer). result c.if-full.bench r) (sym w.taken-is)
          (ap (λ (b : Bench). kept.Crew b) w.bench-is ∙ sym at, unsplit c.args.full k before w.bare-then-full.result at w.if-full.true w.bare-then-full.ensures)
      | else-full w ↦
          subst (λ (r : Result Seated Answer). result c.if-full.bench r) (sym w.taken-is)
          (subst (λ (b : Bench). result b w.seat_one-taken.result) (sym w.bench-is)
          (splits c.args.full k before w.seat_one-taken.new.bench w.seat_one-taken.result at w.if-full.false w.seat_one-taken.ensures.taken w.seat_one-taken.ensures.untaken))
    ]
