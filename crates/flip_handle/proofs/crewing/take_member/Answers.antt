use Rattle.std.proofs.Common.{Result, IfOk, MatchResult, IsFalse, ap, subst, ◌≡◌, ◌∙◌}
use Rattle.handle_base.specs.Answers.{done}
use Rattle.flip_handle.specs.Crewing.{IsUnsplit, Splits}
use Rattle.handle_base.specs.declared.answer.Answer.{Answer}
use Rattle.flip_handle.specs.declared.crewing.Seated.{Seated}
use Rattle.flip_handle.proofs.Taken.{left_by}
use Rattle.flip_handle.proofs.crewing.take_member.Goals as goal

pub returns-in-Ok : goal.returns-in-Ok
returns-in-Ok c =
    let k = c.in-Some.field-0.kept in
    let split = c.split_off-kept in
    let full = c.is_full-full.result in
    let free = subst (λ (r : Result Seated Answer). IfOk r (λ (seated : Seated). IsFalse full)) c.in-Ok.is split.ensures.free in
    let splits =
    subst (λ (r : Result Seated Answer). MatchResult r (λ (seated : Seated). Splits k split.result.kept seated.member) (λ (a : Answer). (split.result.kept ≡ k) × IsUnsplit full k a)) c.in-Ok.is split.ensures.splits in
    left_by _ _ _ _ k split.result.kept c.in-Ok.field-0.member full _ c.in-Some.ensures.opened.0 c.close.ensures c.is_full-full.ensures.full free splits c.close-in-Ok.ensures
    (c.done.ensures ∙ ap done (c.from.ensures ∙ c.number-number.ensures))
