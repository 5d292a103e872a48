use Rattle.std.proofs.Common.{Some, sym, ap, ◌∙◌}
use Rattle.handle_base.specs.HandleKinds.{end_in}
use Rattle.flip_handle.specs.Turning.{Follows, IsUnfollowed}
use Rattle.handle_base.specs.declared.kept.Kept.{Kept}
use Rattle.handle_base.proofs.TurnedKept.{answer_by, goes_by, kept_by, kept_either, kept_full, kept_other}
use Rattle.flip_handle.proofs.turning.followed.Goals as goal

pub returns-in-Err-clause-turns : goal.returns-in-Err-clause-turns
returns-in-Err-clause-turns c =
    let own = c.in-Err.ensures.other in
    kept_other end_in (Follows c.args.roots.now c.args.marks.now) (IsUnfollowed c.args.roots.now c.args.marks.now) _ _ _ _ _ own.1 (goes_by c.stays.ensures) (kept_by c.stays.ensures ∙ own.0) (answer_by c.stays.ensures ∙ c.bare.ensures)

pub returns-then-full-clause-turns : goal.returns-then-full-clause-turns
returns-then-full-clause-turns c =
    let is = c.in-Ok.ensures.end in
    let at = ap (λ (k : Kept). end_in (Some k)) is in
    kept_full end_in (Follows c.args.roots.now c.args.marks.now) (IsUnfollowed c.args.roots.now c.args.marks.now) _ _ _ _ _ c.in-Ok.ended at c.if-full.true (goes_by c.stays-then-full.ensures) (kept_by c.stays-then-full.ensures ∙ sym is) (answer_by c.stays-then-full.ensures ∙ c.bare-then-full.ensures)

pub returns-clause-turns : goal.returns-clause-turns
returns-clause-turns c =
    let is = c.in-Ok.ensures.end in
    let at = ap (λ (k : Kept). end_in (Some k)) is in
    let h = c.next_with.ensures in
    kept_either end_in (Follows c.args.roots.now c.args.marks.now) (IsUnfollowed c.args.roots.now c.args.marks.now) _ _ _ _ _ c.in-Ok.ended at c.if-full.false h.next (λ stays. let r = h.refused stays in (r.0 ∙ sym is, r.1))
