-- What a call by tables with a watermark does, by what the handle keeps.
use Rattle.std.proofs.Common.{◌≡◌, Option, Some, refl, sym, ap, subst}
use Rattle.young_heap.specs.Tables.{Watermarked}
use Rattle.handle_base.specs.Answers.{bare}
use Rattle.handle_base.specs.Statuses.{wrong_handle}
use Rattle.handle_base.specs.HandleKinds.{old_in}
use Rattle.rest_handle.specs.Young.{ChangesOld}
use Rattle.handle_base.specs.declared.answer.Answer.{Answer}
use Rattle.handle_base.specs.declared.kept.Kept.{Kept}
use Rattle.handle_base.specs.declared.kept.Kept.TheVariants.{Nothing, Heap, Plan, Crew, Mutator, Ended, Survey, Tables, Growing, Old, Job, Pages, Looks, Marking, Lane}

module _ (P : Watermarked → Watermarked → Answer → Type 0) (R : Type 0) (from left : Option Kept) (a : Answer) where
  -- it has such tables, before and after
  pub changed : (t u : Watermarked) (b : Answer) → from ≡ Some (Old t) → left ≡ Some (Old u) → a ≡ b → P t u b → ChangesOld P R from left a
  changed t u b e f g h =
      subst (λ (o : Option Kept). ChangesOld P R o left a) (sym e) (u, ap old_in f, subst (λ (x : Answer). P t u x) (sym g) h)

  -- it keeps something else
  pub unchanged : (k : Kept) → ((t : Watermarked) → k ≡ Old t → ⊥) → from ≡ Some k → left ≡ Some k → a ≡ bare wrong_handle 0 → R → ChangesOld P R from left a
  unchanged Nothing never e f g r = subst (λ (o : Option Kept). ChangesOld P R o left a) (sym e) (g, (f, r))
  unchanged (Heap heap) never e f g r = subst (λ (o : Option Kept). ChangesOld P R o left a) (sym e) (g, (f, r))
  unchanged (Plan plan) never e f g r = subst (λ (o : Option Kept). ChangesOld P R o left a) (sym e) (g, (f, r))
  unchanged (Crew bench) never e f g r = subst (λ (o : Option Kept). ChangesOld P R o left a) (sym e) (g, (f, r))
  unchanged (Mutator m) never e f g r = subst (λ (o : Option Kept). ChangesOld P R o left a) (sym e) (g, (f, r))
  unchanged (Ended ended) never e f g r = subst (λ (o : Option Kept). ChangesOld P R o left a) (sym e) (g, (f, r))
  unchanged (Survey survey) never e f g r = subst (λ (o : Option Kept). ChangesOld P R o left a) (sym e) (g, (f, r))
  unchanged (Tables tables) never e f g r = subst (λ (o : Option Kept). ChangesOld P R o left a) (sym e) (g, (f, r))
  unchanged (Growing growth) never e f g r = subst (λ (o : Option Kept). ChangesOld P R o left a) (sym e) (g, (f, r))
  unchanged (Old tables) never e f g r = absurd (never tables refl)
  unchanged (Job job) never e f g r = subst (λ (o : Option Kept). ChangesOld P R o left a) (sym e) (g, (f, r))
  unchanged (Pages pages) never e f g r = subst (λ (o : Option Kept). ChangesOld P R o left a) (sym e) (g, (f, r))
  unchanged (Looks looks) never e f g r = subst (λ (o : Option Kept). ChangesOld P R o left a) (sym e) (g, (f, r))
  unchanged (Marking marker) never e f g r = subst (λ (o : Option Kept). ChangesOld P R o left a) (sym e) (g, (f, r))
  unchanged (Lane lane) never e f g r = subst (λ (o : Option Kept). ChangesOld P R o left a) (sym e) (g, (f, r))
