-- What a call by a handle does, by what the handle keeps.
use Rattle.std.proofs.Common.{◌≡◌, ℕ, List, Option, Some, refl, sym, subst}
use Rattle.comp_crew.specs.declared.member.Member.{Member}
use Rattle.handle_base.specs.Answers.{bare}
use Rattle.handle_base.specs.Statuses.{wrong_handle}
use Rattle.flip_handle.specs.Calling.{Calls}
use Rattle.handle_base.specs.HandleKinds.{mutator_in, Asks}
use Rattle.flip_handle.specs.Seeing.{CopiesSeen, SeesBy}
use Rattle.handle_base.specs.declared.answer.Answer.{Answer}
use Rattle.handle_base.specs.declared.kept.Kept.{Kept}
use Rattle.handle_base.specs.declared.kept.Kept.TheVariants.{Nothing, Heap, Plan, Crew, Mutator, Ended, Survey, Tables, Growing, Old, Job, Pages, Looks, Marking, Lane}

module _ (Q : Member → Answer → Type 0) (R : Type 0) (old : Option Kept) (a : Answer) where
  -- it has a mutator
  pub asked : (m : Member) (b : Answer) → old ≡ Some (Mutator m) → a ≡ b → Q m b → Asks 0 mutator_in Q R old a
  asked m b e g h = subst (λ (o : Option Kept). Asks 0 mutator_in Q R o a) (sym e) (subst (λ (x : Answer). Q m x) (sym g) h)

  -- it keeps something else
  pub not_asked : (k : Kept) → ((m : Member) → k ≡ Mutator m → ⊥) → old ≡ Some k → a ≡ bare wrong_handle 0 → R → Asks 0 mutator_in Q R old a
  not_asked Nothing never e g r = subst (λ (o : Option Kept). Asks 0 mutator_in Q R o a) (sym e) (g, r)
  not_asked (Heap heap) never e g r = subst (λ (o : Option Kept). Asks 0 mutator_in Q R o a) (sym e) (g, r)
  not_asked (Plan plan) never e g r = subst (λ (o : Option Kept). Asks 0 mutator_in Q R o a) (sym e) (g, r)
  not_asked (Crew bench) never e g r = subst (λ (o : Option Kept). Asks 0 mutator_in Q R o a) (sym e) (g, r)
  not_asked (Mutator m) never e g r = absurd (never m refl)
  not_asked (Ended ended) never e g r = subst (λ (o : Option Kept). Asks 0 mutator_in Q R o a) (sym e) (g, r)
  not_asked (Survey survey) never e g r = subst (λ (o : Option Kept). Asks 0 mutator_in Q R o a) (sym e) (g, r)
  not_asked (Tables tables) never e g r = subst (λ (o : Option Kept). Asks 0 mutator_in Q R o a) (sym e) (g, r)
  not_asked (Growing growth) never e g r = subst (λ (o : Option Kept). Asks 0 mutator_in Q R o a) (sym e) (g, r)
  not_asked (Old tables) never e g r = subst (λ (o : Option Kept). Asks 0 mutator_in Q R o a) (sym e) (g, r)
  not_asked (Job job) never e g r = subst (λ (o : Option Kept). Asks 0 mutator_in Q R o a) (sym e) (g, r)
  not_asked (Pages pages) never e g r = subst (λ (o : Option Kept). Asks 0 mutator_in Q R o a) (sym e) (g, r)
  not_asked (Looks looks) never e g r = subst (λ (o : Option Kept). Asks 0 mutator_in Q R o a) (sym e) (g, r)
  not_asked (Marking marker) never e g r = subst (λ (o : Option Kept). Asks 0 mutator_in Q R o a) (sym e) (g, r)
  not_asked (Lane lane) never e g r = subst (λ (o : Option Kept). Asks 0 mutator_in Q R o a) (sym e) (g, r)

module _ (P : Member → Member → Answer → Type 0) (old new : Option Kept) (a : Answer) where
  pub called : (m n : Member) (b : Answer) → old ≡ Some (Mutator m) → new ≡ Some (Mutator n) → a ≡ b → P m n b → Calls P old new a
  called m n b e f g h = asked (λ x y. (z : Member) × (new ≡ Some (Mutator z)) × P x z y) (new ≡ old) old a m b e g (n, f, h)

  pub not_called : (k : Kept) → ((m : Member) → k ≡ Mutator m → ⊥) → old ≡ Some k → new ≡ Some k → a ≡ bare wrong_handle 0 → Calls P old new a
  not_called k never e f g = not_asked (λ x y. (z : Member) × (new ≡ Some (Mutator z)) × P x z y) (new ≡ old) old a k never e g (subst (λ (o : Option Kept). new ≡ o) (sym e) f)

module _ (p : ℕ) (before after : List ℕ) (old new : Option Kept) (a : Answer) where
  pub saw : (m n : Member) (b : Answer) → old ≡ Some (Mutator m) → new ≡ Some (Mutator n) → a ≡ b → CopiesSeen p before after m n b → SeesBy p before after old new a
  saw m n b e f g h = asked (λ x y. (z : Member) × (new ≡ Some (Mutator z)) × CopiesSeen p before after x z y) ((new ≡ old) × (after ≡ before)) old a m b e g (n, f, h)

  pub not_seen : (k : Kept) → ((m : Member) → k ≡ Mutator m → ⊥) → old ≡ Some k → new ≡ Some k → a ≡ bare wrong_handle 0 → after ≡ before → SeesBy p before after old new a
  not_seen k never e f g same =
      not_asked (λ x y. (z : Member) × (new ≡ Some (Mutator z)) × CopiesSeen p before after x z y) ((new ≡ old) × (after ≡ before)) old a k never e g (subst (λ (o : Option Kept). new ≡ o) (sym e) f, same)
