-- Two handles at once, by what they keep.
use Rattle.std.proofs.Common.{◌≡◌, Option, Some, ap, sym, subst, ◌∙◌}
use Rattle.comp_crew.specs.declared.bench.Bench.{Bench}
use Rattle.comp_crew.specs.declared.member.Member.{Member}
use Rattle.flip_handle.specs.Joining.{Brings, Gives, Joins, Meets}
use Rattle.handle_base.specs.HandleKinds.{crew_in, mutator_in, Asks}
use Rattle.handle_base.specs.declared.answer.Answer.{Answer}
use Rattle.handle_base.specs.declared.kept.Kept.{Kept}
use Rattle.handle_base.specs.declared.kept.Kept.TheVariants as kept

-- what a handle keeps, from what was taken out of it
pub kept_is : (h : Option Kept) (k l : Kept) → h ≡ Some k → k ≡ l → h ≡ Some l
kept_is h k l at is = at ∙ ap (λ (x : Kept). Some x) is

module _ (crew left own rest : Option Kept) (a : Answer) (bench : Bench) (m : Member) where
  -- a crew and a mutator
  pub joined : crew ≡ Some (kept.Crew bench) → own ≡ Some (kept.Mutator m) → Joins bench m crew left own rest a → Gives crew left own rest a
  joined first second h =
      subst (λ (o : Option Kept). Asks 0 crew_in (λ b c. Asks 1 mutator_in (λ n d. Joins b n crew left own rest d) ((left ≡ crew) × (rest ≡ own)) own c) ((left ≡ crew) × (rest ≡ own)) o a) (sym first)
      (subst (λ (o : Option Kept). Asks 1 mutator_in (λ n d. Joins bench n crew left own rest d) ((left ≡ crew) × (rest ≡ own)) o a) (sym second) h)

module _ (first other left rest : Option Kept) (a : Answer) (m o : Member) where
  -- two mutators
  pub brought : first ≡ Some (kept.Mutator m) → other ≡ Some (kept.Mutator o) → Meets m o first left other rest a → Brings first other left rest a
  brought one two h =
      subst (λ (k : Option Kept). Asks 0 mutator_in (λ n c. Asks 1 mutator_in (λ p d. Meets n p first left other rest d) ((left ≡ first) × (rest ≡ other)) other c) ((left ≡ first) × (rest ≡ other)) k a) (sym one)
      (subst (λ (k : Option Kept). Asks 1 mutator_in (λ p d. Meets m p first left other rest d) ((left ≡ first) × (rest ≡ other)) k a) (sym two) h)
