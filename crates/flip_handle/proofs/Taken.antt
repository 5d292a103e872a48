-- A mutator leaves its crew.
use Rattle.std.proofs.Common.{◌≡◌, Bool, true, false, Result, Ok, Err, IfErr, IfOk, MatchResult, Option, None, Some, is_some, inl, inr, refl, ap, sym, subst, ◌∙◌}
use Rattle.std.proofs.lemmas.Bool.{false≢true}
use Rattle.comp_crew.specs.Benches.{IsTaken}
use Rattle.comp_crew.specs.Members.{number_of_member}
use Rattle.comp_crew.specs.declared.bench.Bench.{Bench}
use Rattle.comp_crew.specs.declared.member.Member.{Member}
use Rattle.handle_base.specs.Answers.{bare, done}
use Rattle.handle_base.specs.Statuses.{not_empty}
use Rattle.flip_handle.specs.Crewing.{IsUnsplit, IsUntaken, Splits, Takes}
use Rattle.handle_base.specs.declared.answer.Answer.{Answer}
use Rattle.flip_handle.specs.declared.crewing.Seated.{Seated}
use Rattle.handle_base.specs.declared.kept.Kept.{Kept}
use Rattle.handle_base.specs.declared.kept.Kept.TheVariants as kept

-- why none leaves a crew that is kept
pub unsplit : (full : Bool) (k : Kept) (bench : Bench) (a : Answer) → k ≡ kept.Crew bench → full ≡ true → a ≡ bare not_empty 1 → IsUnsplit full k a
unsplit full k bench a at is answer = subst (λ (x : Kept). IsUnsplit full x a) (sym at) (inl (is, answer))

pub unseated : (full : Bool) (k : Kept) (bench : Bench) (a : Answer) → k ≡ kept.Crew bench → full ≡ false → IsUntaken bench a → IsUnsplit full k a
unseated full k bench a at is why = subst (λ (x : Kept). IsUnsplit full x a) (sym at) (inr (is, why))

-- one leaves it, or none does
pub splits : (full : Bool) (k : Kept) (before after : Bench) (r : Result Seated Answer) → k ≡ kept.Crew before → full ≡ false → IfOk r (λ (seated : Seated). IsTaken before after (Some seated.member))
    → IfErr r (λ (a : Answer). (after ≡ before) × IsUntaken before a) → MatchResult r (λ (seated : Seated). Splits k (kept.Crew after) seated.member) (λ (a : Answer). (kept.Crew after ≡ k) × IsUnsplit full k a)
splits full k before after (Ok seated) at is taken untaken = (before, after, at, refl, taken)
splits full k before after (Err a) at is taken untaken = (ap (λ (b : Bench). kept.Crew b) untaken.0 ∙ sym at, unseated full k before a at is untaken.1)

-- the same of two handles: an empty one keeps the mutator then
pub left_by : (crew left old now : Option Kept) (k l : Kept) (m : Member) (full : Bool) (a : Answer) → crew ≡ Some k → left ≡ Some l → full ≡ is_some old → full ≡ false → Splits k l m → now ≡ Some (kept.Mutator m)
    → a ≡ done (number_of_member m) → Takes crew left old now a
left_by crew left None now k l m full a at rest is not h seat answer =
    subst (λ (o : Option Kept). Takes o left None now a) (sym (at ∙ ap (λ (x : Kept). Some x) h.2))
    (inl (h.1, m, rest ∙ ap (λ (x : Kept). Some x) h.3, seat, h.4, answer))
left_by crew left (Some t) now k l m full a at rest is not h seat answer = absurd (false≢true (sym not ∙ is))
