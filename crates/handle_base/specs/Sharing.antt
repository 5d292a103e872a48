-- A share more of what a handle keeps.
use Rattle.std.specs.Prelude.{◌≡◌, ◌⊎◌, Bool, IsFalse, IsTrue, Option, None, Some}
use Rattle.handle_base.specs.Answers.{bare, done}
use Rattle.handle_base.specs.HandleKinds.{Asks, Fills}
use Rattle.handle_base.specs.Statuses.{not_empty, out_of_memory}
use Rattle.handle_base.specs.declared.answer.Answer.{Answer}
use Rattle.handle_base.specs.declared.kept.Kept.{Kept}

-- the second handle, which was empty, keeps the same as the first one then, or there is no memory
abbrev pub Shares : {X : Type 0} → (Option Kept → Option X) → Option Kept → Option Kept → Option Kept → Answer → Type 0
Shares find from to new a =
    Asks 0 find (λ x b. Fills 1 (λ now c. ((find now ≡ Some x) × (c ≡ done 0)) ⊎ ((now ≡ None) × (c ≡ bare out_of_memory 0))) (Unit {0}) to new b) (new ≡ to) from a

-- why there is no share for the second handle
abbrev pub IsUnsharedIn : {X : Type 0} → (Option Kept → Option X) → Bool → Option Kept → Answer → Type 0
IsUnsharedIn find full from a =
    Asks 0 find (λ x b. (IsTrue full × (b ≡ bare not_empty 1)) ⊎ (IsFalse full × (b ≡ bare out_of_memory 0))) (Unit {0}) from a
