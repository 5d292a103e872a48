-- What the calls of a desk answer.
use Rattle.std.specs.Prelude.{◌≡◌, ℕ, ◌<◌, ◌≤◌}
use Rattle.first_touch.specs.Asked.{IsPageFault}
use Rattle.first_touch.specs.Seen.{Desked, page_id, IsSeenBusy, IsPutBack}
use Rattle.first_touch.specs.declared.desk.NotBuilt.{NotBuilt}
use Rattle.first_touch.specs.declared.desk.NotBuilt.TheVariants as refusal
use Rattle.first_touch.specs.declared.desk.Refused.{Refused}

-- page k was refused for this reason, and put back
pub record IsRefused (desk : Desked) (k : ℕ) (refused : Refused) : Type 0 where
  pub fault : IsPageFault desk.asked k refused.fault
  pub back : IsPutBack desk.id k refused.sight

-- why page k was not built by a call
abbrev pub IsNotBuilt : Desked → ℕ → NotBuilt → Type 0
IsNotBuilt desk k refusal.NoSuchPage = desk.pages ≤ k
IsNotBuilt desk k (refusal.Home home) = (k < desk.pages) × (home ≡ page_id desk.id k)
IsNotBuilt desk k (refusal.Busy sight) = (k < desk.pages) × IsSeenBusy desk.id k sight
IsNotBuilt desk k (refusal.Refused refused) = (k < desk.pages) × IsRefused desk k refused
