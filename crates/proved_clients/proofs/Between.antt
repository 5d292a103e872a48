-- What the second of two mutators has seen between two meetings with the first.
use Rattle.std.proofs.Common.{◌≡◌, ℕ, sym, ap, ◌∙◌, arith}
use mathlib.Core.Logic.{dite}
use native.Mathlib.Decide.{ℕ_discrete}
use Rattle.page_cells.specs.Setup.{Setup}
use Rattle.page_cells.specs.Lists.{by, on, StartsWith}
use Rattle.page_cells.specs.Passes.{number_of, seen, did}
use Rattle.page_cells.specs.Pass.{Pass}
use Rattle.page_cells.proofs.Joined.{longer_whole}
use Rattle.page_cells.specs.CellViews.{Remembers}
use Rattle.page_cells.specs.Calls.{Grows, Meets}
use Rattle.page_cells.proofs.Growing.{begins_then}
use Rattle.page_cells.proofs.Meetings.{nothing_new, between}

-- what a pass remembers about all pages
abbrev pub RemembersAll : Setup → Pass → Type 0
RemembersAll u pass = (p : ℕ) → Remembers u u.mutators pass p (seen pass p)

-- Two passes, a and b, met; b made a call that wrote nothing; and they met again.
pub record MeetTwice (u : Setup) (a met_a last_a b met_b read last_b : Pass) : Type 0 where
  pub two : u.mutators ≡ 2
  pub first : number_of a ≡ 0
  pub second : number_of b ≡ 1
  pub meets_a : Meets b a met_a
  pub meets_b : Meets a b met_b
  pub same : (p : ℕ) → seen met_a p ≡ seen met_b p
  pub remembers_a : RemembersAll u met_a
  pub remembers_b : RemembersAll u met_b
  pub grows : Grows met_b read
  pub wrote_none : did read ≡ did met_b
  pub again_a : Meets read met_a last_a
  pub again_b : Meets met_a read last_b
  pub same_again : (p : ℕ) → seen last_a p ≡ seen last_b p
  pub last_remembers_a : RemembersAll u last_a
  pub last_remembers_b : RemembersAll u last_b

module _ (u : Setup) (a met_a last_a b met_b read last_b : Pass) (s : MeetTwice u a met_a last_a b met_b read last_b) where
  -- in the end no writer has more entries in what they have seen
  same_by : (p k : ℕ) → by k (seen last_b p) ≡ by k (seen met_b p)
  same_by p k = dite (ℕ_discrete k 0)
      (λ zero_.
      let later : k ≡ number_of met_a = omega (arith, s.meets_a.grows.number, s.first) in
      let before : k ≡ number_of a = omega (arith, s.first) in
      ap (λ n. by n (seen last_b p)) later ∙ s.again_b.own p ∙ ap (on p) s.meets_a.did ∙ sym (s.meets_b.own p) ∙ ap (λ n. by n (seen met_b p)) (sym before))
      (λ more. dite (ℕ_discrete k 1)
      (λ one.
      let later : k ≡ number_of last_b = omega (arith, s.again_b.grows.number, s.grows.number, s.meets_b.grows.number, s.second) in
      let before : k ≡ number_of met_b = omega (arith, s.meets_b.grows.number, s.second) in
      ap (λ n. by n (seen last_b p)) later ∙ (s.last_remembers_b p).own ∙ ap (on p) (s.again_b.did ∙ s.wrote_none) ∙ sym (s.remembers_b p).own ∙ ap (λ n. by n (seen met_b p)) (sym before))
      (λ others.
      let first : number_of met_a ≡ 0 = s.meets_a.grows.number ∙ s.first in
      let last : number_of last_a ≡ 0 = s.again_a.grows.number ∙ first in
      ap (by k) (sym (s.same_again p)) ∙ (s.last_remembers_a p).strangers last k (omega (arith, s.two)) ∙ sym ((s.remembers_a p).strangers first k (omega (arith, s.two))) ∙ ap (by k) (s.same p)))

  -- the call saw nothing new
  saw_nothing : (p : ℕ) → seen read p ≡ seen met_b p
  saw_nothing p =
      let end = begins_then (seen met_b p) (seen read p) (seen last_b p) (s.grows.seen p) (s.again_b.grows.seen p) in
      between (seen met_b p) (seen read p) (seen last_b p) (s.grows.seen p) (s.again_b.grows.seen p) (nothing_new (seen met_b p) (seen last_b p) end (same_by p))

  -- if the first had seen all that the second had, the call saw what the first had seen when they met
  pub sees_what_it_met : ((p : ℕ) → StartsWith (seen a p) (seen b p)) → (p : ℕ) → seen read p ≡ seen a p
  sees_what_it_met all p = saw_nothing p ∙ s.meets_b.seen p ∙ longer_whole (seen b p) (seen a p) (all p)
