-- Regions in a deque: it holds each region as many times as the region was put and not taken.
use Rattle.std.specs.Prelude.{◌≡◌, ℕ, ◌+◌, ◌<◌, List, [], ◌++◌}
use mathlib.Core.Option.{some}
use lib.ListN.{get_elem?}
use Rattle.comp_mutator.specs.Lists.{times, total}
use Rattle.comp_sweep.specs.declared.distributing.Hand.{Hand}

abbrev pub hand : ℕ → ℕ → ℕ → List ℕ → List ℕ → Hand
hand out back way put taken = record { out = out; back = back; way = way; put = put; taken = taken }

-- A pass other than the owner's: it made no way and put nothing, and it has taken nothing unless it is a way.
pub record IsGuest (v : Hand) : Type 0 where
  pub out : v.out ≡ 0
  pub back : v.back ≡ 0
  pub put : v.put ≡ []
  pub idle : v.way ≡ 0 → v.taken ≡ []

-- The rule. The owner's pass has port 0.
pub record Distributed (items : List ℕ) (views : List Hand) : Type 0 where
  -- each way that was made came back, or is there
  pub ways : total (λ (v : Hand). v.out) views ≡ total (λ (v : Hand). v.back) views + total (λ (v : Hand). v.way) views
  -- each region that was put was taken, or is there
  pub same : (q : ℕ) → total (λ (v : Hand). times q v.put) views ≡ total (λ (v : Hand). times q v.taken) views + times q items
  pub guests : (port : ℕ) (v : Hand) → get_elem? views port ≡ some v → 0 < port → IsGuest v

-- if all ways came back, everything that was put was taken
abbrev pub AllTaken : Hand → Type 0
AllTaken v = v.out ≡ v.back → (q : ℕ) → times q v.put ≡ times q v.taken

abbrev pub takes : Hand → List ℕ → Hand → Type 0
takes v xs w = w ≡ hand v.out v.back v.way v.put (v.taken ++ xs)

abbrev pub puts : Hand → List ℕ → Hand → Type 0
puts v xs w = w ≡ hand v.out v.back v.way (v.put ++ xs) v.taken
