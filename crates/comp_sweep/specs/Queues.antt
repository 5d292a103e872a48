-- The region queues from which workers take regions, and how often each region was taken.
use Rattle.std.specs.Global.{Global}
use Rattle.std.specs.Prelude.{◌≡◌, ℕ, ◌+◌, ◌<◌, ◌≤◌, List, [], length, map}
use mathlib.Core.Option.{some}
use lib.ListN.{get_elem?}
use Rattle.comp_mutator.specs.Lists.{only, times, total, Each}
use Rattle.atomic_blocks.specs.Lent.{RowsId}
use Rattle.crossbeam_deque.specs.Handles.{view, worker_view, worker_deque, stealer_deque}
use Rattle.comp_sweep.specs.Distributed.{AllTaken}
use Rattle.comp_sweep.specs.declared.distributing.Hand.{Hand}
use Rattle.comp_sweep.specs.declared.deques.Own.{Own}
use Rattle.comp_sweep.specs.declared.deques.Way.{Way}
use Rattle.comp_sweep.specs.declared.queues.RegionQueue.{RegionQueue}

-- the identity of a deque
abbrev pub Deque : Type 0
Deque = RowsId × Global

abbrev pub own_deque : Own → Deque
own_deque own = worker_deque own.owner

abbrev pub way_deque : Way → Deque
way_deque way = stealer_deque way.thief

-- what a pass of a deque has put and taken
abbrev pub own_view : Own → Hand
own_view own = worker_view own.owner

abbrev pub way_view : Way → Hand
way_view way = view way.pass

-- The deque is the same, the same regions were put, and the numbers of ways made and come back are the same.
pub record SameOwn (old new : Own) : Type 0 where
  pub deque : own_deque new ≡ own_deque old
  pub put : (own_view new).put ≡ (own_view old).put
  pub out : (own_view new).out ≡ (own_view old).out
  pub back : (own_view new).back ≡ (own_view old).back

-- how often x was taken on these ways
abbrev pub taken_on : ℕ → List Way → ℕ
taken_on x ways = total (λ (way : Way). times x (way_view way).taken) ways

-- how often x was taken with this region queue, from its own deque or on its ways; and with all these region queues
abbrev pub taken : ℕ → RegionQueue → ℕ
taken x queue = times x (own_view queue.own).taken + taken_on x queue.ways.items

abbrev pub taken_in : ℕ → List RegionQueue → ℕ
taken_in x queues = total (taken x) queues

-- A region queue without what was taken: its deque, the regions put into it, the numbers of ways to it that were made
-- and that came back, and the deques to which its own ways lead, each with its number.
pub record Standing (D : Type 0) : Type 0 where
  pub deque : D
  pub put : List ℕ
  pub out : ℕ
  pub back : ℕ
  pub ways : List (ℕ × D)

abbrev pub way_name : Way → ℕ × Deque
way_name way = (way.index, way_deque way)

abbrev pub standing : RegionQueue → Standing Deque
standing queue = record { deque = own_deque queue.own; put = (own_view queue.own).put; out = (own_view queue.own).out; back = (own_view queue.own).back; ways = map way_name queue.ways.items }

abbrev pub standings : List RegionQueue → List (Standing Deque)
standings queues = map standing queues

-- the region queue has no region and no way
pub record IsNew (queue : RegionQueue) : Type 0 where
  pub put : (standing queue).put ≡ []
  pub out : (standing queue).out ≡ 0
  pub back : (standing queue).back ≡ 0
  pub ways : (standing queue).ways ≡ []
  pub taken : (x : ℕ) → taken x queue ≡ 0

-- the deque is the same, and no way to it came back
pub record StillQueue (old new : RegionQueue) : Type 0 where
  pub deque : (standing new).deque ≡ (standing old).deque
  pub back : (standing new).back ≡ (standing old).back

-- a way to the region queue's deque was made
pub record Gives (index : ℕ) (old new : RegionQueue) (way : Way) : Type 0 where
  pub still : StillQueue old new
  pub put : (standing new).put ≡ (standing old).put
  pub out : (standing new).out ≡ (standing old).out + 1
  pub ways : (standing new).ways ≡ (standing old).ways
  pub taken : (x : ℕ) → taken x new ≡ taken x old
  pub index_is : way.index ≡ index
  pub leads : way_deque way ≡ (standing old).deque
  pub fresh : (way_view way).taken ≡ []

-- a way to the region queue's deque came back
pub record HasBack (old new : RegionQueue) (way : Way) : Type 0 where
  pub deque : (standing new).deque ≡ (standing old).deque
  pub put : (standing new).put ≡ (standing old).put
  pub out : (standing new).out ≡ (standing old).out
  pub back : (standing new).back ≡ (standing old).back + 1
  pub ways : (standing new).ways ≡ (standing old).ways
  pub taken : (x : ℕ) → taken x new ≡ taken x old + times x (way_view way).taken

-- the region queues are the same, except for what was taken
abbrev pub SameQueue : RegionQueue → RegionQueue → Type 0
SameQueue old new = standing new ≡ standing old

module _ {D : Type 0} where
  abbrev pub deques : List (Standing D) → List D
  deques queues = map (λ (queue : Standing D). queue.deque) queues

  -- how often x was put into these region queues
  abbrev pub put_in : ℕ → List (Standing D) → ℕ
  put_in x queues = total (λ (queue : Standing D). times x queue.put) queues

  -- the number of these ways that lead to deque j
  abbrev pub ways_to : ℕ → List (ℕ × D) → ℕ
  ways_to j ways = total (λ (way : ℕ × D). only j way.0) ways

  abbrev pub all_ways_to : ℕ → List (Standing D) → ℕ
  all_ways_to j queues = total (λ (queue : Standing D). ways_to j queue.ways) queues

  -- the way leads to the deque that has its number
  abbrev pub LeadsTo : List D → ℕ × D → Type 0
  LeadsTo all way = get_elem? all way.0 ≡ some way.1

-- All ways lead to the deques of these region queues, and none is missing: each way that was made came back, is in a
-- region queue, or is one of the loose ways.
pub record Linked {D : Type 0} (queues : List (Standing D)) (loose : List (ℕ × D)) : Type 0 where
  pub lead : Each queues (λ (queue : Standing D). Each queue.ways (LeadsTo (deques queues)))
  pub loose_lead : Each loose (LeadsTo (deques queues))
  pub whole : (j : ℕ) (queue : Standing D) → get_elem? queues j ≡ some queue → queue.out ≡ queue.back + all_ways_to j queues + ways_to j loose

-- The regions below n were distributed, each once.
pub record AreDistributed {D : Type 0} (n : ℕ) (queues : List (Standing D)) : Type 0 where
  pub once : (x : ℕ) → x < n → put_in x queues ≡ 1
  pub no_other : (x : ℕ) → n ≤ x → put_in x queues ≡ 0
  pub linked : Linked queues []

-- the region queue has no ways, and all ways to it came back
abbrev pub IsAlone : {D : Type 0} → Standing D → Type 0
IsAlone queue = (queue.ways ≡ []) × (queue.out ≡ queue.back)

-- if all ways came back, everything that was put into the region queue's deque was taken
abbrev pub IsOut : RegionQueue → Type 0
IsOut queue = AllTaken (own_view queue.own)

-- The regions below n were taken, each once.
pub record AreTaken (n : ℕ) (queues : List RegionQueue) : Type 0 where
  pub once : (x : ℕ) → x < n → taken_in x queues ≡ 1
  pub no_other : (x : ℕ) → n ≤ x → taken_in x queues ≡ 0

-- Ways were made between the region queues, and nothing was taken.
pub record HasLinked (old new : List RegionQueue) : Type 0 where
  pub count : length new ≡ length old
  pub linked : Linked (standings new) []
  pub put : (x : ℕ) → put_in x (standings new) ≡ put_in x (standings old)
  pub taken : (x : ℕ) → taken_in x new ≡ taken_in x old

-- These ways came back to the region queues, and no way was made.
pub record HasGathered (old new : List RegionQueue) (came : List Way) : Type 0 where
  pub count : length new ≡ length old
  pub linked : Linked (standings new) []
  pub put : (x : ℕ) → put_in x (standings new) ≡ put_in x (standings old)
  pub ways : map (λ (queue : Standing Deque). queue.ways) (standings new) ≡ map (λ (queue : Standing Deque). queue.ways) (standings old)
  pub taken : (x : ℕ) → taken_in x new ≡ taken_in x old + taken_on x came
