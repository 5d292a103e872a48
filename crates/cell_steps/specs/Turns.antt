-- Turns. A pass makes a turn if it takes a page, to build or to hold it, and another one if it leaves the page. So the
-- number of its turns is even while it has no page. What passes know of turns is true. A pass that knows of all turns
-- that were made finds the state word that it last found or left as it was.
use Rattle.std.specs.Prelude.{◌≡◌, ℕ, ◌+◌, ◌%◌, ◌<◌, ◌≤◌, List, ◌∷◌, slice_index}
use mathlib.Core.Option as maybe
use lib.ListN.{get_elem?}
use Rattle.cell_steps.specs.Setup.{Setup, pages}
use Rattle.cell_steps.specs.Lists.{look, Each}
use Rattle.cell_steps.specs.declared.view.View.{View}

-- how many turns the pass made
abbrev pub own_turns : View → ℕ
own_turns v = look 0 v.turns v.known.port

-- the pass with this port made at least n turns
abbrev pub MadeTurns : List View → ℕ → ℕ → Type 0
MadeTurns views port n = (j : ℕ) × (w : View) × (get_elem? views j ≡ maybe.some w) × (w.known.port ≡ port) × (n ≤ own_turns w)

-- all of these turns were made
abbrev pub AreMade : List View → List (ℕ × ℕ) → Type 0
AreMade views turns = (port : ℕ) → 0 < port → 0 < look 0 turns port → MadeTurns views port (look 0 turns port)

-- these are all turns that were made
abbrev pub HasAllTurns : List View → List (ℕ × ℕ) → Type 0
HasAllTurns views turns = Each views (λ w. 0 < w.known.port → own_turns w ≤ look 0 turns w.known.port)

-- the state word that the pass found or left last was n, on page p
abbrev pub IsNewest : View → ℕ → ℕ → Type 0
IsNewest v p n = (before : List (ℕ × ℕ)) × (v.last ≡ (p, n) ∷ before)

-- What holds for one view.
pub record Counts (u : Setup) (words : List ℕ) (views : List View) (v : View) : Type 0 where
  -- the turns of which it knows were made, and so were those of which it heard
  pub made : AreMade views v.turns
  pub told : AreMade views v.told
  -- a pass that has no page made an even number of turns, and one that has a page an odd number
  pub rests : 0 < v.known.port → v.at ≡ 0 → own_turns v % 2 ≡ 0
  pub moves : 0 < v.known.port → (p : ℕ) → v.at ≡ p + 1 → own_turns v % 2 ≡ 1
  -- if it knows of all turns, the state word that it found or left last is as it was
  pub finds : 0 < v.known.port → HasAllTurns views v.turns → (p n : ℕ) → IsNewest v p n → p < pages u → slice_index words p ≡ n

-- The turns of all passes.
pub record Turns (u : Setup) (words : List ℕ) (views : List View) : Type 0 where
  -- it holds for each view
  pub counts : Each views (Counts u words views)
