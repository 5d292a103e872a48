-- What a state word says of its page.
use Rattle.std.proofs.Common.{◌≡◌, ◌⊎◌, ℕ, ◌%◌, ◌<◌, Some, IsSome, ⊎_elim, ap, refl, arith}
use Rattle.cell_steps.specs.States.{owner, word_of, IsBuilt}
use Rattle.cell_steps.specs.declared.state.CellState.{CellState}
use Rattle.cell_steps.specs.declared.state.CellState.TheVariants.{Empty, Home, BuiltBy, HeldBy}

-- an odd state word says that the page is built
pub built_of_odd : (s : CellState) → word_of s % 2 ≡ 1 → IsBuilt s
built_of_odd Empty odd = omega (arith, odd)
built_of_odd Home odd = tt
built_of_odd (BuiltBy k) odd = omega (arith, odd)
built_of_odd (HeldBy k) odd = tt

-- a state word with the number of a pass is above 1
pub more_of_owned : (s : CellState) → IsSome (owner s) → 1 < word_of s
more_of_owned Empty owned = cc
more_of_owned Home owned = cc
more_of_owned (BuiltBy k) owned = omega arith
more_of_owned (HeldBy k) owned = omega arith

-- some pass builds or holds the page
pub owner_of_busy : (s : CellState) → ((k : ℕ) × (s ≡ BuiltBy k)) ⊎ ((k : ℕ) × (s ≡ HeldBy k)) → (k : ℕ) × (owner s ≡ Some k)
owner_of_busy s is = ⊎_elim (λ built. (built.0, ap owner built.1)) (λ held. (held.0, ap owner held.1)) is

-- two states with one state word are the same
pub same_state : (s t : CellState) → word_of s ≡ word_of t → s ≡ t
same_state Empty Empty same = refl
same_state Empty Home same = absurd (omega (arith, same))
same_state Empty (BuiltBy k) same = absurd (omega (arith, same))
same_state Empty (HeldBy k) same = absurd (omega (arith, same))
same_state Home Empty same = absurd (omega (arith, same))
same_state Home Home same = refl
same_state Home (BuiltBy k) same = absurd (omega (arith, same))
same_state Home (HeldBy k) same = absurd (omega (arith, same))
same_state (BuiltBy j) Empty same = absurd (omega (arith, same))
same_state (BuiltBy j) Home same = absurd (omega (arith, same))
same_state (BuiltBy j) (BuiltBy k) same = ap (λ n. BuiltBy n) (omega (arith, same))
same_state (BuiltBy j) (HeldBy k) same = absurd (omega (arith, same))
same_state (HeldBy j) Empty same = absurd (omega (arith, same))
same_state (HeldBy j) Home same = absurd (omega (arith, same))
same_state (HeldBy j) (BuiltBy k) same = absurd (omega (arith, same))
same_state (HeldBy j) (HeldBy k) same = ap (λ n. HeldBy n) (omega (arith, same))
