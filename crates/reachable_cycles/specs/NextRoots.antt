-- Why the next heap that is marked by what its roots reach is refused.
use Rattle.std.specs.Prelude.{ℕ, ◌*◌, ◌<◌, ◌≤◌, ◌⊎◌, List, length, slice_index}
use Rattle.heap_layout.specs.Limits.{most_words, most_roots}
use Rattle.heap_layout.specs.declared.fault.LayoutFault.{LayoutFault}
use Rattle.heap_layout.specs.declared.fault.LayoutFault.TheVariants.{BadRoot, OutOfMemory, TooLarge}
use Rattle.comp_history.specs.Setup.{Setup, pages}
use Rattle.comp_history.specs.Locks.{Journals}
use Rattle.comp_history.specs.Objects.{LeadsToObject}

-- the next heap has no more words, with 64 for each page, and no more roots than its edition allows
pub record Fits (u : Setup) (roots : List ℕ) : Type 0 where
  pub few_words : 64 * pages u ≤ most_words u.heap.edition
  pub few_roots : length roots ≤ most_roots u.heap.edition

-- root k is the first that is neither null, nor an immediate, nor the start of an object that slid or was made
pub record IsFirstBad (u : Setup) (journals : Journals) (roots : List ℕ) (k : ℕ) : Type 0 where
  pub inside : k < length roots
  pub bad : LeadsToObject u journals (slice_index roots k) → ⊥
  pub others : (j : ℕ) → j < k → LeadsToObject u journals (slice_index roots j)

-- Why the next heap with these roots is refused: it does not fit; if it fits, a root is bad, or memory ran out.
abbrev pub IsRefusedWith : Setup → Journals → List ℕ → LayoutFault → Type 0
IsRefusedWith u journals roots TooLarge = (most_words u.heap.edition < 64 * pages u) ⊎ (most_roots u.heap.edition < length roots)
IsRefusedWith u journals roots (BadRoot k) = Fits u roots × IsFirstBad u journals roots k
IsRefusedWith u journals roots OutOfMemory = Fits u roots
IsRefusedWith u journals roots _ = ⊥

-- why it is refused if the roots stay, of which none is bad
abbrev pub IsRefusedNext : Setup → LayoutFault → Type 0
IsRefusedNext u TooLarge = most_words u.heap.edition < 64 * pages u
IsRefusedNext u OutOfMemory = 64 * pages u ≤ most_words u.heap.edition
IsRefusedNext u _ = ⊥
