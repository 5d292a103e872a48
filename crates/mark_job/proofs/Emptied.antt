-- The slots of a closed table are emptied one by one.
use Rattle.std.proofs.Common.{◌≡◌, ℕ, ◌+◌, ◌<◌, Bool, false, List, get_or, set, ap, ◌∙◌, arith, get_or-set_other, get_or-set_same, length}
use Rattle.std.specs.Mem.Slots.{slots_filled, slots_items, slots_len, slots_counts}
use Rattle.std.specs.Mem.Slots.Ownership.{Filled}
use mathlib.Core.Logic.{dite}
use native.Mathlib.Decide.{ℕ_discrete}
use Rattle.atomic_table.specs.declared.owned.Closed.{Closed}

-- The first p slots are empty, and the others hold what they held.
pub record AreTaken {A : Type 0} (before now : Closed (List ℕ) A) (p : ℕ) : Type 0 where
  pub long : slots_len now.slots ≡ slots_len before.slots
  pub filled : Filled (slots_filled now.slots) p (slots_len now.slots)
  pub empty : (k : ℕ) → k < p → get_or (slots_filled now.slots) k false ≡ false
  pub items : slots_items now.slots ≡ slots_items before.slots
  pub words : now.words ≡ before.words

-- one slot more is emptied
pub one-taken : {A : Type 0} (before now after : Closed (List ℕ) A) (p : ℕ) → AreTaken before now p → p < slots_len now.slots
    → slots_items after.slots ≡ slots_items now.slots → slots_filled after.slots ≡ set (slots_filled now.slots) p false → slots_len after.slots ≡ slots_len now.slots
    → after.words ≡ now.words → AreTaken before after (p + 1)
one-taken before now after p h inside items filled long words =
    let counts = (slots_counts now.slots).1 in
    record {
      long = long ∙ h.long;
      filled = λ k le lt. ap (λ (l : List Bool). get_or l k false) filled ∙ get_or-set_other (slots_filled now.slots) p k false false (λ z. omega arith) ∙ h.filled k (omega arith) (omega arith);
      empty = λ k lt. ap (λ (l : List Bool). get_or l k false) filled ∙ dite (ℕ_discrete k p)
          (λ e. let within : p < length (slots_filled now.slots) = omega arith in ap (λ n. get_or (set (slots_filled now.slots) p false) n false) e ∙ get_or-set_same (slots_filled now.slots) p false false within)
          (λ ne. get_or-set_other (slots_filled now.slots) p k false false ne ∙ h.empty k (omega arith));
      items = items ∙ h.items;
      words = words ∙ h.words;
    }
