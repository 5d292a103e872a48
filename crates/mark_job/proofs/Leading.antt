-- The roots reach what they lead to, and what the references of an object lead to that they reach.
use Rattle.std.proofs.Common.{◌≡◌, ◌≢◌, ℕ, ◌<◌, true, List, Contains, length, get_or, inl, inr, sym, subst, ◌∙◌}
use Rattle.std.proofs.lemmas.Bool.{cases_eq}
use Rattle.std.proofs.lemmas.List.Elements.{Contains-get_or}
use Rattle.heap_layout.specs.Bits.{bit}
use Rattle.heap_layout.specs.Heap.{object_at}
use Rattle.rest_marks.specs.Reached.{LeadInto, by_root, by_reference}
use Rattle.mark_job.specs.Asked.{Asked, IsMetIn}
use Rattle.mark_job.specs.LeadingWords.{LeadIn, LeadsIn}

-- an object that is reached begins at a word
pub met-inside : (asked : Asked) (i : ℕ) → IsMetIn asked i → i < length asked.words
met-inside asked _ (by_root i leads) = leads.inside
met-inside asked _ (by_reference j i reached leads) = leads.inside

pub roots-lead : (asked : Asked) → LeadIn asked asked.roots
roots-lead asked i leads = by_root i leads

pub references-lead : (asked : Asked) (i : ℕ) (from : List ℕ) → IsMetIn asked i → from ≡ (object_at asked.edition asked.words i).references → LeadIn asked from
references-lead asked i from met same j leads = by_reference i j met (subst (λ (xs : List ℕ). LeadInto asked.words xs j) same leads)

-- words that lead to objects which are reached, one by one
pub word-leads : (asked : Asked) (from : List ℕ) (k : ℕ) → LeadIn asked from → k < length from → LeadsIn asked (get_or from k 0)
word-leads asked from k lead lt i inside address = lead i record { inside = inside; address = subst (Contains from) address (Contains-get_or from k 0 lt) }

-- one bit more is set
pub met-more : (asked : Asked) (old new : List ℕ) (i : ℕ) → IsMetIn asked i → ((j : ℕ) → bit old j ≡ true → IsMetIn asked j) → ((j : ℕ) → j ≢ i → bit new j ≡ bit old j)
    → (j : ℕ) → bit new j ≡ true → IsMetIn asked j
met-more asked old new i met before elsewhere j set = elim (cases_eq j i) [
  | inl same ↦ subst (IsMetIn asked) (sym same) met
  | inr other ↦ before j (sym (elsewhere j other) ∙ set)
]
