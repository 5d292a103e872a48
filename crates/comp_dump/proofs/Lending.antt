-- The pages of a finished heap, one by one: they fit their types.
use Rattle.std.proofs.Common.{ℕ, ◌<◌, ◌≤◌, List, length, map, All, None, subst, arith}
use Rattle.std.proofs.lemmas.List.{get_or_default}
use Rattle.std.proofs.lemmas.List.Elements.{All-map}
use Rattle.cell_steps.specs.View.{Slot}
use Rattle.cell_steps.specs.Closing.{page_at}
use Rattle.comp_dump.specs.Lent.{record_of, IsTypedRecord}

-- all pages do if each does
pub all_typed : (slots : List Slot) (p : ℕ) → length slots ≤ p → ((k : ℕ) → k < p → IsTypedRecord (record_of (page_at slots k))) → All IsTypedRecord (map record_of slots)
all_typed slots p le each =
    All-map IsTypedRecord record_of slots (λ k d lt. subst (λ (slot : Slot). IsTypedRecord (record_of slot)) (get_or_default slots k None d lt) (each k (omega (arith, lt, le))))
