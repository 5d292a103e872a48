-- The queue of the objects that were met.
use Rattle.std.specs.Prelude.{◌≡◌, ℕ, ◌-◌, ◌^◌, ◌==◌, ◌&&◌, Bool, not, nat_le, cond, List, [], ◌∷◌, ◌++◌, filter, fold, map, Option, Some, None, Result, Ok, Err, IsOk}
use Rattle.std.specs.List.{list_any, range_with_len}
use Rattle.std.specs.Global.{Vec}
use Rattle.heap_layout.specs.Bits.{bit}
use Rattle.heap_layout.specs.declared.edition.Edition.{Edition}
use Rattle.heap_layout.specs.Heap.{from_address, object_at}

-- whether the queue has the object at index i
abbrev pub has : List ℕ → ℕ → Bool
has queue i = list_any (λ j. i == j) queue

-- whether a word is the address of an object; `row` says at which indices objects start
abbrev pub is_address : (ℕ → Bool) → ℕ → Bool
is_address row word = nat_le (2 ^ 32) word && row (word - 2 ^ 32)

-- the index of the object whose address a word is, if `row` has it
abbrev pub object_of : (ℕ → Bool) → ℕ → Option ℕ
object_of row word = cond (is_address row word) (Some (word - 2 ^ 32)) None

-- the object to which a word leads, if it leads to one that was not met
abbrev pub unmet_by : (ℕ → Bool) → (ℕ → Bool) → ℕ → Option ℕ
unmet_by row met word = cond (is_address row word && not (met (word - 2 ^ 32))) (Some (word - 2 ^ 32)) None

-- the queue with one more object at its end, if there is one more
abbrev pub extended : List ℕ → Option ℕ → List ℕ
extended queue None = queue
extended queue (Some i) = queue ++ i ∷ []

-- the queue after a word was looked at
abbrev pub after_word : (ℕ → Bool) → List ℕ → ℕ → List ℕ
after_word row queue word = extended queue (unmet_by row (has queue) word)

-- the bits that are set are those of the objects of the row that the queue has not
abbrev pub AreUnmet : List ℕ → List ℕ → List ℕ → Type 0
AreUnmet row queue unmet = (i : ℕ) → bit unmet i ≡ (bit row i && not (has queue i))

-- whether the object at index i was met: it is in the row, and no more among those that were not met
abbrev pub is_met : List ℕ → List ℕ → ℕ → Bool
is_met row unmet i = bit row i && not (bit unmet i)

-- the indices below n of the objects that were met, rising
abbrev pub met_below : List ℕ → List ℕ → ℕ → List ℕ
met_below row unmet n = filter (is_met row unmet) (range_with_len 0 n)

-- the queue after the references of an object were looked at
abbrev pub after_object : Edition → List ℕ → (ℕ → Bool) → List ℕ → ℕ → List ℕ
after_object edition words row queue i = fold (after_word row) queue (object_at edition words i).references

-- the list with the object to which a word leads at its end, if it leads to one of the row
abbrev pub after_found : (ℕ → Bool) → List ℕ → ℕ → List ℕ
after_found row found word = extended found (object_of row word)

-- the list with the objects to which the references of an object lead at its end
abbrev pub found_more : Edition → List ℕ → (ℕ → Bool) → List ℕ → ℕ → List ℕ
found_more edition words row found i = fold (after_found row) found (object_at edition words i).references

-- what a thread found, if it had the memory for it
abbrev pub found_items : {E : Type 0} → Result (Vec ℕ) E → List ℕ
found_items (Ok found) = found.items
found_items (Err _) = []

-- the queue after the objects that a thread found were looked at
abbrev pub after_part : {E : Type 0} → (ℕ → Bool) → List ℕ → Result (Vec ℕ) E → List ℕ
after_part row queue part = fold (after_word row) queue (map from_address (found_items part))

-- a thread had the memory for what it found
abbrev pub IsFound : {E : Type 0} → Result (Vec ℕ) E → Type 0
IsFound part = IsOk part
