-- Where live objects go if some of them stay: each other one behind the one before it. `staying` says which stay, by
-- their indices.
use Rattle.std.specs.Prelude.{◌≡◌, ℕ, ◌+◌, ◌-◌, ◌≤◌, Bool, true, cond, List, [], ◌∷◌}
use Rattle.heap_layout.specs.Heap.{Object}
use Rattle.mark_tables.specs.LiveWords.{size}

-- where these objects start then, if the words up to `next` are taken
abbrev pub places_from : (ℕ → Bool) → ℕ → List Object → List ℕ
places_from staying next [] = []
places_from staying next (object ∷ objects) =
    cond (staying object.index) object.index next ∷ places_from staying (cond (staying object.index) object.index next + size object) objects

-- these objects lie one behind the other, from word `low` on
abbrev pub AreInOrder : ℕ → List Object → Type 0
AreInOrder low [] = Unit {0}
AreInOrder low (object ∷ objects) = (low ≤ object.index) × AreInOrder (object.index + size object) objects

-- A placement of these objects: in their order, one behind the other, from word `low` on, and those that stay are where
-- they were.
abbrev pub IsPlacement : (ℕ → Bool) → ℕ → List Object → List ℕ → Type 0
IsPlacement staying low [] [] = Unit {0}
IsPlacement staying low (object ∷ objects) (place ∷ places) =
    (low ≤ place) × (staying object.index ≡ true → place ≡ object.index) × IsPlacement staying (place + size object) objects places
IsPlacement staying low [] (place ∷ places) = ⊥
IsPlacement staying low (object ∷ objects) [] = ⊥

-- no place of the one list is above that of the other
abbrev pub AreAtMost : List ℕ → List ℕ → Type 0
AreAtMost [] [] = Unit {0}
AreAtMost (one ∷ ones) (other ∷ others) = (one ≤ other) × AreAtMost ones others
AreAtMost [] (other ∷ others) = ⊥
AreAtMost (one ∷ ones) [] = ⊥

-- where the objects are
abbrev pub indices_of : List Object → List ℕ
indices_of [] = []
indices_of (object ∷ objects) = object.index ∷ indices_of objects

-- How many free words there are below each object after the collection: those below the last one at or before it that
-- stays. `live` words of objects are before these, and `gap` free words.
abbrev pub gaps_from : (ℕ → Bool) → ℕ → ℕ → List Object → List ℕ
gaps_from staying live gap [] = []
gaps_from staying live gap (object ∷ objects) =
    cond (staying object.index) (object.index - live) gap ∷ gaps_from staying (live + size object) (cond (staying object.index) (object.index - live) gap) objects

-- they never fall, and begin at `low` or above
abbrev pub AreRising : ℕ → List ℕ → Type 0
AreRising low [] = Unit {0}
AreRising low (one ∷ ones) = (low ≤ one) × AreRising one ones
