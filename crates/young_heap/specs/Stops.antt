-- Why marking stopped.
use Rattle.std.specs.Prelude.{◌≡◌, ℕ, ◌<◌, true, false, List, length, slice_index}
use Rattle.heap_layout.specs.declared.edition.Edition.{Edition}
use Rattle.reachability.specs.Queue.{has}
use Rattle.young_heap.specs.Young.{is_led}
use Rattle.young_heap.specs.declared.meeting.Stop.{Stop}
use Rattle.young_heap.specs.declared.meeting.Stop.TheVariants.{Memory, Stray}

-- memory ran out only because the queue had room for fewer objects than there are words
abbrev pub IsShort : ℕ → ℕ → Stop → Type 0
IsShort count capacity Memory = capacity < count
IsShort count capacity (Stray k) = Unit {0}

-- it stopped at the word with number k, which is astray
abbrev pub IsStopAt : Edition → List ℕ → ℕ → ℕ → ℕ → ℕ → Stop → Type 0
IsStopAt edition starts old count word k Memory = Unit {0}
IsStopAt edition starts old count word k (Stray n) = (n ≡ k) × (is_led edition starts old count word ≡ false)

-- it stopped at one of these words
abbrev pub IsStopIn : Edition → List ℕ → ℕ → ℕ → List ℕ → Stop → Type 0
IsStopIn edition starts old count words Memory = Unit {0}
IsStopIn edition starts old count words (Stray n) =
    (n < length words) × (is_led edition starts old count (slice_index words n) ≡ false)

-- it stopped at one of the words at these indices
abbrev pub IsStopOf : Edition → List ℕ → ℕ → List ℕ → List ℕ → Stop → Type 0
IsStopOf edition starts old words fields Memory = Unit {0}
IsStopOf edition starts old words fields (Stray n) =
    (has fields n ≡ true) × (is_led edition starts old (length words) (slice_index words n) ≡ false)
