-- Wild weak words: a slide makes them null.
use Rattle.std.specs.Prelude.{ℕ, ◌+◌, ◌&&◌, Bool, not, nat_le, nat_lt, cond, List, length, map, slice_index}
use Rattle.std.specs.List.{range_with_len}
use Rattle.heap_layout.specs.Header.{refs_of, weak_of}
use Rattle.heap_layout.specs.Heap.{header_at}
use Rattle.rest_marks.specs.Places.{owner, Found}
use Rattle.rest_marks.specs.Reached.{is_within}

-- whether word j is a weak word of the object at index m, and wild: neither an immediate nor null nor the address of
-- one of the words
abbrev pub is_wild_of : Found → List ℕ → ℕ → ℕ → Bool
is_wild_of found words m j =
    nat_lt (m + refs_of (header_at found.edition words m)) j
    && (nat_le j (m + refs_of (header_at found.edition words m) + weak_of (header_at found.edition words m))
    && not (is_within found.edition (length words) (slice_index words j)))

-- whether it is so of the object to which it belongs
abbrev pub is_wild : Found → List ℕ → ℕ → Bool
is_wild found words j = is_wild_of found words (owner found.marks j) j

-- the words with null in place of wild weak words
abbrev pub tidied : Found → List ℕ → List ℕ
tidied found words = map (λ j. cond (is_wild found words j) 0 (slice_index words j)) (range_with_len 0 (length words))
