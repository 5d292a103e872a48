-- An example with three objects, the first and the last of them marked. In the first cycle one mutator makes an object
-- and stores it in the last of the three; then these two are marked. In the second cycle the mutator stores null there,
-- and only that object is marked. The first cycle can also end with another root.
use Rattle.std.specs.Prelude.{ℕ, zero, suc, List, [], ◌∷◌, map, Some, None}
use Rattle.heap_layout.specs.Header.{header_word}
use Rattle.heap_layout.specs.declared.kind.Kind.TheVariants.{Header, Reference}
use Rattle.comp_history.specs.Locks.{Journals}
use Rattle.comp_history.specs.Drawn.{entry, t, three_objects}
use Rattle.comp_cycles.specs.Cycles.{Cycle, heap_after}
use Rattle.comp_cycles.specs.Stable.{StableHeap}

-- the journals of the first cycle
abbrev pub drawn_journals : Journals
drawn_journals zero = entry 1 0 Reference 3 (t 64) ∷ []
drawn_journals (suc zero) = entry 0 0 Header 0 (header_word 0 0 9) ∷ []
drawn_journals (suc (suc p)) = []

-- the first cycle, with these marks at the end
abbrev pub drawn_cycle : List ℕ → Cycle
drawn_cycle marks = record {
  setup = record { heap = three_objects; compacted = 1; fresh = 2; mutators = 1 };
  journals = drawn_journals;
  roots = t 2 ∷ [];
  new_roots = None;
  marks = marks;
}

-- The first cycle, if at its end another root is handed in, which leads to the new object: a register of the mutator.
-- Then only that object is marked.
abbrev pub rooted_cycle : Cycle
rooted_cycle = record {
  setup = record { heap = three_objects; compacted = 1; fresh = 2; mutators = 1 };
  journals = drawn_journals;
  roots = t 2 ∷ [];
  new_roots = Some (t 64 ∷ []);
  marks = 64 ∷ [];
}

-- the journals of the second cycle
abbrev pub second_journals : Journals
second_journals zero = entry 0 0 Reference 1 0 ∷ []
second_journals (suc p) = []

-- the second cycle
abbrev pub second_cycle : Cycle
second_cycle = record {
  setup = record { heap = heap_after (drawn_cycle (2 ∷ 64 ∷ [])); compacted = 1; fresh = 2; mutators = 1 };
  journals = second_journals;
  roots = t 0 ∷ [];
  new_roots = None;
  marks = 0 ∷ [];
}

-- both cycles
abbrev pub drawn_cycles : List Cycle
drawn_cycles = drawn_cycle (2 ∷ 64 ∷ []) ∷ second_cycle ∷ []

-- the words of the first three objects
abbrev pub words_of_three : StableHeap → List (List ℕ)
words_of_three stable = map stable.words (1 ∷ 2 ∷ 3 ∷ [])
