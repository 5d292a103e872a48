-- What callers know of a flipped heap: its mutators are all mutators of its space, and it has as many roots as the
-- heap.
use Rattle.std.proofs.Common.{◌≡◌, ℕ, List, [], length, map, Some, inl, sym, ap, ◌∙◌}
use Rattle.std.proofs.lemmas.List.{length-map}
use Rattle.heap_layout.specs.Heap.{Heap, live}
use Rattle.comp_mutator.specs.Sliding.{forward_value}
use Rattle.comp_mutator.specs.Builder.{Ghosts}
use Rattle.comp_mutator.specs.Steps.{Steps}
use Rattle.comp_mutator.specs.CellViews.{steps_of, AreNew}
use Rattle.comp_mutator.proofs.Rows.{at_map}
use Rattle.comp_mutator.specs.Forwarded.{AreForwarded}
use Rattle.comp_mutator.specs.Mutators.{cells_of, pass_of, setup_of, AreMutatorsOf}
use Rattle.comp_mutator.specs.declared.mutator.Mutator.{Mutator}
use Rattle.comp_mutator.specs.declared.space.Space.{Space}
use Rattle.comp_trace.specs.LineBuilds.{HaveBuilt}
use Rattle.comp_trace.specs.WrittenEntries.{DidNothingYet}
use Rattle.comp_trace.specs.AllMutators.{AreAll}

pub roots_count : (heap : Heap) (roots : List ℕ) → AreForwarded heap roots → length roots ≡ length heap.roots
roots_count heap roots h = sym (length-map roots (λ (address : ℕ). Some address)) ∙ ap length h ∙ length-map heap.roots (forward_value heap.edition (live heap))

pub all_of : {L : Type 0} {B : Type 0} {g : Ghosts B} (space : Space L B g) (n : ℕ) (mutators : List (Mutator L)) → AreMutatorsOf space mutators
    → AreNew (steps_of (cells_of space)) n (map pass_of mutators) → (setup_of space).mutators ≡ n → AreAll space mutators
all_of space n mutators of new whole = record {
  of = of;
  count = sym (length-map mutators pass_of) ∙ new.count ∙ sym whole;
  numbers = λ k m at. (new.new k (pass_of m) (at_map pass_of mutators k m at)).number;
}

-- new mutators have written nothing
pub none_done : {L : Type 0} (table : Steps) (n : ℕ) (mutators : List (Mutator L)) → AreNew table n (map pass_of mutators) → DidNothingYet mutators
none_done table n mutators new k m at = (new.new k (pass_of m) (at_map pass_of mutators k m at)).did

-- nor have they built anything
pub none_built : {L : Type 0} (table : Steps) (n : ℕ) (mutators : List (Mutator L)) → AreNew table n (map pass_of mutators) → HaveBuilt mutators []
none_built table n mutators new = inl (record { own = λ k m at. (new.new k (pass_of m) (at_map pass_of mutators k m at)).builds; known = λ p there. cc })
