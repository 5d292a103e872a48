-- What several threads find is reached.
use Rattle.std.proofs.Common.{◌≡◌, ◌≢◌, ℕ, ◌<◌, false, List, [], ◌∷◌, ◌++◌, All, Contains, length, get_or, inl, inr, sym, subst, ◌∙◌}
use Rattle.std.proofs.lemmas.Bool.{both_ways, cases_eq}
use Rattle.std.proofs.lemmas.List.{get_or_default}
use Rattle.std.proofs.lemmas.List.Elements.{All-push, All-nil}
use Rattle.heap_layout.specs.declared.edition.Edition.{Edition}
use Rattle.heap_layout.specs.Bits.{bit}
use Rattle.heap_layout.specs.Heap.{from_address, object_at}
use Rattle.reachability.proofs.Queues.{has-at}
use Rattle.reachability.proofs.Rising.{contains-had}
use Rattle.rest_marks.specs.Reached.{LeadInto, IsReachedFrom, by_root, by_reference}
use Rattle.rest_marks.specs.Rounds.{AreReaching, IsReachedBy, LeadToReached}

-- a word that is the address of an object leads there
pub led-at : (words from : List ℕ) (k i d : ℕ) → k < length from → i < length words → get_or from k d ≡ from_address i → LeadInto words from i
led-at words from k i d lt inside address = record {
  inside = inside;
  address = subst (Contains from) (get_or_default from k 0 d lt ∙ address) (contains-had from (get_or from k 0) (has-at from k lt));
}

-- the references of an object that is reached lead to objects that are reached
pub references-lead : (edition : Edition) (words roots references : List ℕ) (i : ℕ) → IsReachedFrom edition words roots i → references ≡ (object_at edition words i).references
    → LeadToReached edition words roots references
references-lead edition words roots references i reached same j leads = by_reference i j reached (subst (λ (from : List ℕ). LeadInto words from j) same leads)

-- so do the roots
pub roots-lead : (edition : Edition) (words roots : List ℕ) → LeadToReached edition words roots roots
roots-lead edition words roots j leads = by_root j leads

-- at first nothing was met
pub reaching-none : (edition : Edition) (words roots heads : List ℕ) → ((i : ℕ) → bit heads i ≡ false) → AreReaching edition words roots [] heads
reaching-none edition words roots heads none = record {
  queued = All-nil (IsReachedFrom edition words roots);
  marked = λ i set. absurd (both_ways (bit heads i) (none i) set);
}

-- then one more
pub reaching-more : (edition : Edition) (words roots queue old new : List ℕ) (i : ℕ) → AreReaching edition words roots queue old → IsReachedFrom edition words roots i
    → ((j : ℕ) → j ≢ i → bit new j ≡ bit old j) → AreReaching edition words roots (queue ++ i ∷ []) new
reaching-more edition words roots queue old new i are reached elsewhere = record {
  queued = All-push (IsReachedFrom edition words roots) queue i are.queued reached;
  marked = λ j set. elim (cases_eq j i) [
    | inl same ↦ subst (IsReachedFrom edition words roots) (sym same) reached
    | inr other ↦ are.marked j (sym (elsewhere j other) ∙ set)
  ];
}

-- words that lead to objects that are reached, one by one
pub word-reached : (edition : Edition) (words roots from : List ℕ) (k : ℕ) → LeadToReached edition words roots from → k < length from → IsReachedBy edition words roots (get_or from k 0)
word-reached edition words roots from k lead lt i inside address = lead i (led-at words from k i 0 lt inside address)

-- and of each of them
pub words-reached : (edition : Edition) (words roots from : List ℕ) → LeadToReached edition words roots from → All (IsReachedBy edition words roots) from
words-reached edition words roots from lead k d lt i inside address = lead i (led-at words from k i d lt inside address)
