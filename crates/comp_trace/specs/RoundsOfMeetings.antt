-- Rounds of meetings, and a line between two of them.
use Rattle.std.specs.Prelude.{◌≡◌, ◌≢◌, ℕ, ◌%◌, ◌<◌, ◌≤◌, ◌++◌, List, length}
use mathlib.Core.Option.{some}
use lib.ListN.{get_elem?, get_or}
use Rattle.comp_mutator.specs.Entry.{Entry}
use Rattle.comp_mutator.specs.Setup.{Setup}
use Rattle.comp_mutator.specs.Lawful.{HasHead}
use Rattle.comp_mutator.specs.Locks.{Journals}
use Rattle.comp_mutator.specs.Lists.{Each, StartsWith}
use Rattle.comp_mutator.specs.Passes.{builds_of, did, number_of, seen, turns_of, HasSeenBuilt, IsNotMade, KnowsFresh, Rests}
use Rattle.comp_mutator.specs.Pass.{Pass}
use Rattle.comp_mutator.specs.Calls.{Grows, KnowsToo, Meets, SeesNothingNew}
use Rattle.comp_mutator.specs.Merged.{written_by}
use Rattle.comp_mutator.specs.Mutators.{pass_of}
use Rattle.comp_mutator.specs.declared.mutator.Mutator.{Mutator}
use Rattle.comp_mutator.specs.Refusal.{Refusal}
use Rattle.comp_trace.specs.Acting.{Refuses}
use Rattle.comp_trace.specs.WrittenEntries.{written_by_each, AreMerged, WrittenEntries, HaveAll, KnowsMade, KnowTheirs}
use Rattle.comp_trace.specs.Lines.{with_entries, Acts}
use Rattle.comp_trace.specs.declared.text.line.Action.{Action}

-- the passes of mutators, by their indices; `d` is any mutator
abbrev pub row : {L : Type 0} → Mutator L → List (Mutator L) → ℕ → Pass
row d mutators k = pass_of (get_or mutators k d)

-- The mutators at indices k and i met, and no other mutator changed.
pub record HaveMet {L : Type 0} (k i : ℕ) (old new : List (Mutator L)) : Type 0 where
  pub other : (d : Mutator L) → Meets (row d old i) (row d old k) (row d new k)
  pub met : (d : Mutator L) → Meets (row d old k) (row d old i) (row d new i)
  pub same : (d : Mutator L) (p : ℕ) → seen (row d new k) p ≡ seen (row d new i) p
  pub others : (d : Mutator L) (j : ℕ) → j ≢ i → j ≢ k → row d new j ≡ row d old j

-- Of n passes, pass i met each other one. They wrote and built nothing.
pub record Met (n i : ℕ) (old new : ℕ → Pass) : Type 0 where
  pub did : (k : ℕ) → k < n → did (new k) ≡ did (old k)
  pub builds : (k : ℕ) → k < n → builds_of (new k) ≡ builds_of (old k)
  pub grows : (k : ℕ) → k < n → Grows (old k) (new k)
  -- pass i has then seen what each had seen, and knows the starts that each knew
  pub more : (k p : ℕ) → k < n → StartsWith (seen (new i) p) (seen (old k) p)
  pub starts : (k p offset : ℕ) → k < n → KnowsFresh (old k) p offset → KnowsFresh (new i) p offset
  pub built : (k p : ℕ) → k < n → HasSeenBuilt (old k) p → HasSeenBuilt (new i) p
  -- each has then seen what pass i had seen, and nothing that pass i has not seen
  pub other : (k p : ℕ) → k < n → StartsWith (seen (new k) p) (seen (old i) p)
  pub other_built : (k p : ℕ) → k < n → HasSeenBuilt (old i) p → HasSeenBuilt (new k) p
  pub within : (k p : ℕ) → k < n → StartsWith (seen (new i) p) (seen (new k) p)
  -- pass i then knows of all turns of which each knew, and each of all of which pass i knew
  pub turns : (k q : ℕ) → k < n → turns_of (old k) q ≤ turns_of (new i) q
  pub other_turns : (k q : ℕ) → k < n → turns_of (old i) q ≤ turns_of (new k) q
  -- each other one made no turn, and the number of its turns is even if it has no page
  pub own_turns : (k : ℕ) → k < n → k ≢ i → turns_of (new k) (number_of (old k)) ≡ turns_of (old k) (number_of (old k))
  pub even : (k : ℕ) → k < n → k ≢ i → Rests (old k) → turns_of (old k) (number_of (old k)) % 2 ≡ 0
  -- passes that do not exist made none
  pub strangers : (k q : ℕ) → k < n → k ≢ i → IsNotMade (old k) q → turns_of (new k) q ≡ 0
  -- of each page, pass i has then seen what one of them had seen
  pub longest : (p : ℕ) → (k : ℕ) × (k < n) × (seen (new i) p ≡ seen (old k) p)

-- the mutator at index i met each other one
abbrev pub HasMetAll : {L : Type 0} → ℕ → List (Mutator L) → List (Mutator L) → Type 0
HasMetAll {L} i old new = (d : Mutator L) → Met (length old) i (row d old) (row d new)

-- the pass knows no less than before, and does not forget what it made
abbrev pub Learns : Pass → Pass → Type 0
Learns old new = Grows old new × (KnowsMade old → KnowsMade new)

-- these are the same mutators, later on
pub record AreLater {L : Type 0} (old new : List (Mutator L)) : Type 0 where
  pub count : length new ≡ length old
  pub learn : (k : ℕ) (before after : Mutator L) → get_elem? old k ≡ some before → get_elem? new k ≡ some after → Learns (pass_of before) (pass_of after)

-- none of them did anything since
abbrev pub DidNothing : {L : Type 0} → List (Mutator L) → List (Mutator L) → Type 0
DidNothing old new = (k : ℕ) → k < length old → written_by_each new k ≡ written_by_each old k

-- Mutator i of n ran a line, on all that the mutators did before it.
pub record Advances (u : Setup) (n i : ℕ) (written later : WrittenEntries) (journals : Journals) (action : Action) (registers : List ℕ) (answer : ℕ) : Type 0 where
  pub added : List (ℕ × Entry)
  pub acts : Acts u journals i action registers added answer
  pub did : (k : ℕ) → k < n → later k ≡ written k ++ written_by k added
  pub merged : AreMerged n later (with_entries journals added)

-- The mutator at index i ran a line, for all journals that have exactly what the mutators did before it.
abbrev pub RanLine : {L : Type 0} → Setup → ℕ → List (Mutator L) → List (Mutator L) → Action → List ℕ → ℕ → Type 0
RanLine u i before after action registers answer =
    (journals : Journals) → HaveAll before journals → Advances u (length before) i (written_by_each before) (written_by_each after) journals action registers answer

-- The call of the mutator at index i was refused, and at the call it knew all that the mutators did. What any of them
-- knew before the line it knew at the call, and what it knew at the call it knows after the line.
pub record IsTurnedDown {L : Type 0} (u : Setup) (i : ℕ) (before after : List (Mutator L)) (journals : Journals) (action : Action) (registers : List ℕ) (refusal : Refusal) : Type 0 where
  pub old : Pass
  pub new : Pass
  pub began : (m : Mutator L) → get_elem? before i ≡ some m → Grows (pass_of m) old
  -- it knows what each mutator knew before the line: all that this one had seen, its built pages and its starts
  pub met : Each before (λ (m : Mutator L). KnowsToo (pass_of m) old)
  -- it wrote nothing in the call, nor since
  pub wrote_none : did new ≡ did old
  -- it saw nothing new in the call
  pub saw_none : SeesNothingNew old new
  pub did : did old ≡ written_by_each after i
  pub knows : (p : ℕ) → seen old p ≡ journals p
  -- it knows each object that was made, if each mutator knew what it made
  pub starts : KnowTheirs before → (p offset : ℕ) → HasHead (journals p) offset → KnowsFresh old p offset
  pub grows : Grows old new
  pub refuses : Refuses u action registers old new refusal
  pub ends : (m : Mutator L) → get_elem? after i ≡ some m → Grows new (pass_of m)

-- The call of the mutator at index i was refused, for all journals that have exactly what the mutators did before the
-- line.
abbrev pub WasTurnedDown : {L : Type 0} → Setup → ℕ → List (Mutator L) → List (Mutator L) → Action → List ℕ → Refusal → Type 0
WasTurnedDown u i before after action registers refusal = (journals : Journals) → HaveAll before journals → IsTurnedDown u i before after journals action registers refusal
