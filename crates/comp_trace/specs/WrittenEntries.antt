-- What the mutators of a space did, and the journals that have exactly this.
use Rattle.std.specs.Prelude.{◌≡◌, ℕ, zero, suc, ◌<◌, ◌≤◌, List, [], ◌∷◌, length}
use Rattle.comp_mutator.specs.Entry.{Entry}
use Rattle.comp_mutator.specs.Setup.{Setup}
use Rattle.comp_mutator.specs.Lawful.{HasHead, IsLawful}
use Rattle.comp_mutator.specs.Lists.{by, on, Each, Rises}
use Rattle.comp_mutator.specs.Locks.{Journals}
use Rattle.comp_mutator.specs.Passes.{did, seen, KnowsFresh}
use Rattle.comp_mutator.specs.Pass.{Pass}
use Rattle.comp_mutator.specs.Mutators.{pass_of}
use Rattle.comp_mutator.specs.declared.mutator.Mutator.{Mutator}

-- what each mutator did, in its order, each entry with its page
abbrev pub WrittenEntries : Type 0
WrittenEntries = ℕ → List (ℕ × Entry)

-- what the mutator at each index of a list did
abbrev pub written_by_each : {L : Type 0} → List (Mutator L) → WrittenEntries
written_by_each [] k = []
written_by_each (m ∷ mutators) zero = did (pass_of m)
written_by_each (m ∷ mutators) (suc k) = written_by_each mutators k

-- The journal has all entries on page p that one of n mutators wrote, in the order of their stamps, and no others.
pub record IsMerged (n : ℕ) (written : WrittenEntries) (p : ℕ) (journal : List Entry) : Type 0 where
  pub rises : (high : ℕ) × Rises 0 journal high
  pub own : (k : ℕ) → k < n → by k journal ≡ on p (written k)
  pub strangers : (k : ℕ) → n ≤ k → by k journal ≡ []

abbrev pub AreMerged : ℕ → WrittenEntries → Journals → Type 0
AreMerged n written journals = (p : ℕ) → IsMerged n written p (journals p)

-- the journals have exactly what these mutators did
abbrev pub HaveAll : {L : Type 0} → List (Mutator L) → Journals → Type 0
HaveAll mutators journals = AreMerged (length mutators) (written_by_each mutators) journals

-- each of these mutators has seen these journals, and no more
abbrev pub HaveSeen : {L : Type 0} → List (Mutator L) → Journals → Type 0
HaveSeen {L} mutators journals = Each mutators (λ (m : Mutator L). (p : ℕ) → seen (pass_of m) p ≡ journals p)

-- each of these mutators has seen all that they did, and nothing else
abbrev pub HaveSeenAll : {L : Type 0} → List (Mutator L) → Type 0
HaveSeenAll mutators = (journals : Journals) → HaveAll mutators journals → HaveSeen mutators journals

-- there are lawful journals that have exactly what these mutators did
abbrev pub HaveStart : {L : Type 0} → Setup → List (Mutator L) → Type 0
HaveStart u mutators = (start : Journals) × HaveAll mutators start × ((p : ℕ) → IsLawful u p (start p))

-- the pass knows each object that it made
abbrev pub KnowsMade : Pass → Type 0
KnowsMade pass = (p offset : ℕ) → HasHead (on p (did pass)) offset → KnowsFresh pass p offset

-- each of these mutators knows what it made
abbrev pub KnowTheirs : {L : Type 0} → List (Mutator L) → Type 0
KnowTheirs {L} mutators = Each mutators (λ (m : Mutator L). KnowsMade (pass_of m))

-- none of these mutators has written anything
abbrev pub DidNothingYet : {L : Type 0} → List (Mutator L) → Type 0
DidNothingYet {L} mutators = Each mutators (λ (m : Mutator L). did (pass_of m) ≡ [])
