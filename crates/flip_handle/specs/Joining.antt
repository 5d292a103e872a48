-- Two handles at once: a mutator and its crew, and two mutators.
use Rattle.std.specs.Prelude.{◌≡◌, ◌≢◌, ℕ, ◌⊎◌, Option, None, Some}
use Rattle.comp_crew.specs.Benches.{IsGiven, IsStranger, IsToldApart}
use Rattle.comp_crew.specs.Calls as calls
use Rattle.comp_crew.specs.Members.{crew_of, made_of, name_of, pass_of, AreToldApart}
use Rattle.comp_crew.specs.Passes.{seen}
use Rattle.comp_crew.specs.declared.bench.Bench.{Bench}
use Rattle.comp_crew.specs.declared.member.Member.{Member}
use Rattle.handle_base.specs.Answers.{bare, done}
use Rattle.handle_base.specs.Statuses as statuses
use Rattle.handle_base.specs.HandleKinds.{crew_in, mutator_in, Asks}
use Rattle.handle_base.specs.declared.answer.Answer.{Answer}
use Rattle.handle_base.specs.declared.kept.Kept.{Kept}
use Rattle.handle_base.specs.declared.kept.Kept.TheVariants as kept

-- the mutator goes back to the crew, and its handle is empty; or both stay, since it is one of another crew
abbrev pub Joins : Bench → Member → Option Kept → Option Kept → Option Kept → Option Kept → Answer → Type 0
Joins bench m crew left own rest a =
    ((after : Bench) × (left ≡ Some (kept.Crew after)) × (rest ≡ None) × IsGiven bench m after × (a ≡ done 0))
    ⊎ ((left ≡ crew) × (rest ≡ own) × IsStranger bench m × (a ≡ bare statuses.other_crew 0))

-- the same for what the handles keep
abbrev pub Gives : Option Kept → Option Kept → Option Kept → Option Kept → Answer → Type 0
Gives crew left own rest a =
    Asks 0 crew_in (λ bench b. Asks 1 mutator_in (λ m c. Joins bench m crew left own rest c) ((left ≡ crew) × (rest ≡ own)) own b) ((left ≡ crew) × (rest ≡ own)) crew a

-- the names tell the crew from that of the mutator
abbrev pub IsToldFrom : Option Kept → Option Kept → Type 0
IsToldFrom crew mutator = (bench : Bench) (m : Member) → crew_in crew ≡ Some bench → mutator_in mutator ≡ Some m → IsToldApart m bench

-- what a meeting changes
pub record AreMet (m o n p : Member) : Type 0 where
  pub crew : crew_of n ≡ crew_of m
  pub other_crew : crew_of p ≡ crew_of o
  pub made : (made_of n ≡ made_of m) × (made_of p ≡ made_of o)
  pub meets : calls.Meets (pass_of o) (pass_of m) (pass_of n)
  pub other_meets : calls.Meets (pass_of m) (pass_of o) (pass_of p)
  pub same : (q : ℕ) → seen (pass_of n) q ≡ seen (pass_of p) q

-- two mutators meet; or both stay, since the names of their crews differ
abbrev pub Meets : Member → Member → Option Kept → Option Kept → Option Kept → Option Kept → Answer → Type 0
Meets m o first left other rest a =
    ((n : Member) × (p : Member) × (left ≡ Some (kept.Mutator n)) × (rest ≡ Some (kept.Mutator p)) × AreMet m o n p × (a ≡ done 0))
    ⊎ ((left ≡ first) × (rest ≡ other) × (name_of m ≢ name_of o) × (a ≡ bare statuses.other_crew 0))

-- the same for what the handles keep
abbrev pub Brings : Option Kept → Option Kept → Option Kept → Option Kept → Answer → Type 0
Brings first other left rest a =
    Asks 0 mutator_in (λ m b. Asks 1 mutator_in (λ o c. Meets m o first left other rest c) ((left ≡ first) × (rest ≡ other)) other b) ((left ≡ first) × (rest ≡ other)) first a

-- the names tell the crews of two mutators apart
abbrev pub AreApart : Option Kept → Option Kept → Type 0
AreApart first other = (m o : Member) → mutator_in first ≡ Some m → mutator_in other ≡ Some o → AreToldApart m o
