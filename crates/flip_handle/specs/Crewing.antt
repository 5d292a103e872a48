-- What becomes of a crew.
use Rattle.std.specs.Prelude.{◌≡◌, ◌≢◌, ℕ, ◌-◌, ◌<◌, ◌≤◌, ◌⊎◌, min, Bool, [], Option, None, Some, IsTrue, IsFalse, MatchOption}
use Rattle.heap_layout.specs.Heap.{live, Heap}
use Rattle.heap_layout.specs.Limits.{most_fresh_pages, most_pages}
use Rattle.page_plan.specs.Sliding as sliding
use Rattle.comp_crew.specs.Benches.{hands_on, IsFlipped, IsTaken}
use Rattle.comp_crew.specs.Members.{number_of_member}
use Rattle.comp_crew.specs.declared.bench.Bench.{Bench}
use Rattle.comp_crew.specs.declared.member.Member.{Member}
use Rattle.handle_base.specs.Answers.{bare, done}
use Rattle.handle_base.specs.Statuses.{bad_mutators, no_mutator_left, not_empty, out_of_memory, too_many_pages, wrong_handle}
use Rattle.handle_base.specs.HandleKinds.{crew_in, plan_in, Asks, Fills}
use Rattle.handle_base.specs.declared.answer.Answer.{Answer}
use Rattle.handle_base.specs.declared.kept.Kept.{Kept}
use Rattle.handle_base.specs.declared.kept.Kept.TheVariants as kept

-- a crew may have so many mutators
abbrev pub IsCount : ℕ → Type 0
IsCount n = (1 ≤ n) × (n ≤ 64)

-- the most fresh pages of a flip of this heap: as many as the edition allows, and no more than leave the words of all
-- pages within the limit of a heap
abbrev pub most_fresh : Heap → ℕ
most_fresh heap = min (most_fresh_pages heap.edition) (most_pages heap.edition - sliding.pages (live heap))

-- why no crew is made of a plan: the number of mutators is bad; if it is good, there are too many fresh pages; if there
-- are not, memory ran out
abbrev pub IsUnflipped : Heap → ℕ → ℕ → Answer → Type 0
IsUnflipped heap n fresh a =
    ((IsCount n → ⊥) × (a ≡ bare bad_mutators n))
    ⊎ (IsCount n × (((most_fresh heap < fresh) × (a ≡ bare too_many_pages (most_fresh heap))) ⊎ ((fresh ≤ most_fresh heap) × (a ≡ bare out_of_memory 0))))

-- a crew was made, and the counts are good; or the handle stays empty, and the answer says why
abbrev pub FlipsOf : Heap → ℕ → ℕ → ℕ → Option Kept → Answer → Type 0
FlipsOf heap name n fresh now a =
    ((bench : Bench) × (now ≡ Some (kept.Crew bench)) × IsFlipped heap name n fresh bench × IsCount n × (fresh ≤ most_fresh heap) × (a ≡ done n))
    ⊎ ((now ≡ None) × IsUnflipped heap n fresh a)

-- the same for the plan that a handle keeps, and the crew's handle
abbrev pub Flips : ℕ → ℕ → ℕ → Option Kept → Option Kept → Option Kept → Answer → Type 0
Flips name n fresh plan old new a =
    Asks 0 plan_in (λ heap b. Fills 1 (λ now c. FlipsOf heap name n fresh now c) (Unit {0}) old new b) (new ≡ old) plan a

-- why no share of a plan is had for a crew of these counts, given whether the handle of the crew is full
abbrev pub IsUnshared : Bool → ℕ → ℕ → Option Kept → Answer → Type 0
IsUnshared full n fresh plan a =
    Asks 0 plan_in (λ heap b. (IsTrue full × (b ≡ bare not_empty 1)) ⊎ (IsFalse full × IsUnflipped heap n fresh b)) (Unit {0}) plan a

-- the mutator that was handed back last leaves the crew
abbrev pub Leaves : Bench → Option Kept → Option Kept → Answer → Type 0
Leaves bench left now a =
    (after : Bench) × (m : Member) × (left ≡ Some (kept.Crew after)) × (now ≡ Some (kept.Mutator m)) × IsTaken bench after (Some m) × (a ≡ done (number_of_member m))

-- why none leaves: there is none; or memory ran out, and there is one
abbrev pub IsUntaken : Bench → Answer → Type 0
IsUntaken bench a = ((hands_on bench ≡ []) × (a ≡ bare no_mutator_left 0)) ⊎ ((hands_on bench ≢ []) × (a ≡ bare out_of_memory 0))

-- the same of a crew that is kept
abbrev pub Splits : Kept → Kept → Member → Type 0
Splits k l m = (before : Bench) × (after : Bench) × (k ≡ kept.Crew before) × (l ≡ kept.Crew after) × IsTaken before after (Some m)

-- why none leaves what is kept, given whether the handle for it is full
abbrev pub IsUnsplit : Bool → Kept → Answer → Type 0
IsUnsplit full k a =
    MatchOption (crew_in (Some k)) (a ≡ bare wrong_handle 0) (λ bench. (IsTrue full × (a ≡ bare not_empty 1)) ⊎ (IsFalse full × IsUntaken bench a))

-- a mutator went from its crew to a handle of its own; or neither handle has changed, and the answer says why
abbrev pub Takes : Option Kept → Option Kept → Option Kept → Option Kept → Answer → Type 0
Takes crew left old new a =
    Asks 0 crew_in (λ bench b. Fills 1 (λ now c. Leaves bench left now c ⊎ ((left ≡ crew) × (now ≡ None) × IsUntaken bench c)) (left ≡ crew) old new b)
    ((left ≡ crew) × (new ≡ old)) crew a
