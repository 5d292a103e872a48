-- What a handle keeps of each kind, and what a call does by its handles.
use Rattle.std.specs.Prelude.{◌≡◌, ℕ, ◌⊎◌, Bool, true, false, Option, None, Some, IsTrue, IsFalse, MatchOption}
use Rattle.heap_layout.specs.Heap.{Heap}
use Rattle.comp_crew.specs.declared.bench.Bench.{Bench}
use Rattle.comp_crew.specs.declared.finishing.Ended.{Ended as End}
use Rattle.comp_crew.specs.declared.member.Member.{Member}
use Rattle.mark_job.specs.Asked.{Asked}
use Rattle.rest_marks.specs.Lanes.{Laned}
use Rattle.rest_marks.specs.Looks.{Looking}
use Rattle.rest_marks.specs.Places.{Found}
use Rattle.stopped_heap.specs.Tables.{Reserved}
use Rattle.young_heap.specs.Tables.{Watermarked}
use Rattle.handle_base.specs.Answers.{bare}
use Rattle.handle_base.specs.Statuses.{empty_handle, not_empty, wrong_handle}
use Rattle.handle_base.specs.Knowing.{knowing, Knowing}
use Rattle.handle_base.specs.Paged.{paged, Paged}
use Rattle.handle_base.specs.declared.answer.Answer.{Answer}
use Rattle.handle_base.specs.declared.kept.Kept.{Kept}
use Rattle.handle_base.specs.declared.kept.Kept.TheVariants as kept

-- the marked heap that the handle keeps
abbrev pub heap_in : Option Kept → Option Heap
heap_in (Some (kept.Heap heap)) = Some heap
heap_in _ = None

-- the heap whose plan the handle keeps
abbrev pub plan_in : Option Kept → Option Heap
plan_in (Some (kept.Plan plan)) = Some plan.value
plan_in _ = None

-- the crew that the handle keeps, with its mutators that nobody has taken
abbrev pub crew_in : Option Kept → Option Bench
crew_in (Some (kept.Crew bench)) = Some bench
crew_in _ = None

-- the mutator that the handle keeps
abbrev pub mutator_in : Option Kept → Option Member
mutator_in (Some (kept.Mutator m)) = Some m
mutator_in _ = None

-- the finished cycle that the handle keeps
abbrev pub end_in : Option Kept → Option End
end_in (Some (kept.Ended e)) = Some e
end_in _ = None

-- what the survey found that the handle keeps
abbrev pub survey_in : Option Kept → Option Found
survey_in (Some (kept.Survey survey)) = Some survey.value
survey_in _ = None

-- the tables that the handle keeps
abbrev pub tables_in : Option Kept → Option Reserved
tables_in (Some (kept.Tables tables)) = Some tables
tables_in _ = None

-- what the survey found so far, which grows, that the handle keeps
abbrev pub growing_in : Option Kept → Option Found
growing_in (Some (kept.Growing growth)) = Some growth
growing_in _ = None

-- the tables of a survey that grows, or those that it left when it was over
abbrev pub room_in : Option Kept → Option Reserved
room_in (Some (kept.Tables tables)) = Some tables
room_in (Some (kept.Growing growth)) = Some (record { room = growth.room })
room_in _ = None

-- the tables with a watermark that the handle keeps
abbrev pub old_in : Option Kept → Option Watermarked
old_in (Some (kept.Old old)) = Some old
old_in _ = None

-- the heap that is marked by the job that the handle keeps
abbrev pub job_in : Option Kept → Option Asked
job_in (Some (kept.Job job)) = Some job.value
job_in _ = None

-- the pages that the handle keeps a share of, and what it has of them
abbrev pub pages_in : Option Kept → Option Paged
pages_in (Some (kept.Pages pages)) = Some (paged pages)
pages_in _ = None

-- the marking by looks that the handle keeps
abbrev pub looks_in : Option Kept → Option Looking
looks_in (Some (kept.Looks looks)) = Some looks
looks_in _ = None

-- the marking that the handle keeps a share of, and what it knows of it
abbrev pub marking_in : Option Kept → Option Knowing
marking_in (Some (kept.Marking marker)) = Some (knowing marker)
marking_in _ = None

-- the lane of a marking that the handle keeps
abbrev pub lane_in : Option Kept → Option Laned
lane_in (Some (kept.Lane lane)) = Some lane
lane_in _ = None

-- The answer of a call to which the handle with this number, among those of the call, does not keep what is asked for:
-- it is empty, or keeps something of another kind.
abbrev pub not_there : ℕ → Option Kept → Answer
not_there which None = bare empty_handle which
not_there which (Some k) = bare wrong_handle which

-- P of what the handle keeps of the kind that is asked for; or it keeps no such thing, and R
abbrev pub Asks : {X : Type 0} → ℕ → (Option Kept → Option X) → (X → Answer → Type 0) → Type 0 → Option Kept → Answer → Type 0
Asks which find P R h a = MatchOption (find h) ((a ≡ not_there which h) × R) (λ x. P x a)

-- A handle is to be filled: it was empty, and P of what it keeps then; or it keeps something already, and stays, and R.
abbrev pub Fills : ℕ → (Option Kept → Answer → Type 0) → Type 0 → Option Kept → Option Kept → Answer → Type 0
Fills which P R None new a = P new a
Fills which P R (Some k) new a = (new ≡ Some k) × (a ≡ bare not_empty which) × R

-- What the first handle keeps goes, and the second one keeps what is made of it; or both stay, and the answer says why.
abbrev pub Turns : {X : Type 0} → (Option Kept → Option X) → (X → Option Kept → Answer → Type 0) → (X → Answer → Type 0) → Option Kept → Option Kept → Option Kept → Option Kept → Answer → Type 0
Turns find Makes Stays from left to new a =
    Asks 0 find (λ x b. Fills 1 (λ now c. ((left ≡ None) × Makes x now c) ⊎ ((left ≡ from) × (now ≡ None) × Stays x c)) (left ≡ from) to new b) ((left ≡ from) × (new ≡ to)) from a

-- the same of what is kept, given whether the second handle is full: it goes there, changed, or stays
abbrev pub TurnsKept : {X : Type 0} → (Option Kept → Option X) → (X → Option Kept → Answer → Type 0) → (X → Answer → Type 0) → Bool → Kept → Kept → Bool → Answer → Type 0
TurnsKept find Makes Stays full k l goes a =
    MatchOption (find (Some k)) (IsFalse goes × (l ≡ k) × (a ≡ bare wrong_handle 0))
    (λ x. (IsTrue full × IsFalse goes × (l ≡ k) × (a ≡ bare not_empty 1)) ⊎ (IsFalse full × ((IsTrue goes × Makes x (Some l) a) ⊎ (IsFalse goes × (l ≡ k) × Stays x a))))

-- what is kept after a turn lies in the second handle if it goes, else again in the first one
abbrev pub Settles : Bool → Kept → Option Kept → Option Kept → Option Kept → Type 0
Settles true l left to new = (left ≡ None) × (new ≡ Some l)
Settles false l left to new = (left ≡ Some l) × (new ≡ to)
