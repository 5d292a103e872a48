-- What a call by handles has done whose status is 0.
use Rattle.std.proofs.Common.{◌≡◌, ◌≢◌, ◌⊎◌, ℕ, List, Option, None, Some, MatchOption, refl, sym, ap, ◌∙◌, subst, ⊎_elim, arith}
use Rattle.heap_layout.specs.Heap.{Heap}
use Rattle.heap_layout.specs.declared.fault.LayoutFault.{LayoutFault}
use Rattle.heap_layout.specs.declared.fault.LayoutFault.TheVariants as layout
use Rattle.comp_crew.specs.Benches.{crew_on}
use Rattle.comp_crew.specs.Cycles.{heap_after, IsCycleOf}
use Rattle.comp_crew.specs.Ends.{cycle_with}
use Rattle.comp_crew.specs.Finishing.{finished_of}
use Rattle.comp_crew.specs.Members.{crew_of, setup_in}
use Rattle.comp_crew.specs.StableReach.{AreMarkedReachable}
use Rattle.comp_crew.specs.declared.bench.Bench.{Bench}
use Rattle.comp_crew.specs.declared.crew.Crew.{Crew}
use Rattle.comp_crew.specs.declared.fault.FinishFault.{FinishFault}
use Rattle.comp_crew.specs.declared.fault.FinishFault.TheVariants as finish
use Rattle.handle_base.specs.Answers.{bare, of_layout}
use Rattle.flip_handle.specs.Crewing.{Flips, FlipsOf, IsUnflipped, IsUntaken, Leaves, Takes}
use Rattle.flip_handle.specs.Joining.{AreApart, Brings, Gives, IsToldFrom, Joins, Meets}
use Rattle.handle_base.specs.HandleKinds.{crew_in, end_in, heap_in, mutator_in, not_there, plan_in, Asks, Fills, Turns}
use Rattle.flip_handle.specs.Turning.{of_finish, Finishes, FollowsReached, IsUnfinished, IsUnplanned, IsUnreached, Plans}
use Rattle.handle_base.specs.declared.answer.Answer.{Answer}
use Rattle.handle_base.specs.declared.kept.Kept.{Kept}
use Rattle.handle_base.specs.declared.kept.Kept.TheVariants as kept
use Rattle.proved_crews.specs.Crews.{AreFellows, AreOfOneCrew, HasGiven, HasTaken, HaveMet, KeepsCrew, KeepsEnd, KeepsFlip, KeepsHeap, KeepsMutator, KeepsNext}

-- an answer with another status
not_done : {A : Type 0} (a : Answer) (status value : ℕ) → a.status ≡ 0 → a ≡ bare status value → 0 ≢ status → A
not_done a status value zero is other = absurd (other (sym zero ∙ ap (λ (x : Answer). x.status) is))

gone : (which : ℕ) (h : Option Kept) (a : Answer) → a ≡ not_there which h → a.status ≡ 0 → ⊥
gone which None a e zero = not_done a 10 which zero e (λ z. omega (arith, z))
gone which (Some k) a e zero = not_done a 255 which zero e (λ z. omega (arith, z))

found : {X : Type 0} (o : Option X) (which : ℕ) (h : Option Kept) (Q : X → Type 0) (R : Type 0) (a : Answer)
    → MatchOption o ((a ≡ not_there which h) × R) Q → a.status ≡ 0 → (x : X) × (o ≡ Some x) × Q x
found None which h Q R a m zero = absurd (gone which h a m.0 zero)
found (Some x) which h Q R a m zero = (x, refl, m)

-- a handle that was to be filled was empty
filled : (which : ℕ) (P : Option Kept → Answer → Type 0) (R : Type 0) (to new : Option Kept) (a : Answer) → Fills which P R to new a → a.status ≡ 0 → P new a
filled which P R None new a f zero = f
filled which P R (Some k) new a f zero = not_done a 11 which zero f.1 (λ z. omega (arith, z))

pub plan_done : (from left to new : Option Kept) (a : Answer) → Turns heap_in Plans IsUnplanned from left to new a → a.status ≡ 0 → (heap : Heap) → KeepsHeap heap from → plan_in new ≡ Some heap
plan_done from left to new a turned zero heap e =
    let t = subst (λ (o : Option Kept). Turns heap_in Plans IsUnplanned o left to new a) e turned in
    ⊎_elim (λ x. x.1.0) (λ x. not_done a 9 0 zero x.2 (λ z. omega (arith, z))) (filled 1 _ _ to new a t zero)

unflipped : (heap : Heap) (n fresh : ℕ) (a : Answer) → IsUnflipped heap n fresh a → a.status ≡ 0 → ⊥
unflipped heap n fresh a why zero =
    ⊎_elim (λ x. not_done a 14 n zero x.1 (λ z. omega (arith, z)))
    (λ x. ⊎_elim (λ y. not_done a 15 _ zero y.1 (λ z. omega (arith, z))) (λ y. not_done a 9 0 zero y.1 (λ z. omega (arith, z))) x.1) why

pub flip_done : (name n fresh : ℕ) (plan old new : Option Kept) (a : Answer) → Flips name n fresh plan old new a → a.status ≡ 0 → (heap : Heap) × (plan_in plan ≡ Some heap) × KeepsFlip heap name new
flip_done name n fresh plan old new a flips zero =
    let t = found (plan_in plan) 0 plan _ _ a flips zero in
    let f : Fills 1 (λ now c. FlipsOf t.0 name n fresh now c) (Unit {0}) old new a = t.2 in
    let made : FlipsOf t.0 name n fresh new a = filled 1 _ _ old new a f zero in
    ⊎_elim (λ y. (t.0, t.1, (crew_on y.0, (y.0, ap crew_in y.1, refl), y.2.name_is, y.2.heap_is))) (λ y. absurd (unflipped t.0 n fresh a y.1 zero)) made

pub take_done : (crew left old new : Option Kept) (a : Answer) → Takes crew left old new a → a.status ≡ 0 → HasTaken crew left new
take_done crew left old new a takes zero =
    let t = found (crew_in crew) 0 crew _ _ a takes zero in
    let f : Fills 1 (λ now c. Leaves t.0 left now c ⊎ ((left ≡ crew) × (now ≡ None) × IsUntaken t.0 c)) (left ≡ crew) old new a = t.2 in
    let left_it : Leaves t.0 left new a ⊎ ((left ≡ crew) × (new ≡ None) × IsUntaken t.0 a) = filled 1 _ _ old new a f zero in
    ⊎_elim (λ y. (t.0, y.0, y.1, t.1, ap crew_in y.2, ap mutator_in y.3, y.4))
    (λ y. ⊎_elim (λ z. not_done a 18 0 zero z.1 (λ w. omega (arith, w))) (λ z. not_done a 9 0 zero z.1 (λ w. omega (arith, w))) y.2) left_it

pub taken_from : (crew left own : Option Kept) → HasTaken crew left own → (c : Crew) → KeepsCrew c crew → KeepsCrew c left × KeepsMutator c own
taken_from crew left own taken c keeps =
    let same : taken.0 ≡ keeps.0 = cc (taken.3, keeps.1) in
    let on = ap crew_on same ∙ keeps.2 in
    ((taken.1, taken.4, taken.6.2 ∙ on), (taken.2, taken.5, taken.6.1 ∙ on))

pub fellows_apart : (first other : Option Kept) → AreFellows first other → AreApart first other
fellows_apart first other fellows = λ m o g h named.
    let one = fellows.1 in
    let two = fellows.2 in
    let m_is : m ≡ one.0 = cc (one.1, g) in
    let o_is : o ≡ two.0 = cc (two.1, h) in
    ap crew_of m_is ∙ one.2 ∙ sym (ap crew_of o_is ∙ two.2)

pub meet_done : (first other left rest : Option Kept) (a : Answer) → Brings first other left rest a → a.status ≡ 0 → HaveMet first other left rest
meet_done first other left rest a brings zero =
    let t = found (mutator_in first) 0 first _ _ a brings zero in
    let second : Asks 1 mutator_in (λ o c. Meets t.0 o first left other rest c) ((left ≡ first) × (rest ≡ other)) other a = t.2 in
    let u = found (mutator_in other) 1 other _ _ a second zero in
    let met : Meets t.0 u.0 first left other rest a = u.2 in
    ⊎_elim (λ y. (t.0, u.0, y.0, y.1, t.1, u.1, ap mutator_in y.2, ap mutator_in y.3, y.4)) (λ y. not_done a 17 0 zero y.3 (λ w. omega (arith, w))) met

pub met_of : (first other left rest : Option Kept) → HaveMet first other left rest → (c : Crew) → KeepsMutator c first → KeepsMutator c other → KeepsMutator c left × KeepsMutator c rest
met_of first other left rest met c one two =
    let m_is : met.0 ≡ one.0 = cc (met.4, one.1) in
    let o_is : met.1 ≡ two.0 = cc (met.5, two.1) in
    ((met.2, met.6, met.8.crew ∙ ap crew_of m_is ∙ one.2), (met.3, met.7, met.8.other_crew ∙ ap crew_of o_is ∙ two.2))

pub own_told : (crew own : Option Kept) → AreOfOneCrew crew own → IsToldFrom crew own
own_told crew own one = λ bench m g h named.
    let bench_is : bench ≡ one.1.0 = cc (one.1.1, g) in
    let m_is : m ≡ one.2.0 = cc (one.2.1, h) in
    ap crew_of m_is ∙ one.2.2 ∙ sym (ap crew_on bench_is ∙ one.1.2)

pub give_done : (crew left own rest : Option Kept) (a : Answer) → Gives crew left own rest a → a.status ≡ 0 → HasGiven crew own left rest
give_done crew left own rest a gives zero =
    let t = found (crew_in crew) 0 crew _ _ a gives zero in
    let second : Asks 1 mutator_in (λ m c. Joins t.0 m crew left own rest c) ((left ≡ crew) × (rest ≡ own)) own a = t.2 in
    let u = found (mutator_in own) 1 own _ _ a second zero in
    let joined : Joins t.0 u.0 crew left own rest a = u.2 in
    ⊎_elim (λ y. (t.0, y.0, u.0, t.1, u.1, ap crew_in y.1, y.3, y.2)) (λ y. not_done a 17 0 zero y.3 (λ w. omega (arith, w))) joined

pub given_to : (crew own left rest : Option Kept) → HasGiven crew own left rest → (c : Crew) → KeepsCrew c crew → KeepsCrew c left
given_to crew own left rest given c keeps =
    let same : given.0 ≡ keeps.0 = cc (given.3, keeps.1) in
    (given.1, given.5, given.6.1 ∙ ap crew_on same ∙ keeps.2)

unfinished : (fault : FinishFault) (a : Answer) → a ≡ of_finish fault → a.status ≡ 0 → ⊥
unfinished finish.OutOfMemory a h zero = not_done a 9 0 zero h (λ z. omega (arith, z))
unfinished (finish.MutatorMissing k) a h zero = not_done a 16 k zero h (λ z. omega (arith, z))
unfinished finish.StillShared a h zero = not_done a 28 0 zero h (λ z. omega (arith, z))

ended : (bench : Bench) (now : Option Kept) (a : Answer) (c : Crew) → Finishes bench now a → crew_on bench ≡ c → KeepsEnd (setup_in c).heap now
ended bench now a c finished on = (finished.0, finished.1, finished.2.plan_is ∙ ap (λ (crew : Crew). (setup_in crew).heap) on)

not_ended : (bench : Bench) (a : Answer) → IsUnfinished bench a → a.status ≡ 0 → ⊥
not_ended bench a why zero = unfinished why.0 a why.1 zero

pub finish_done : (from left to new : Option Kept) (a : Answer) → Turns crew_in Finishes IsUnfinished from left to new a → a.status ≡ 0 → (c : Crew) → KeepsCrew c from → KeepsEnd (setup_in c).heap new
finish_done from left to new a turned zero c keeps =
    let t = found (crew_in from) 0 from _ _ a turned zero in
    let is : t.0 ≡ keeps.0 = cc (t.1, keeps.1) in
    let f : Fills 1 (λ now c. ((left ≡ None) × Finishes t.0 now c) ⊎ ((left ≡ from) × (now ≡ None) × IsUnfinished t.0 c)) (left ≡ from) to new a = t.2 in
    ⊎_elim (λ x. ended t.0 new a c x.1 (ap crew_on is ∙ keeps.2)) (λ x. absurd (not_ended t.0 a x.2 zero)) (filled 1 _ _ to new a f zero)

refused : (fault : LayoutFault) (a : Answer) → a ≡ of_layout fault → a.status ≡ 0 → ⊥
refused layout.TooLarge a h zero = not_done a 33 0 zero h (λ z. omega (arith, z))
refused (layout.ObjectPastEnd i) a h zero = not_done a 34 i zero h (λ z. omega (arith, z))
refused (layout.ObjectTooLong i) a h zero = not_done a 35 i zero h (λ z. omega (arith, z))
refused (layout.MarkNotStart i) a h zero = not_done a 36 i zero h (λ z. omega (arith, z))
refused (layout.MarksNotRising i) a h zero = not_done a 37 i zero h (λ z. omega (arith, z))
refused (layout.BadRoot i) a h zero = not_done a 38 i zero h (λ z. omega (arith, z))
refused (layout.UnmarkedTarget i) a h zero = not_done a 39 i zero h (λ z. omega (arith, z))
refused layout.Truncated a h zero = not_done a 40 0 zero h (λ z. omega (arith, z))
refused layout.TrailingBytes a h zero = not_done a 41 0 zero h (λ z. omega (arith, z))
refused layout.BadMagic a h zero = not_done a 42 0 zero h (λ z. omega (arith, z))
refused layout.OutOfMemory a h zero = not_done a 9 0 zero h (λ z. omega (arith, z))
refused layout.Device a h zero = not_done a 9 0 zero h (λ z. omega (arith, z))
refused (layout.BadWeak i) a h zero = not_done a 45 i zero h (λ z. omega (arith, z))

pub follow_done : (roots : List ℕ) (from left to new : Option Kept) (a : Answer) → Turns end_in (FollowsReached roots) (IsUnreached roots) from left to new a → a.status ≡ 0
    → (heap : Heap) → KeepsEnd heap from → KeepsNext heap roots new
follow_done roots from left to new a turned zero heap keeps =
    let t = subst (λ (o : Option Kept). Turns end_in (FollowsReached roots) (IsUnreached roots) o left to new a) keeps.1 turned in
    let f = finished_of keeps.0 in
    let of = keeps.2 in
    ⊎_elim (λ x.
    let marks = x.1.0 in
    let next = heap_after (cycle_with heap f roots marks) in
    let same = ap (λ (h : Heap). heap_after (cycle_with h f roots marks)) of in (
      next,
      x.1.1.next ∙ ap (λ (h : Heap). Some (kept.Heap h)) same,
      record {
        left = f;
        marks = marks;
        next_is = refl;
        cycle = subst (λ (h : Heap). IsCycleOf h (cycle_with h f roots marks)) of x.1.1.cycle;
        reachable = subst (λ (h : Heap). AreMarkedReachable (cycle_with h f roots marks)) of x.1.1.reachable;
      },
    ))
    (λ x. absurd (refused x.2.0 a x.2.1 zero)) (filled 1 _ _ to new a t zero)
