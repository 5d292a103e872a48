-- A line between two rounds of meetings, with the mutators as lists: before it, after the first round, and after the
-- second round. The call is by the mutator at index i.
use Rattle.std.proofs.Common.{◌≡◌, ℕ, ◌<◌, List, length, get_or, set, sym, ap, subst, ◌∙◌, arith, get_or-set_same, get_or-set_other, length-set}
use Rattle.std.specs.Prelude.{◌⊎◌, IfErr, OnErr, Option, Result, Ok, Err}
use native.Mathlib.Decide.{ℕ_discrete}
use mathlib.Core.Logic.{dite}
use Rattle.comp_mutator.specs.Builder.{Ghosts}
use Rattle.comp_mutator.specs.Locks.{Journals}
use Rattle.comp_mutator.specs.Passes.{did, number_of, seen}
use Rattle.comp_mutator.specs.Setup.{Setup}
use Rattle.comp_mutator.specs.Pass.{Pass}
use Rattle.comp_mutator.proofs.Sums.{is_inside}
use Rattle.comp_mutator.specs.Calls.{Grows, KnowsToo}
use Rattle.comp_mutator.specs.CellViews.{steps_of}
use Rattle.comp_mutator.specs.Mutators.{cells_of, pass_of, setup_of, AreMutatorsOf}
use Rattle.comp_mutator.specs.declared.mutator.Mutator.{Mutator}
use Rattle.comp_mutator.specs.Refusal.{Refusal}
use Rattle.comp_mutator.specs.declared.space.Space.{Space}
use Rattle.comp_trace.specs.Acting.{Answers, Refuses}
use Rattle.comp_trace.specs.LineBuilds.{built_after, BuildOn, BuildsTouched, SeeBuiltOn}
use Rattle.comp_trace.specs.WrittenEntries.{written_by_each, AreMerged, HaveAll, HaveSeenAll, HaveStart}
use Rattle.comp_trace.specs.AllMutators.{AreAll}
use Rattle.comp_trace.specs.RoundsOfMeetings.{row, AreLater, DidNothing, HasMetAll, IsTurnedDown, Learns, Met, RanLine}
use Rattle.comp_trace.specs.declared.text.line.Action.{Action}
use Rattle.comp_trace.proofs.BetweenRounds.{dids, IsCrew}
use Rattle.comp_trace.proofs.Building.{builds_on, see_built_on, BuiltTheirs, HaveStrange, SeeTheirs}
use Rattle.comp_trace.proofs.LineRuns.{advances, all_seen_last, known, knows, knows_each, knows_starts, learnt, same_deeds, saw_none, IsBetween}
use Rattle.comp_trace.proofs.Elements.{at_or}
use Rattle.comp_mutator.specs.Refusal.TheVariants.{Busy}
use Rattle.comp_trace.proofs.NeverBusy.{never_busy}
use Rattle.comp_trace.proofs.RowLists.{advances_by, all_later, crew_later, crew_of, written_at, have_all, have_built, have_seen_built, later_by, nothing_by, row_at, rows_built, rows_have, rows_seen_built}

module _ {L : Type 0} {B : Type 0} {g : Ghosts B} (space : Space L B g) (i : ℕ) (first met last : List (Mutator L)) (m new : Mutator L)
    (all : AreAll space first) (inside : i < length first) (is : m ≡ get_or met i m)
    (met_of : AreMutatorsOf space met) (met_long : length met ≡ length first) (before : HasMetAll i first met)
    (learns : Learns (pass_of (get_or met i m)) (pass_of new))
    (last_of : AreMutatorsOf space last) (last_long : length last ≡ length (set met i new)) (after : HasMetAll i (set met i new) last)
  where
    abbrev n : ℕ
    n = length first

    abbrev u : Setup
    u = setup_of space

    abbrev acted : List (Mutator L)
    acted = set met i new

    there : i < length met
    there = omega (arith, inside, met_long)

    acted_is : row m acted i ≡ pass_of new
    acted_is = ap pass_of (get_or-set_same met i new m there)

    others : (k : ℕ) → (k ≡ i → ⊥) → row m acted k ≡ row m met k
    others k not = ap pass_of (get_or-set_other met i k new m not)

    crew : IsCrew (steps_of (cells_of space)) n (row m first)
    crew = crew_of space first m all

    met_numbers : (k : ℕ) → k < n → number_of (row m met k) ≡ k
    met_numbers k lt = ((before m).grows k lt).number ∙ crew.numbers k lt

    call : Learns (row m met i) (row m acted i)
    call = subst (Learns (row m met i)) (sym acted_is) learns

    acted_numbers : (k : ℕ) → k < n → number_of (row m acted k) ≡ k
    acted_numbers k lt = dite (ℕ_discrete k i)
        (λ same. subst (λ (x : ℕ). number_of (row m acted x) ≡ x) (sym same) (call.0.number ∙ met_numbers i inside))
        (λ not. ap number_of (others k not) ∙ met_numbers k lt)

    second : Met n i (row m acted) (row m last)
    second = subst (λ (x : ℕ). Met x i (row m acted) (row m last)) (length-set met i new ∙ met_long) (after m)

    last_numbers : (k : ℕ) → k < n → number_of (row m last k) ≡ k
    last_numbers k lt = (second.grows k lt).number ∙ acted_numbers k lt

    long : length last ≡ n
    long = last_long ∙ length-set met i new ∙ met_long

    line : IsBetween (steps_of (cells_of space)) n i (row m first) (row m met) (row m acted) (row m last)
    line = record {
      inside = inside;
      crew = crew;
      crew_met = crew_later space n met m all.count met_long met_of met_numbers;
      crew_last = crew_later space n last m all.count long last_of last_numbers;
      before = before m;
      after = second;
      learns = call;
      others = others;
    }

    pub all_last : AreAll space last
    all_last = all_later space n last m all.count long last_of last_numbers

    pub later_last : AreLater first last
    later_last = later_by first last m long (learnt _ n i _ _ _ _ line)

    pub seen_last : HaveSeenAll last
    seen_last journals have k x at p =
        let merged : AreMerged n (dids (row m last)) journals = subst (λ (c : ℕ). AreMerged c (dids (row m last)) journals) long (rows_have last m journals have) in
        subst (λ (y : Pass). seen y p ≡ journals p) (row_at last m x k at) (all_seen_last _ n i _ _ _ _ line journals merged k p (omega (arith, is_inside last k x at, long)))

    pub has_start : HaveStart u first
    has_start = (seen (row m met i), have_all first m (seen (row m met i)) (known _ n i _ _ _ _ line), λ p. ((line.crew_met.works i inside).remembers p).lawful)

    did_same : did (pass_of new) ≡ did (pass_of (get_or met i m)) → did (row m acted i) ≡ did (row m met i)
    did_same same = ap did acted_is ∙ same

    pub nothing_done : did (pass_of new) ≡ did (pass_of (get_or met i m)) → DidNothing first last
    nothing_done same = nothing_by first last m long (same_deeds _ n i _ _ _ _ line (did_same same))

    pub ran_line : (action : Action) (registers : List ℕ) (answer : ℕ) → Answers u action registers (pass_of (get_or met i m)) (pass_of new) answer → RanLine u i first last action registers answer
    ran_line action registers answer h journals have =
        advances_by u n i (dids (row m first)) (dids (row m last)) (written_by_each first) (written_by_each last) journals action registers answer
        (λ k lt. sym (written_at first m k lt)) (λ k lt. sym (written_at last m k (omega (arith, lt, long))))
        (advances _ n i _ _ _ _ line u journals (rows_have first m journals have) action registers answer
        (subst (λ (x : Pass). Answers u action registers (row m met i) x answer) (sym acted_is) h))

    pub builds_last : (page : Option ℕ) → BuildsTouched page (pass_of (get_or met i m)) (pass_of new) → BuildOn i page first last
    builds_last page touched built have =
        let then = builds_on n i inside (row m first) (row m met) (row m acted) (row m last) line.before line.after call.0 others page
        (subst (λ (x : Pass). BuildsTouched page (row m met i) x) (sym acted_is) touched) built (rows_built first m built have) in
        have_built last m (built_after built i page) (subst (λ (k : ℕ). BuiltTheirs k (row m last) (built_after built i page) ⊎ HaveStrange k (row m last)) (sym long) then)

    pub see_built_last : (page : Option ℕ) → BuildsTouched page (pass_of (get_or met i m)) (pass_of new) → SeeBuiltOn i page first last
    see_built_last page touched built have =
        let then = see_built_on n i inside (row m first) (row m met) (row m acted) (row m last) line.before line.after call.0 others page
        (subst (λ (x : Pass). BuildsTouched page (row m met i) x) (sym acted_is) touched) built (rows_seen_built first m built have) in
        have_seen_built last m (built_after built i page) (subst (λ (k : ℕ). SeeTheirs k (row m last) (built_after built i page)) (sym long) then)

    -- no page is busy
    pub never_waits : (action : Action) (registers : List ℕ) (p : ℕ) → Refuses u action registers (pass_of (get_or met i m)) (pass_of new) (Busy p) → ⊥
    never_waits action registers p h = never_busy (steps_of (cells_of space)) n i inside (row m first) (row m met) (row m acted) (row m last) crew line.crew_met
        (λ k lt. (get_or met k m).hand.rests) line.before second call.0 others u action registers p
        (subst (λ (x : Pass). Refuses u action registers (row m met i) x (Busy p)) (sym acted_is) h)

    pub was_turned_down : (action : Action) (registers : List ℕ) (refusal : Refusal) → did (pass_of new) ≡ did (pass_of (get_or met i m))
        → Refuses u action registers (pass_of (get_or met i m)) (pass_of new) refusal → (journals : Journals) → HaveAll first journals → IsTurnedDown u i first last journals action registers refusal
    was_turned_down action registers refusal same h journals have =
        let merged = rows_have first m journals have in
        record {
          old = row m met i;
          new = row m acted i;
          began = λ x at. subst (λ (y : Pass). Grows y (row m met i)) (row_at first m x i at) ((before m).grows i inside);
          met = λ k x at. subst (λ (y : Pass). KnowsToo y (row m met i)) (row_at first m x k at) (knows_each _ n i _ _ _ _ line k (is_inside first k x at));
          wrote_none = did_same same;
          saw_none = saw_none _ n i _ _ _ _ line (did_same same) journals merged;
          did = sym (did_same same) ∙ sym (second.did i inside) ∙ sym (written_at last m i (omega (arith, inside, long)));
          knows = knows _ n i _ _ _ _ line journals merged;
          starts = λ made p offset at. knows_starts _ n i _ _ _ _ line u journals merged (λ k lt. made k (get_or first k m) (at_or first k m lt)) p offset at;
          grows = call.0;
          refuses = subst (λ (x : Pass). Refuses u action registers (row m met i) x refusal) (sym acted_is) h;
          ends = λ x at. subst (λ (y : Pass). Grows (row m acted i) y) (row_at last m x i at) (second.grows i inside);
        }

-- what holds of a refusal, together with what holds of every refusal
pub err_with : {T E : Type 0} (r : Result T E) (Q : Type 0) (P P' : E → Type 0) → OnErr r Q → (Q → (e : E) → P e → P' e) → IfErr r P → IfErr r P'
err_with (Ok x) Q P P' q f h = tt
err_with (Err e) Q P P' q f h = f q e h
