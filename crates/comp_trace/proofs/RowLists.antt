-- Mutators as a list, and their passes by indices.
use Rattle.std.proofs.Common.{◌≡◌, ℕ, zero, suc, ◌<◌, ◌++◌, List, [], ◌∷◌, length, get_or, inl, inr, refl, sym, ap, subst, ◌∙◌, arith}
use Rattle.std.specs.Prelude.{◌⊎◌}
use mathlib.Core.Option.{some}
use lib.ListN.{get_elem?}
use Rattle.comp_mutator.specs.Builder.{Ghosts}
use Rattle.comp_mutator.specs.Entry.{Entry}
use Rattle.comp_mutator.specs.Locks.{Journals}
use Rattle.comp_mutator.specs.Lists.{times}
use Rattle.comp_mutator.specs.Passes.{builds_of, did, number_of, HasSeenBuilt}
use Rattle.comp_mutator.specs.Setup.{Setup}
use Rattle.comp_mutator.specs.Pass.{Pass}
use Rattle.comp_mutator.proofs.Sums.{is_inside, read_at}
use Rattle.comp_mutator.specs.CellViews.{steps_of, Works}
use Rattle.comp_mutator.specs.Merged.{written_by}
use Rattle.comp_mutator.specs.Mutators.{cells_of, pass_of, setup_of, AreMutatorsOf}
use Rattle.comp_mutator.specs.declared.mutator.Mutator.{Mutator}
use Rattle.comp_mutator.specs.declared.space.Space.{Space}
use Rattle.comp_trace.specs.LineBuilds.{built_by, HaveBuilt, HaveSeenBuilt}
use Rattle.comp_trace.specs.WrittenEntries.{written_by_each, AreMerged, WrittenEntries, HaveAll}
use Rattle.comp_trace.specs.Lines.{with_entries}
use Rattle.comp_trace.specs.AllMutators.{AreAll}
use Rattle.comp_trace.specs.RoundsOfMeetings.{row, Advances, AreLater, DidNothing, Learns}
use Rattle.comp_trace.specs.declared.text.line.Action.{Action}
use Rattle.comp_trace.proofs.BetweenRounds.{dids, IsCrew}
use Rattle.comp_trace.proofs.Building.{BuiltTheirs, HaveStrange, SeeTheirs}
use Rattle.comp_trace.proofs.Merging.{merged_by}
use Rattle.comp_trace.proofs.Elements.{at_or}

-- what the mutator at an index did
pub written_at : {L : Type 0} (mutators : List (Mutator L)) (d : Mutator L) (k : ℕ) → k < length mutators → written_by_each mutators k ≡ dids (row d mutators) k
written_at [] d k lt = absurd (omega arith)
written_at (m ∷ mutators) d zero lt = refl
written_at (m ∷ mutators) d (suc k) lt = written_at mutators d k (omega arith)

-- the pass of the mutator at an index
pub row_at : {L : Type 0} (mutators : List (Mutator L)) (d m : Mutator L) (k : ℕ) → get_elem? mutators k ≡ some m → row d mutators k ≡ pass_of m
row_at mutators d m k at = ap pass_of (read_at mutators k m d at)

-- journals that have all that the mutators did
pub rows_have : {L : Type 0} (mutators : List (Mutator L)) (d : Mutator L) (journals : Journals) → HaveAll mutators journals → AreMerged (length mutators) (dids (row d mutators)) journals
rows_have mutators d journals h p = merged_by (length mutators) (written_by_each mutators) (dids (row d mutators)) p (journals p) (written_at mutators d) (h p)

pub have_all : {L : Type 0} (mutators : List (Mutator L)) (d : Mutator L) (journals : Journals) → AreMerged (length mutators) (dids (row d mutators)) journals → HaveAll mutators journals
have_all mutators d journals h p = merged_by (length mutators) (dids (row d mutators)) (written_by_each mutators) p (journals p) (λ k lt. sym (written_at mutators d k lt)) (h p)

-- a line that ran, with the deeds written in another way
pub advances_by : (u : Setup) (n i : ℕ) (written later other after : WrittenEntries) (journals : Journals) (action : Action) (registers : List ℕ) (answer : ℕ) → ((k : ℕ) → k < n → written k ≡ other k)
    → ((k : ℕ) → k < n → later k ≡ after k) → Advances u n i written later journals action registers answer → Advances u n i other after journals action registers answer
advances_by u n i written later other after journals action registers answer was is h = record {
  added = h.added;
  acts = h.acts;
  did = λ k lt. sym (is k lt) ∙ h.did k lt ∙ ap (λ (l : List (ℕ × Entry)). l ++ written_by k h.added) (was k lt);
  merged = λ p. merged_by n later after p (with_entries journals h.added p) is (h.merged p);
}

-- all mutators of a space are all passes of its table
pub crew_of : {L : Type 0} {B : Type 0} {g : Ghosts B} (space : Space L B g) (mutators : List (Mutator L)) (d : Mutator L) → AreAll space mutators
    → IsCrew (steps_of (cells_of space)) (length mutators) (row d mutators)
crew_of space mutators d all = record {
  numbers = λ k lt. all.numbers k (get_or mutators k d) (at_or mutators k d lt);
  works = λ k lt. subst (λ (n : ℕ). Works (steps_of (cells_of space)) n (row d mutators k)) (sym all.count) (all.of k d lt);
}

-- they still are later, if each mutator still works and has the same number
pub crew_later : {L : Type 0} {B : Type 0} {g : Ghosts B} (space : Space L B g) (n : ℕ) (mutators : List (Mutator L)) (d : Mutator L) → n ≡ (setup_of space).mutators → length mutators ≡ n
    → AreMutatorsOf space mutators → ((k : ℕ) → k < n → number_of (row d mutators k) ≡ k) → IsCrew (steps_of (cells_of space)) n (row d mutators)
crew_later space n mutators d count long of numbers = record {
  numbers = numbers;
  works = λ k lt. subst (λ (m : ℕ). Works (steps_of (cells_of space)) m (row d mutators k)) (sym count) (of k d (omega (arith, lt, long)));
}

pub all_later : {L : Type 0} {B : Type 0} {g : Ghosts B} (space : Space L B g) (n : ℕ) (mutators : List (Mutator L)) (d : Mutator L) → n ≡ (setup_of space).mutators → length mutators ≡ n
    → AreMutatorsOf space mutators → ((k : ℕ) → k < n → number_of (row d mutators k) ≡ k) → AreAll space mutators
all_later space n mutators d count long of numbers = record {
  of = of;
  count = long ∙ count;
  numbers = λ k m at. ap number_of (sym (row_at mutators d m k at)) ∙ numbers k (omega (arith, is_inside mutators k m at, long));
}

-- the same mutators, later on
pub later_by : {L : Type 0} (old new : List (Mutator L)) (d : Mutator L) → length new ≡ length old → ((k : ℕ) → k < length old → Learns (row d old k) (row d new k)) → AreLater old new
later_by old new d long h = record {
  count = long;
  learn = λ k before after was is.
      subst (λ (x : Pass). Learns x (pass_of after)) (row_at old d before k was) (subst (λ (x : Pass). Learns (row d old k) x) (row_at new d after k is) (h k (is_inside old k before was)));
}

pub nothing_by : {L : Type 0} (old new : List (Mutator L)) (d : Mutator L) → length new ≡ length old → ((k : ℕ) → k < length old → did (row d new k) ≡ did (row d old k)) → DidNothing old new
nothing_by old new d long h k lt = written_at new d k (omega (arith, lt, long)) ∙ h k lt ∙ sym (written_at old d k lt)

-- what all have seen built, by indices
pub rows_seen_built : {L : Type 0} (mutators : List (Mutator L)) (d : Mutator L) (built : List (ℕ × ℕ)) → HaveSeenBuilt mutators built → SeeTheirs (length mutators) (row d mutators) built
rows_seen_built mutators d built h = λ p k there lt. h p there k (get_or mutators k d) (at_or mutators k d lt)

pub have_seen_built : {L : Type 0} (mutators : List (Mutator L)) (d : Mutator L) (built : List (ℕ × ℕ)) → SeeTheirs (length mutators) (row d mutators) built → HaveSeenBuilt mutators built
have_seen_built mutators d built h = λ p there k m at. subst (λ (x : Pass). HasSeenBuilt x p) (row_at mutators d m k at) (h p k there (is_inside mutators k m at))

-- what was built, by indices
pub rows_built : {L : Type 0} (mutators : List (Mutator L)) (d : Mutator L) (built : List (ℕ × ℕ)) → HaveBuilt mutators built
    → BuiltTheirs (length mutators) (row d mutators) built ⊎ HaveStrange (length mutators) (row d mutators)
rows_built mutators d built (inl h) = inl (record {
  own = λ k lt. h.own k (get_or mutators k d) (at_or mutators k d lt);
  known = rows_seen_built mutators d built h.known;
})
rows_built mutators d built (inr (p, h)) = inr (p, λ k lt. h k (get_or mutators k d) (at_or mutators k d lt))

pub have_built : {L : Type 0} (mutators : List (Mutator L)) (d : Mutator L) (built : List (ℕ × ℕ)) → BuiltTheirs (length mutators) (row d mutators) built ⊎ HaveStrange (length mutators) (row d mutators)
    → HaveBuilt mutators built
have_built mutators d built (inl h) = inl (record {
  own = λ k m at. subst (λ (x : Pass). builds_of x ≡ built_by k built) (row_at mutators d m k at) (h.own k (is_inside mutators k m at));
  known = have_seen_built mutators d built h.known;
})
have_built mutators d built (inr (p, h)) =
    inr (p, λ k m at. subst (λ (x : Pass). HasSeenBuilt x p × (times p (builds_of x) ≡ 0)) (row_at mutators d m k at) (h k (is_inside mutators k m at)))
