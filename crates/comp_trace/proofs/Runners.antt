-- Runners before and after a race.
use Rattle.std.proofs.Common.{◌≡◌, ℕ, suc, ◌+◌, ◌≤◌, List, [], ◌∷◌, ◌++◌, map, length, take, drop, get_or, All, None, Vec, vec_capacity, sym, ap, ◌∙◌, ⊎_elim, arith, subst, append_assoc, append-nil, length-append}
use Rattle.std.proofs.lemmas.List.{length-map}
use mathlib.Core.Option.{some, some-injective}
use lib.ListN.{get_elem?}
use Rattle.comp_mutator.specs.Builder.{Ghosts}
use Rattle.comp_mutator.specs.Setup.{Setup}
use Rattle.comp_mutator.specs.Lists.{Each}
use Rattle.comp_mutator.proofs.Sums.{is_inside, there_at, take_suc, last_of, read_at}
use Rattle.comp_mutator.proofs.Rows.{at_map, at_map_back}
use Rattle.comp_mutator.specs.Mutators.{pass_of, setup_of, IsMutatorOf}
use Rattle.comp_mutator.specs.Orders.{number_of_mutator}
use Rattle.comp_mutator.specs.declared.mutator.Mutator.{Mutator}
use Rattle.comp_mutator.specs.declared.space.Space.{Space}
use Rattle.comp_trace.specs.Races.{numbered, own_lines, HaveRaced, Ran}
use Rattle.comp_trace.specs.AllMet.{HaveAllMet, HaveOnlyMet}
use Rattle.comp_trace.specs.AllMutators.{AreAll}
use Rattle.comp_trace.specs.Runners.{lines_for, mutator_of, room_in, room_of, run_of, RanItsLines, HaveRooms, HaveRun, IsBlank, IsReady}
use Rattle.comp_trace.specs.declared.text.line.Line.{Line}
use Rattle.comp_trace.specs.declared.races.racing.Run.{Run}
use Rattle.comp_trace.specs.declared.races.runner.Runner.{Runner}
use Rattle.comp_trace.specs.declared.steps.shown.Shown.{Shown}
use Rattle.comp_trace.proofs.Elements.{at_or, written_back}
use Rattle.comp_trace.proofs.OwnLines.{ran_number, HasRunFirst}

-- What holds of a runner while it runs the first k lines.
pub record Running {L : Type 0} {B : Type 0} {g : Ghosts B} (space : Space L B g) (lines : List Line) (k : ℕ) (before runner : Runner L) : Type 0 where
  pub of : IsMutatorOf space runner.mutator
  pub fault : runner.fault ≡ None
  pub room : vec_capacity runner.shown ≡ vec_capacity before.shown
  pub run : HasRunFirst (setup_of space) (numbered 1 lines) k (pass_of before.mutator) runner.registers runner.shown.items (pass_of runner.mutator)

-- The line at an index, if there is one, is the runner's.
pub record IsNextLine {L : Type 0} (lines : List Line) (position : ℕ) (runner : Runner L) : Type 0 where
  pub inside : position ≤ length lines
  pub own : (line : Line) → get_elem? lines position ≡ some line → line.mutator ≡ number_of_mutator runner.mutator

-- what holds of all, by indices
pub all_at : {A : Type 0} (P : A → Type 0) (l : List A) → All P l → (k : ℕ) (a : A) → get_elem? l k ≡ some a → P a
all_at P l h k a at = subst P (read_at l k a a at) (h k a (is_inside l k a at))

pub at_all : {A : Type 0} (P : A → Type 0) (l : List A) → ((k : ℕ) (a : A) → get_elem? l k ≡ some a → P a) → All P l
at_all P l h = λ k d lt. h k (get_or l k d) (at_or l k d lt)

-- the mutators with their rooms are ready
pub ready_of : {L : Type 0} {B : Type 0} {g : Ghosts B} {A : Type 0} (space : Space L B g) (lines : List Line) (mutators : List (Mutator L)) (rooms : List (Vec Shown A)) (runners : List (Runner L))
    → map mutator_of runners ≡ mutators → map room_of runners ≡ map room_in rooms → Each runners IsBlank → HaveRooms lines mutators rooms → AreAll space mutators
    → Each runners (IsReady space lines)
ready_of {L} {B} {g} {A} space lines mutators rooms runners are have blank h all k runner at =
    let there : get_elem? mutators k ≡ some runner.mutator = ap (λ l. get_elem? l k) (sym are) ∙ at_map mutator_of runners k runner at in
    let room = at_map_back room_in rooms k (room_of runner) (ap (λ l. get_elem? l k) (sym have) ∙ at_map room_of runners k runner at) in
    let fits = h.each k runner.mutator room.0 there room.1 in
    record {
      of = all_at (λ (m : Mutator L). IsMutatorOf space m) mutators all.of k runner.mutator there;
      registers = (blank k runner at).0;
      shown = ap (λ (x : List Shown × ℕ). x.0) (sym room.2) ∙ fits.0;
      fault = (blank k runner at).1;
      room = omega (arith, fits.1, ap (λ (x : List Shown × ℕ). x.1) room.2);
    }

-- what is known of a runner's lines, by its mutator and by its run
moved : {L : Type 0} (u : Setup) (k : ℕ) (lines : List Line) (x y : Runner L) (old new : Mutator L) (run : Run) → mutator_of x ≡ old → mutator_of y ≡ new → run_of y ≡ run → number_of_mutator old ≡ k
    → Ran u (lines_for lines x.mutator) (pass_of x.mutator) (pass_of y.mutator) y.shown.items y.fault
    → Ran u (own_lines k (numbered 1 lines)) (pass_of old) (pass_of new) run.shown.items run.fault
moved {L} u k lines x y old new run is becomes told number h =
    let own : ℕ → List (ℕ × Line) = λ j. own_lines j (numbered 1 lines) in
    subst (λ (z : Run). Ran u (own k) (pass_of old) (pass_of new) z.shown.items z.fault) told
    (subst (λ (z : Mutator L). Ran u (own k) (pass_of old) (pass_of z) y.shown.items y.fault) becomes
    (subst (λ (z : Mutator L). Ran u (own k) (pass_of z) (pass_of y.mutator) y.shown.items y.fault) is
    (subst (λ (j : ℕ). Ran u (own j) (pass_of x.mutator) (pass_of y.mutator) y.shown.items y.fault) (ap number_of_mutator is ∙ number) h)))

-- each ran its lines
pub raced_of : {L : Type 0} {B : Type 0} {g : Ghosts B} (space : Space L B g) (lines : List Line) (mutators : List (Mutator L)) (runners after : List (Runner L)) → map mutator_of runners ≡ mutators
    → length after ≡ length runners → AreAll space mutators
    → ((k : ℕ) (x y : Runner L) → get_elem? runners k ≡ some x → get_elem? after k ≡ some y → RanItsLines space lines x y)
    → HaveRun space lines mutators (map mutator_of after) (map run_of after)
raced_of {L} {B} {g} space lines mutators runners after are long all ran =
    let u = setup_of space in
    let counts : length after ≡ length mutators = long ∙ sym (length-map runners mutator_of) ∙ ap length are in
    let before : (k : ℕ) (x : Runner L) → get_elem? runners k ≡ some x → get_elem? mutators k ≡ some x.mutator = λ k x at. ap (λ l. get_elem? l k) (sym are) ∙ at_map mutator_of runners k x at in
    let ran_at : (k : ℕ) (y : Runner L) → get_elem? after k ≡ some y → (x : Runner L) × (get_elem? runners k ≡ some x) × RanItsLines space lines x y =
    λ k y at. let x = there_at runners k (omega (arith, is_inside after k y at, long)) in (x.0, x.1, ran k x.0 y x.1 at) in
    record {
      all = record {
        of = at_all (λ (m : Mutator L). IsMutatorOf space m) (map mutator_of after) (λ k m at.
            let y = at_map_back mutator_of after k m at in
            subst (λ (z : Mutator L). IsMutatorOf space z) y.2 (ran_at k y.0 y.1).2.of);
        count = length-map after mutator_of ∙ counts ∙ all.count;
        numbers = λ k m at.
            let y = at_map_back mutator_of after k m at in
            let x = ran_at k y.0 y.1 in
            ap number_of_mutator (sym y.2) ∙ ran_number u (lines_for lines x.0.mutator) (pass_of x.0.mutator) (pass_of y.0.mutator) y.0.shown.items y.0.fault x.2.ran
            ∙ all.numbers k x.0.mutator (before k x.0 x.1);
      };
      count = length-map after run_of ∙ counts;
      ran = λ k old new run at now told.
          let y = at_map_back mutator_of after k new now in
          let z = at_map_back run_of after k run told in
          let x = ran_at k y.0 y.1 in
          let same : z.0 ≡ y.0 = some-injective z.0 y.0 (sym z.1 ∙ y.1) in
          let old_is : mutator_of x.0 ≡ old = some-injective (mutator_of x.0) old (sym (before k x.0 x.1) ∙ at) in
          moved u k lines x.0 y.0 old new run old_is y.2 (ap run_of (sym same) ∙ z.2) (all.numbers k old at) x.2.ran;
    }

-- what they ran, if `items` were lent to be run, became `new`, and were taken apart
pub have_run : {L : Type 0} {B : Type 0} {g : Ghosts B} (space : Space L B g) (lines given : List Line) (before : List (Mutator L)) (n : ℕ) (items lent new : List (Runner L)) (mutators : List (Mutator L)) (runs : List Run)
    → lines ≡ given → map mutator_of items ≡ before → n ≡ length items → lent ≡ items → length new ≡ length lent → AreAll space before
    → ((k : ℕ) (x y : Runner L) → get_elem? lent k ≡ some x → get_elem? new k ≡ some y → RanItsLines space lines x y)
    → mutators ≡ map mutator_of (take n (new ++ drop (length new) items)) → runs ≡ map run_of (take n (new ++ drop (length new) items)) → HaveRun space given before mutators runs
have_run {L} space lines given before n items lent new mutators runs read are len same long all ran ms rs =
    let back = written_back n new items (omega (arith, len, long, ap length same)) in
    let done = raced_of space lines before items new are (long ∙ ap length same) all (λ k x y at now. ran k x y (ap (λ l. get_elem? l k) same ∙ at) now) in
    subst (λ (ls : List Line). HaveRun space ls before mutators runs) read
    (subst (λ (l : List (Mutator L)). HaveRun space lines before l runs) (sym (ms ∙ ap (map mutator_of) back))
    (subst (λ (l : List Run). HaveRun space lines before (map mutator_of new) l) (sym (rs ∙ ap (map run_of) back)) done))

-- and then they met
pub met_after : {L : Type 0} {B : Type 0} {g : Ghosts B} (space : Space L B g) (lines : List Line) (before between after : List (Mutator L)) (runs : List Run) → HaveRun space lines before between runs
    → AreAll space after → HaveAllMet (setup_of space) (map pass_of after) → HaveOnlyMet between after → HaveRaced space lines before after runs
met_after space lines before between after runs h all met only = record {
  all = all;
  met = met;
  count = h.count;
  ran = λ k old new run at now told.
      let m = there_at between k (omega (arith, is_inside after k new now, only.count)) in
      record { last = pass_of m.0; ran = h.ran k old m.0 run at m.1 told; met = only.each k m.0 new m.1 now };
}

-- for no mutators, no rooms are enough
pub no_rooms : {L : Type 0} {A : Type 0} (lines : List Line) (rooms : List (Vec Shown A)) → rooms ≡ [] → HaveRooms {L = L} lines [] rooms
no_rooms lines rooms none = record { count = ap length none; each = λ k m room there has. absurd (omega (arith, is_inside [] k m there)) }

-- one room more
pub rooms_more : {L : Type 0} {A : Type 0} (lines : List Line) (mutators : List (Mutator L)) (rooms : List (Vec Shown A)) (k : ℕ) (m : Mutator L) (room : Vec Shown A) → HaveRooms lines (take k mutators) rooms
    → get_elem? mutators k ≡ some m → room.items ≡ [] → length (lines_for lines m) ≤ vec_capacity room → HaveRooms lines (take (k + 1) mutators) (rooms ++ room ∷ [])
rooms_more {L} {A} lines mutators rooms k m room h at none fits =
    let one : k + 1 ≡ suc k = omega arith in
    let more = ap (λ i. take i mutators) one ∙ take_suc mutators k m at in
    record {
      count = omega (arith, h.count, ap length more, length-append (take k mutators) (m ∷ []), length-append rooms (room ∷ []));
      each = λ i x r there has. ⊎_elim
          (λ t. ⊎_elim (λ s. h.each i x r s t) (λ s. absurd (omega (arith, is_inside rooms i r t, h.count, s.0))) (last_of (take k mutators) m x i (ap (λ l. get_elem? l i) (sym more) ∙ there)))
          (λ t. ⊎_elim (λ s. absurd (omega (arith, is_inside (take k mutators) i x s, h.count, t.0)))
          (λ s. subst (λ (y : Mutator L). (r.items ≡ []) × (length (lines_for lines y) ≤ vec_capacity r)) s.1 (subst (λ (z : Vec Shown A). (z.items ≡ []) × (length (lines_for lines m) ≤ vec_capacity z)) t.1 (none, fits)))
          (last_of (take k mutators) m x i (ap (λ l. get_elem? l i) (sym more) ∙ there)))
          (last_of rooms room r i has);
    }

-- one element more goes from what is left to what is done
pub one_moved : {A B : Type 0} (f : A → B) (done more : List B) (x : A) (left rest : List A) (all : List B) → more ≡ done ++ f x ∷ [] → rest ≡ x ∷ left → done ++ map f rest ≡ all → more ++ map f left ≡ all
one_moved f done more x left rest all e r h = ap (λ l. l ++ map f left) e ∙ append_assoc done (f x ∷ []) (map f left) ∙ ap (λ l. done ++ map f l) (sym r) ∙ h

-- the number of elements after they are written back
pub written_count : {A B : Type 0} (f : A → B) (n : ℕ) (after before : List A) (all : List B) → map f before ≡ all → length after ≡ length before → n ≡ length before
    → length (take n (after ++ drop (length after) before)) ≡ length all
written_count f n after before all are long len = ap length (written_back n after before (len ∙ sym long)) ∙ long ∙ sym (length-map before f) ∙ ap length are

-- if nothing is left, all is done
pub nothing_left : {A : Type 0} (done left all : List A) → length left ≡ 0 → done ++ left ≡ all → done ≡ all
nothing_left done [] all e h = sym (append-nil done) ∙ h
nothing_left done (x ∷ xs) all e h = absurd (omega (arith, e))
