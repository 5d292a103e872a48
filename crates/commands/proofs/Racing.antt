-- What a race over new mutators leaves.
use Rattle.std.proofs.Common.{◌≡◌, ℕ, ◌<◌, List, All, length, map, refl, sym, ap, subst, ◌∙◌, arith}
use Rattle.std.proofs.lemmas.List.{length-map}
use Rattle.heap_layout.specs.Heap.{live}
use Rattle.page_plan.specs.Sliding as sliding
use Rattle.page_plan.specs.declared.builder.Builder.{Ghosts}
use Rattle.comp_mutator.specs.Lists.{Each}
use Rattle.comp_mutator.specs.Setup.{Setup}
use Rattle.comp_mutator.specs.Pass.{Pass}
use Rattle.comp_mutator.specs.Passes.{number_of}
use Rattle.comp_mutator.proofs.Sums.{is_inside, read_at, there_at}
use Rattle.comp_mutator.specs.CellViews.{steps_of, AreNew, Works}
use Rattle.comp_mutator.proofs.Rows.{at_map_back}
use Rattle.comp_mutator.specs.Finishes.{IsFinished}
use Rattle.comp_mutator.specs.Mutators.{cells_of, pass_of, setup_of}
use Rattle.comp_mutator.specs.Finished.{Finished}
use Rattle.comp_mutator.specs.declared.mutator.Mutator.{Mutator}
use Rattle.comp_mutator.specs.declared.space.Space.{Space}
use Rattle.comp_trace.specs.Grammar.{parts}
use Rattle.comp_trace.specs.Races.{numbered, own_lines, HaveRaced, RanAndMet}
use Rattle.comp_trace.specs.declared.text.fault.RefusedLine.{RefusedLine}
use Rattle.comp_trace.specs.declared.text.line.Line.{Line}
use Rattle.comp_trace.specs.declared.races.racing.Run.{Run}
use Rattle.comp_trace.specs.declared.steps.shown.Shown.{Shown}
use Rattle.comp_trace.proofs.Inside.{read_inside}
use Rattle.commands.specs.TraceTasks.{AreByLine, HasEnded, IsLeastRefusedLine, IsRacedHeap, IsStoppedRace, RanTheirLines}
use Rattle.commands.specs.JoinedRaces.{AreOwn}
use Rattle.command_io.specs.Texts.{HasLines}
use Rattle.comp_trace.proofs.Runnings.{setup_is}
use Rattle.commands.proofs.Walking.{of_run}

-- the mutators of the lines of a text are there
pub all_inside : (mutators roots n : ℕ) (lines : List Line) (text : List ℕ) → n ≡ mutators → HasLines mutators roots lines text → All (λ (line : Line). line.mutator < n) lines
all_inside mutators roots n lines text same read =
    subst (λ (k : ℕ). All (λ (line : Line). line.mutator < k) lines) (sym same) (read_inside mutators roots 1 (parts 10 text) lines read)

module _ {L B : Type 0} {g : Ghosts B} (space : Space L B g) (lines : List Line) (before after : List (Mutator L)) (runs : List Run)
    (new : AreNew (steps_of (cells_of space)) (setup_of space).mutators (map pass_of before)) (raced : HaveRaced space lines before after runs) where
  -- there are as many mutators as there were
  many_before : length before ≡ (setup_of space).mutators
  many_before = sym (length-map before pass_of) ∙ new.count

  pub many_runs : length runs ≡ (setup_of space).mutators
  many_runs = raced.count ∙ many_before

  -- each run showed values of its own lines
  pub each_own : AreOwn lines runs
  each_own = λ k run at.
      let lt = is_inside runs k run at in
      let old = there_at before k (omega (arith, lt, raced.count)) in
      let now = there_at after k (omega (arith, lt, many_runs, raced.all.count)) in
      let r = raced.ran k old.0 now.0 run old.1 now.1 at in
      of_run (setup_of space) (own_lines k (numbered 1 lines)) (pass_of old.0) r.last run.shown.items run.fault r.ran

  have_run : RanTheirLines (setup_of space) lines (map pass_of after) runs
  have_run = record {
    table = steps_of (cells_of space);
    about = refl;
    before = map pass_of before;
    new = new;
    crew = length-map after pass_of ∙ raced.all.count;
    numbers = λ k now at. let n = at_map_back pass_of after k now at in ap number_of (sym n.2) ∙ raced.all.numbers k n.0 n.1;
    works = λ k now at.
        let n = at_map_back pass_of after k now at in
        let works : Works (steps_of (cells_of space)) (setup_of space).mutators (pass_of n.0) =
        subst (λ (m : Mutator L). Works (steps_of (cells_of space)) (setup_of space).mutators (pass_of m)) (read_at after k n.0 n.0 n.1) (raced.all.of k n.0 (is_inside after k n.0 n.1)) in
        subst (λ (pass : Pass). Works (steps_of (cells_of space)) (setup_of space).mutators pass) n.2 works;
    met = raced.met;
    count = many_runs;
    ran = λ k old now run at_old at_now at_run.
        let own = own_lines k (numbered 1 lines) in
        let m = at_map_back pass_of before k old at_old in
        let n = at_map_back pass_of after k now at_now in
        subst (λ (pass : Pass). RanAndMet (setup_of space) own pass now run.shown.items run.fault) m.2
        (subst (λ (pass : Pass). RanAndMet (setup_of space) own (pass_of m.0) pass run.shown.items run.fault) n.2 (raced.ran k m.0 n.0 run m.1 n.1 at_run));
  }

  module _ (compacted : (setup_of space).compacted ≡ sliding.pages (live (setup_of space).heap)) (shown : List Shown) (in_order : AreByLine runs shown) where
    -- a race that came to its end
    pub raced_heap : (f : Finished) → Each runs HasEnded → IsFinished (setup_of space) (map pass_of after) f
        → IsRacedHeap (setup_of space).mutators (setup_of space).fresh lines shown f (setup_of space).heap
    raced_heap f ended end =
        let u = setup_of space in
        let row = map pass_of after in
        let same = setup_is u compacted in
        record {
          row = row;
          runs = runs;
          ran = subst (λ (w : Setup). RanTheirLines w lines row runs) same have_run;
          ended = ended;
          in_order = in_order;
          finished = subst (λ (w : Setup). IsFinished w row f) same end;
        }

    -- a race in which lines were refused
    pub stopped_race : (stop : RefusedLine) → IsLeastRefusedLine runs stop → IsStoppedRace (setup_of space).mutators (setup_of space).fresh lines shown (setup_of space).heap stop.line stop.refusal
    stopped_race stop first = record {
      row = map pass_of after;
      runs = runs;
      ran = subst (λ (w : Setup). RanTheirLines w lines (map pass_of after) runs) (setup_is (setup_of space) compacted) have_run;
      first = first;
      in_order = in_order;
    }
