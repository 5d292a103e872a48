-- What a replay over new mutators leaves.
use Rattle.std.proofs.Common.{◌≡◌, ℕ, ◌<◌, ◌++◌, List, [], length, map, refl, sym, ap, subst, ◌∙◌, arith}
use Rattle.std.specs.List.{range_with_len}
use Rattle.std.proofs.lemmas.List.{length-map}
use mathlib.Core.Option.{some}
use lib.ListN.{get_elem?}
use Rattle.heap_layout.specs.Heap.{live, Heap, IsClosed}
use Rattle.page_plan.specs.Sliding as sliding
use Rattle.page_plan.specs.declared.builder.Builder.{Ghosts}
use Rattle.comp_mutator.specs.Entry.{Entry}
use Rattle.comp_mutator.specs.Passes.{did}
use Rattle.comp_mutator.specs.Setup.{Setup}
use Rattle.comp_mutator.specs.Pass.{Pass}
use Rattle.comp_mutator.proofs.Sums.{is_inside, there_at}
use Rattle.comp_mutator.proofs.Rows.{at_map_back}
use Rattle.comp_mutator.specs.Merged.{written_by}
use Rattle.comp_mutator.specs.Finishes.{history_of, IsFinished}
use Rattle.comp_mutator.specs.Finished.{Finished}
use Rattle.comp_mutator.specs.Mutators.{pass_of, setup_of}
use Rattle.comp_mutator.specs.Orders.{HasNumber, IsInOrder}
use Rattle.comp_mutator.specs.declared.mutator.Mutator.{Mutator}
use Rattle.comp_mutator.specs.declared.space.Space.{Space}
use Rattle.comp_trace.specs.AllMutators.{AreAll}
use Rattle.comp_trace.specs.LineBuilds.{built_by, HaveBuilt}
use Rattle.comp_trace.specs.WrittenEntries.{DidNothingYet}
use Rattle.comp_trace.specs.TraceLines.{AllFit}
use Rattle.comp_trace.specs.declared.steps.shown.Shown.{Shown}
use Rattle.comp_trace.specs.declared.text.fault.TraceFault.{TraceFault}
use Rattle.comp_trace.specs.declared.text.line.Line.{Line}
use Rattle.comp_trace.specs.Bytes.{flipped, no_entries, CutsShort, RunsThrough}
use Rattle.comp_trace.specs.Heaps.{HasRunOver, HasRunWith}
use Rattle.comp_trace.specs.Replays.{HaveReplayed, HaveReplayedWith, HaveStopped}
use Rattle.comp_trace.specs.Runs.{beginning, Runs}
use Rattle.comp_trace.proofs.BuildLists.{lists_built}
use Rattle.comp_trace.proofs.Bytes.{cut_of, deeds_none, have_none, passes_none, written_at, AreOf}
use Rattle.comp_trace.proofs.Histories.{all_added, same_history}
use Rattle.comp_trace.proofs.Inside.{AreInside}

-- all mutators are in the order of their numbers, and none is missing
module _ {L B : Type 0} {g : Ghosts B} (space : Space L B g) (back : List (Mutator L)) (all : AreAll space back) where
  pub all_row : IsInOrder (setup_of space).mutators back back
  all_row = record { count = all.count; numbers = all.numbers; given = λ k m at. (k, at) }

  pub all_there : (k : ℕ) → k < (setup_of space).mutators → HasNumber back k
  all_there k lt =
      let count = all.count in
      let x = there_at back k (omega (arith, count, lt)) in
      (x.0, (k, x.1), all.numbers k x.0 x.1)

abbrev setup_with : Heap → ℕ → ℕ → ℕ → Setup
setup_with heap fresh mutators compacted = record { heap = heap; compacted = compacted; fresh = fresh; mutators = mutators }

pub setup_is : (u : Setup) → u.compacted ≡ sliding.pages (live u.heap) → u ≡ flipped u.heap u.mutators u.fresh
setup_is u e = ap (setup_with u.heap u.fresh u.mutators) e

inside_all : (u : Setup) (n : ℕ) (lines : List Line) → n ≡ u.mutators → AllFit u lines → AreInside n lines
inside_all u n lines e fit = λ k d lt. let h = (fit k d lt).0 in omega (arith, h, e)

-- a replay with its registers is a replay
pub without : {L : Type 0} (u : Setup) (before after : List (Mutator L)) (lines : List Line) (shown : List Shown) (registers : List (List ℕ)) → HaveReplayedWith u before after lines shown registers → HaveReplayed u before after lines shown
without u before after lines shown registers replayed = λ start have. let ran = replayed start have in (ran.0, ran.1, ran.2, ran.3)

pub ran_over : {L : Type 0} (u : Setup) (before after : List (Mutator L)) (lines : List Line) (shown : List Shown) (f : Finished)
    → u.compacted ≡ sliding.pages (live u.heap) → IsClosed u.heap → DidNothingYet before → HaveBuilt before [] → 0 < u.mutators → length before ≡ u.mutators → length after ≡ u.mutators
    → AllFit u lines → HaveReplayed u before after lines shown → IsFinished u (map pass_of after) f
    → HasRunOver u.mutators u.fresh lines shown u.heap f
ran_over {L} u before after lines shown f compacted closed none unbuilt some_mutators many still fit replayed end =
    let ran = replayed no_entries (have_none before none) in
    let added = ran.0.added in
    let row = map pass_of after in
    let crew : length row ≡ u.mutators = length-map after pass_of ∙ still in
    let did_is : (k : ℕ) (pass : Pass) → get_elem? row k ≡ some pass → did pass ≡ written_by k added =
    (λ k pass at.
    let m = at_map_back pass_of after k pass at in
    let below : k < length before = omega (arith, many, still, is_inside after k m.0 m.1) in
    ap did (sym m.2) ∙ sym (written_at after k m.0 m.1) ∙ ran.1.did k below ∙ ap (λ (l : List (ℕ × Entry)). l ++ written_by k added) (deeds_none before none k)) in
    let same = same_history u row f end added (all_added u (length row) lines beginning ran.0 refl (inside_all u (length row) lines crew fit) ran.1.runs) did_is in
    let lists = lists_built u after f ran.0.built (omega (arith, some_mutators, still)) end.pages (ran.2 unbuilt) ∙ ap (λ (n : ℕ). map (λ (k : ℕ). built_by k ran.0.built) (range_with_len 0 n)) still in
    let v : u ≡ flipped u.heap u.mutators u.fresh = setup_is u compacted in
    record {
      end = ran.0;
      runs = subst (λ (w : Setup). Runs w no_entries 1 lines beginning ran.0) v ran.1.runs;
      shown_is = ran.1.shows;
      row = row;
      crew = crew;
      finished = subst (λ (w : Setup). IsFinished w row f) v end;
      history = subst (λ (w : Setup). history_of w f ≡ added) v same;
      builds = lists;
      closed = closed;
    }

-- the registers that a replay leaves are those at the end of the run
pub ran_with : {L : Type 0} (u : Setup) (before after : List (Mutator L)) (lines : List Line) (shown : List Shown) (registers : List (List ℕ)) (f : Finished)
    → u.compacted ≡ sliding.pages (live u.heap) → IsClosed u.heap → DidNothingYet before → HaveBuilt before [] → 0 < u.mutators → length before ≡ u.mutators → length after ≡ u.mutators
    → AllFit u lines → HaveReplayedWith u before after lines shown registers → length registers ≡ length before → IsFinished u (map pass_of after) f
    → HasRunWith u.mutators u.fresh lines shown u.heap f registers
unfolding ran_over without
ran_with u before after lines shown registers f compacted closed none unbuilt some_mutators many still fit replayed wide end =
    let ran = replayed no_entries (have_none before none) in
    record {
      run = ran_over u before after lines shown f compacted closed none unbuilt some_mutators many still fit (without u before after lines shown registers replayed) end;
      registers_are = record { count = wide ∙ many; hold = λ m lt. ran.4 m (omega (arith, lt, many)) };
    }

-- a replay that came to its end ran all lines
pub ran_through : {L : Type 0} (u : Setup) (before after : List (Mutator L)) (lines : List Line) (shown : List Shown)
    → u.compacted ≡ sliding.pages (live u.heap) → DidNothingYet before → HaveReplayed u before after lines shown → RunsThrough (flipped u.heap u.mutators u.fresh) lines shown
ran_through u before after lines shown compacted none replayed =
    let ran = replayed no_entries (have_none before none) in
    subst (λ (w : Setup). RunsThrough w lines shown) (setup_is u compacted) (record { end = ran.0; runs = ran.1.runs; shown_is = ran.1.shows })

-- a replay that stopped is a run that was cut short
pub cut_over : {L : Type 0} (u : Setup) (before after : List (Mutator L)) (lines : List Line) (shown : List Shown) (fault : TraceFault)
    → u.compacted ≡ sliding.pages (live u.heap) → DidNothingYet before → AreOf u before → AreOf u after → AllFit u lines → HaveStopped u before after lines shown fault
    → CutsShort (flipped u.heap u.mutators u.fresh) lines shown fault
cut_over u before after lines shown fault compacted none all all_after fit stopped =
    subst (λ (w : Setup). CutsShort w lines shown fault) (setup_is u compacted) (cut_of u before after [] lines shown fault all all_after none (passes_none before) (inside_all u u.mutators lines refl fit) stopped)
