-- What a replay shows is determined by bytes.
use Rattle.std.proofs.Common.{◌≡◌, ℕ, zero, suc, ◌<◌, ◌++◌, ◌∙◌, List, [], ◌∷◌, Ok, length, map, refl, sym, ap, subst, arith}
use Rattle.std.proofs.lemmas.List.{length-map}
use mathlib.Core.Option.{some, some-injective, some-ne-none}
use lib.ListN.{get_elem?}
use Rattle.heap_layout.specs.Encoding.{ImagesDiffer}
use Rattle.heap_layout.specs.Heap.{Heap}
use Rattle.page_plan.specs.declared.builder.Builder.{Ghosts}
use Rattle.comp_mutator.specs.Entry.{Entry}
use Rattle.comp_mutator.specs.Lists.{on}
use Rattle.comp_mutator.specs.Setup.{Setup}
use Rattle.comp_mutator.specs.Passes.{did, number_of, view_of}
use Rattle.comp_mutator.specs.Pass.{Pass}
use Rattle.comp_mutator.specs.Calls.{Grows, KnowsToo}
use Rattle.comp_mutator.specs.Refusal.{Refusal}
use Rattle.comp_mutator.proofs.Rows.{at_map_back}
use Rattle.comp_mutator.proofs.Sums.{is_inside, read_at, there_at}
use Rattle.comp_mutator.specs.Merged.{written_by}
use Rattle.comp_mutator.specs.Mutators.{pass_of, setup_of, IsMutatorOf}
use Rattle.comp_mutator.specs.declared.mutator.Mutator.{Mutator}
use Rattle.comp_mutator.specs.declared.space.Space.{Space}
use Rattle.comp_trace.specs.Bytes.{flipped, no_entries, CutsShortAfter, Interrupts, IsCutShort, IsOfRun, Shows, ShowOnce}
use Rattle.comp_trace.specs.AllMutators.{AreAll}
use Rattle.comp_trace.specs.WrittenEntries.{written_by_each, DidNothingYet, HaveAll, KnowTheirs}
use Rattle.comp_trace.specs.Grammar.{parts, trace_of}
use Rattle.comp_trace.specs.Replays.{HaveReplayed, HaveStopped, IsRefused}
use Rattle.comp_trace.specs.Runs.{beginning, MayBegin, Runs}
use Rattle.comp_trace.specs.declared.text.fault.TraceFault.{TraceFault}
use Rattle.comp_trace.specs.declared.text.fault.TraceFault.TheVariants.{BadLine, NoSuchMutator, NoSuchRegister, NumberTooLarge, NoSuchRoot, Refused, OutOfMemory}
use Rattle.comp_trace.specs.declared.text.line.Line.{Line}
use Rattle.comp_trace.specs.declared.steps.shown.Shown.{Shown}
use Rattle.comp_trace.proofs.Determined.{determined}
use Rattle.comp_trace.proofs.Inside.{ok_is, read_inside, AreInside}

shown_once : (heap : Heap) (mutators fresh : ℕ) (text : List ℕ) (shown other : List Shown) → Shows (flipped heap mutators fresh) text shown → Shows (flipped heap mutators fresh) text other → shown ≡ other
shown_once heap mutators fresh text shown other x y =
    let u = flipped heap mutators fresh in
    let lines : x.lines ≡ y.lines = ok_is x.lines y.lines (sym x.text_is ∙ y.text_is) in
    let begins : MayBegin u x.lines no_entries = record { slid = refl; lawful = λ p. tt; mutators = read_inside mutators (length heap.roots) 1 (parts 10 text) x.lines x.text_is } in
    x.shown_is
    ∙ (determined u x.lines no_entries no_entries begins (λ p. refl) x.end y.end x.runs (subst (λ (ls : List Line). Runs u no_entries 1 ls beginning y.end) (sym lines) y.runs)).shown
    ∙ sym y.shown_is

pub show_once : ImagesDiffer → ShowOnce
show_once differ mutators fresh image text shown other x y =
    let same : x.heap ≡ y.heap = differ x.heap y.heap x.stored y.stored x.counted y.counted (sym x.image_is ∙ y.image_is) in
    shown_once x.heap mutators fresh text shown other x.shows (subst (λ (heap : Heap). Shows (flipped heap mutators fresh) text other) (sym same) y.shows)

-- ---- if nothing was done

pub deeds_none : {L : Type 0} (mutators : List (Mutator L)) → DidNothingYet mutators → (k : ℕ) → written_by_each mutators k ≡ []
deeds_none [] none k = refl
deeds_none (m ∷ mutators) none zero = none 0 m refl
deeds_none (m ∷ mutators) none (suc k) = deeds_none mutators (λ j x at. none (suc j) x at) k

pub have_none : {L : Type 0} (mutators : List (Mutator L)) → DidNothingYet mutators → HaveAll mutators no_entries
have_none mutators none p = record { rises = (0, omega arith); own = λ k lt. sym (ap (on p) (deeds_none mutators none k)); strangers = λ k le. refl }

know_none : {L : Type 0} (mutators : List (Mutator L)) → DidNothingYet mutators → KnowTheirs mutators
know_none mutators none k m at p offset there = absurd (some-ne-none there.1 (sym (ap (λ (l : List (ℕ × Entry)). get_elem? (on p l) there.0) (sym (none k m at)) ∙ there.2)))

pub shows_of : {L : Type 0} (u : Setup) (before after : List (Mutator L)) (text : List ℕ) (lines : List Line) (shown : List Shown) → DidNothingYet before
    → trace_of u.mutators (length u.heap.roots) text ≡ Ok lines → HaveReplayed u before after lines shown → Shows u text shown
shows_of u before after text lines shown none text_is h =
    let ran = h no_entries (have_none before none) in
    record { lines = lines; text_is = text_is; end = ran.0; runs = ran.1.runs; shown_is = ran.1.shows }

line_inside : (ms : ℕ) (lines : List Line) (j : ℕ) (line : Line) → AreInside ms lines → get_elem? lines j ≡ some line → line.mutator < ms
line_inside ms lines j line inside there = subst (λ (l : Line). l.mutator < ms) (read_at lines j line line there) (inside j line (is_inside lines j line there))

-- All mutators of some space that is about this heap, by their numbers.
pub record AreOf {L : Type 0} (u : Setup) (mutators : List (Mutator L)) : Type 0 where
  pub count : length mutators ≡ u.mutators
  pub numbers : (k : ℕ) (m : Mutator L) → get_elem? mutators k ≡ some m → number_of (pass_of m) ≡ k
  pub about : (k : ℕ) (m : Mutator L) → get_elem? mutators k ≡ some m → (view_of (pass_of m)).about ≡ u

pub are_of : {L : Type 0} {B : Type 0} {g : Ghosts B} (space : Space L B g) (mutators : List (Mutator L)) → AreAll space mutators → AreOf (setup_of space) mutators
are_of {L} space mutators all = record {
  count = all.count;
  numbers = all.numbers;
  about = λ k m at. (subst (IsMutatorOf space) (read_at mutators k m m at) (all.of k m (is_inside mutators k m at))).of.about;
}

-- what the mutator at an index did
pub written_at : {L : Type 0} (mutators : List (Mutator L)) (k : ℕ) (m : Mutator L) → get_elem? mutators k ≡ some m → written_by_each mutators k ≡ did (pass_of m)
written_at [] k m at = absurd (some-ne-none m (sym at))
written_at {L} (x ∷ xs) zero m at = ap (λ (y : Mutator L). did (pass_of y)) (some-injective x m at)
written_at (x ∷ xs) (suc k) m at = written_at xs k m at

-- passes of mutators
abbrev pub ArePassesOf : {L : Type 0} → List Pass → List (Mutator L) → Type 0
ArePassesOf {L} row mutators = (k : ℕ) (pass : Pass) → get_elem? row k ≡ some pass → (m : Mutator L) × (get_elem? mutators k ≡ some m) × (pass_of m ≡ pass)

pub passes_all : {L : Type 0} (mutators : List (Mutator L)) → ArePassesOf (map pass_of mutators) mutators
passes_all mutators = at_map_back pass_of mutators

pub passes_none : {L : Type 0} (mutators : List (Mutator L)) → ArePassesOf [] mutators
passes_none mutators k pass at = absurd (some-ne-none pass (sym at))

-- a replay that was refused, over mutators that had done nothing
module _ {L : Type 0} (u : Setup) (before after : List (Mutator L)) (lines : List Line) (shown : List Shown) (number : ℕ) (refusal : Refusal)
    (all : AreOf u before) (all_after : AreOf u after) (none : DidNothingYet before) (h : IsRefused u no_entries before after lines shown number refusal)
    (inside : h.line.mutator < length before)
  where
    abbrev m : (x : Mutator L) × (get_elem? before h.line.mutator ≡ some x)
    m = there_at before h.line.mutator inside

    did_is : (k : ℕ) → k < length before → written_by_each after k ≡ written_by k h.end.added
    did_is k lt = h.ran.did k lt ∙ ap (λ (l : List (ℕ × Entry)). l ++ written_by k h.end.added) (deeds_none before none k)

    -- as the call began
    at_first : IsOfRun u h.end h.line.mutator h.cause.old
    at_first =
        let began = h.cause.began m.0 m.1 in
        record {
          numbered = began.number ∙ all.numbers h.line.mutator m.0 m.1;
          about = began.about ∙ all.about h.line.mutator m.0 m.1;
          did = h.cause.did ∙ did_is h.line.mutator inside;
          knows = h.cause.knows;
          built = h.built;
        }

    -- as it ended
    at_end : IsOfRun u h.end h.line.mutator h.cause.new
    at_end = record {
      numbered = h.cause.grows.number ∙ at_first.numbered;
      about = h.cause.grows.about ∙ at_first.about;
      did = h.cause.wrote_none ∙ at_first.did;
      knows = λ p. h.cause.saw_none p ∙ h.cause.knows p;
      built = λ p there. h.cause.grows.built p (h.built p there);
    }

    -- after the line
    at_last : (k : ℕ) (x : Mutator L) → get_elem? after k ≡ some x → IsOfRun u h.end k (pass_of x)
    at_last k x at = record {
      numbered = all_after.numbers k x at;
      about = all_after.about k x at;
      did = sym (written_at after k x at) ∙ did_is k (omega (arith, is_inside after k x at, all.count, all_after.count));
      knows = h.seen k x at;
      built = λ p there. h.known p there k x at;
    }

    pub cut_short : (first : List Pass) → ArePassesOf first before → IsCutShort u first lines shown number refusal
    cut_short first of = record {
      count = h.count;
      number_is = h.number_is;
      line = h.line;
      there = h.there;
      end = h.end;
      runs = h.ran.runs;
      shown_is = h.ran.shows;
      old = h.cause.old;
      new = h.cause.new;
      began = at_first;
      ended = at_end;
      grows = h.cause.grows;
      starts = h.cause.starts (know_none before none);
      met = λ k pass at. let x = of k pass at in subst (λ (y : Pass). KnowsToo y h.cause.old) x.2 (h.cause.met k x.0 x.1);
      refuses = h.cause.refuses;
      waited = h.waited;
      row = map pass_of after;
      crew = length-map after pass_of ∙ all_after.count;
      last = λ k pass at. let x = at_map_back pass_of after k pass at in subst (IsOfRun u h.end k) x.2 (at_last k x.0 x.1);
      ends = λ pass at. let x = at_map_back pass_of after h.line.mutator pass at in subst (Grows h.cause.new) x.2 (h.cause.ends x.0 x.1);
    }

pub cut_of : {L : Type 0} (u : Setup) (before after : List (Mutator L)) (first : List Pass) (lines : List Line) (shown : List Shown) (fault : TraceFault) → AreOf u before → AreOf u after
    → DidNothingYet before → ArePassesOf first before → AreInside u.mutators lines → HaveStopped u before after lines shown fault → CutsShortAfter u first lines shown fault
cut_of u before after first lines shown (Refused number refusal) all all_after none of lines_inside stopped =
    let h = stopped no_entries (have_none before none) in
    cut_short u before after lines shown number refusal all all_after none h (omega (arith, all.count, line_inside u.mutators lines h.count h.line lines_inside h.there)) first of
cut_of u before after first lines shown OutOfMemory all all_after none of lines_inside h = h.0
cut_of u before after first lines shown (BadLine number) all all_after none of lines_inside h = absurd h
cut_of u before after first lines shown (NoSuchMutator number) all all_after none of lines_inside h = absurd h
cut_of u before after first lines shown (NoSuchRegister number) all all_after none of lines_inside h = absurd h
cut_of u before after first lines shown (NumberTooLarge number) all all_after none of lines_inside h = absurd h
cut_of u before after first lines shown (NoSuchRoot number) all all_after none of lines_inside h = absurd h

pub interrupts_of : {L : Type 0} (u : Setup) (before after : List (Mutator L)) (text : List ℕ) (lines : List Line) (shown : List Shown) (fault : TraceFault) → AreOf u before → AreOf u after
    → DidNothingYet before → trace_of u.mutators (length u.heap.roots) text ≡ Ok lines → HaveStopped u before after lines shown fault → Interrupts u (map pass_of before) text shown fault
interrupts_of u before after text lines shown fault all all_after none text_is stopped = record {
  lines = lines;
  text_is = text_is;
  cut = cut_of u before after (map pass_of before) lines shown fault all all_after none (passes_all before) (read_inside u.mutators (length u.heap.roots) 1 (parts 10 text) lines text_is) stopped;
}
