-- What a replay does.
use Rattle.std.specs.Prelude.{◌≡◌, ℕ, ◌+◌, ◌<◌, true, List, [], ◌∷◌, ◌++◌, length, take}
use mathlib.Core.Option.{some}
use lib.ListN.{get_elem?, get_or}
use Rattle.comp_mutator.specs.Setup.{Setup}
use Rattle.comp_mutator.specs.Locks.{Journals}
use Rattle.comp_mutator.specs.Passes.{HasSeenBuilt}
use Rattle.comp_mutator.specs.Merged.{written_by}
use Rattle.comp_mutator.specs.declared.mutator.Mutator.{Mutator}
use Rattle.comp_mutator.specs.Refusal.{Refusal}
use Rattle.comp_mutator.specs.Refusal.TheVariants.{Busy}
use Rattle.comp_trace.specs.LineBuilds.{is_built, HaveBuilt, HaveSeenBuilt}
use Rattle.comp_trace.specs.WrittenEntries.{written_by_each, AreMerged, WrittenEntries, HaveAll, HaveSeen}
use Rattle.comp_trace.specs.RoundsOfMeetings.{IsTurnedDown}
use Rattle.comp_trace.specs.Runs.{beginning, Moment, Runs}
use Rattle.comp_trace.specs.Lines.{with_entries}
use Rattle.comp_trace.specs.declared.text.fault.TraceFault.{TraceFault}
use Rattle.comp_trace.specs.declared.text.fault.TraceFault.TheVariants.{BadLine, NoSuchMutator, NoSuchRegister, NumberTooLarge, NoSuchRoot, Refused, OutOfMemory}
use Rattle.comp_trace.specs.declared.text.line.Line.{Line}
use Rattle.comp_trace.specs.declared.steps.shown.Shown.{Shown}

-- The lines were run from null registers to this moment. Each of n mutators did what it had done before, and then what
-- it added.
pub record RanTo (u : Setup) (n : ℕ) (start : Journals) (first written : WrittenEntries) (lines : List Line) (shown : List Shown) (end : Moment) : Type 0 where
  pub runs : Runs u start 1 lines beginning end
  pub did : (k : ℕ) → k < n → written k ≡ first k ++ written_by k end.added
  pub shows : shown ≡ end.shown

-- if the mutators had built nothing before, they have built what was built by this moment
abbrev pub BuiltTo : {L : Type 0} → List (Mutator L) → List (Mutator L) → Moment → Type 0
BuiltTo before after end = HaveBuilt before [] → HaveBuilt after end.built

-- if a line was run, each of the mutators has then seen all that was there at the start and all that the run added, and
-- no more
abbrev pub SeenTo : {L : Type 0} → Journals → List (Mutator L) → List Line → Moment → Type 0
SeenTo start after lines end = 0 < length lines → HaveSeen after (with_entries start end.added)

-- for all journals that have exactly what the mutators had done before, they ran the lines to some moment, and the
-- lines showed these values
abbrev pub HaveReplayed : {L : Type 0} → Setup → List (Mutator L) → List (Mutator L) → List Line → List Shown → Type 0
HaveReplayed u before after lines shown =
    (start : Journals) → HaveAll before start → (end : Moment) × RanTo u (length before) start (written_by_each before) (written_by_each after) lines shown end
    × BuiltTo before after end × SeenTo start after lines end

-- the registers of n mutators hold these words
abbrev pub Hold : ℕ → List (List ℕ) → (ℕ → List ℕ) → Type 0
Hold n items registers = (m : ℕ) → m < n → get_or items m [] ≡ registers m

-- the same, and at that moment the registers of the mutators hold these words
abbrev pub HaveReplayedWith : {L : Type 0} → Setup → List (Mutator L) → List (Mutator L) → List Line → List Shown → List (List ℕ) → Type 0
HaveReplayedWith u before after lines shown registers =
    (start : Journals) → HaveAll before start → (end : Moment) × RanTo u (length before) start (written_by_each before) (written_by_each after) lines shown end
    × BuiltTo before after end × SeenTo start after lines end × Hold (length before) registers end.registers

-- no line was run: no value is shown, and the mutators are unchanged
abbrev pub RanNothing : {L : Type 0} → List (Mutator L) → List (Mutator L) → List Shown → Type 0
RanNothing before after shown = (shown ≡ []) × (after ≡ before)

-- The line after the first `count` was refused, and the lines before it were run. At its call its mutator knew all that
-- the mutators did and all that any of them knew before the replay, and had seen each page built that the run built,
-- and there was a cause. After the line each of the mutators has seen all that was there at the start and all that the
-- run added, and each page built that the run built.
pub record IsRefused {L : Type 0} (u : Setup) (start : Journals) (before after : List (Mutator L)) (lines : List Line) (shown : List Shown) (number : ℕ) (refusal : Refusal) : Type 0 where
  pub count : ℕ
  pub number_is : number ≡ count + 1
  pub line : Line
  pub there : get_elem? lines count ≡ some line
  pub end : Moment
  pub ran : RanTo u (length before) start (written_by_each before) (written_by_each after) (take count lines) shown end
  pub cause : IsTurnedDown u line.mutator before after (with_entries start end.added) line.action (end.registers line.mutator) refusal
  pub built : (p : ℕ) → is_built end.built p ≡ true → HasSeenBuilt cause.old p
  pub seen : HaveSeen after (with_entries start end.added)
  -- no page was busy: all mutators are in hand
  pub waited : (p : ℕ) → refusal ≡ Busy p → ⊥
  pub known : HaveSeenBuilt after end.built

-- Why a replay stopped: memory ran out before its first line, or the call of a line was refused.
abbrev pub HaveStopped : {L : Type 0} → Setup → List (Mutator L) → List (Mutator L) → List Line → List Shown → TraceFault → Type 0
HaveStopped u before after lines shown OutOfMemory = RanNothing before after shown
HaveStopped u before after lines shown (Refused number refusal) =
    (start : Journals) → HaveAll before start → IsRefused u start before after lines shown number refusal
HaveStopped u before after lines shown (BadLine number) = ⊥
HaveStopped u before after lines shown (NoSuchMutator number) = ⊥
HaveStopped u before after lines shown (NoSuchRegister number) = ⊥
HaveStopped u before after lines shown (NumberTooLarge number) = ⊥
HaveStopped u before after lines shown (NoSuchRoot number) = ⊥

-- the call of a line was refused
abbrev pub IsRefusal : TraceFault → Type 0
IsRefusal (Refused number refusal) = Unit {0}
IsRefusal OutOfMemory = ⊥
IsRefusal (BadLine number) = ⊥
IsRefusal (NoSuchMutator number) = ⊥
IsRefusal (NoSuchRegister number) = ⊥
IsRefusal (NumberTooLarge number) = ⊥
IsRefusal (NoSuchRoot number) = ⊥

-- ---- within a replay

-- The state of a replay after some lines.
pub record HasReplayed (u : Setup) (n : ℕ) (start : Journals) (first written : WrittenEntries) (lines : List Line) (items : List (List ℕ)) (shown : List Shown) (now : Moment) : Type 0 where
  pub ran : RanTo u n start first written lines shown now
  pub merged : AreMerged n written (with_entries start now.added)
  pub hold : Hold n items now.registers

-- if the replay had come to the line of this number, it has then come to the line after it
abbrev pub GoesOn : {L : Type 0} → Setup → Line → ℕ → List (Mutator L) → List (Mutator L) → List (List ℕ) → List (List ℕ) → List Shown → List Shown → Type 0
GoesOn u line number before after items holding shown showing =
    (start : Journals) (first : WrittenEntries) (lines : List Line) (now : Moment) → number ≡ 1 + length lines
    → HasReplayed u (length before) start first (written_by_each before) lines items shown now
    → (later : Moment) × HasReplayed u (length before) start first (written_by_each after) (lines ++ line ∷ []) holding showing later
    × (HaveBuilt before now.built → HaveBuilt after later.built) × (HaveSeenBuilt before now.built → HaveSeenBuilt after later.built)

-- the call of the line was refused, whatever the state of the replay
abbrev pub CannotGoOn : {L : Type 0} → Setup → Line → List (Mutator L) → List (Mutator L) → List (List ℕ) → List Shown → Refusal → Type 0
CannotGoOn u line before after items shown refusal =
    (start : Journals) (first : WrittenEntries) (lines : List Line) (now : Moment)
    → HasReplayed u (length before) start first (written_by_each before) lines items shown now
    → IsTurnedDown u line.mutator before after (with_entries start now.added) line.action (now.registers line.mutator) refusal
