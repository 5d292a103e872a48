-- The run of a trace by one thread.
use Rattle.std.specs.Prelude.{◌≡◌, ℕ, ◌+◌, ◌<◌, List, [], ◌∷◌, ◌++◌, All, map}
use Rattle.heap_layout.specs.Heap.{live}
use Rattle.page_plan.specs.Sliding as sliding
use Rattle.comp_mutator.specs.Entry.{Entry}
use Rattle.comp_mutator.specs.Setup.{Setup}
use Rattle.comp_mutator.specs.Lists.{but}
use Rattle.comp_mutator.specs.Lawful.{IsLawful}
use Rattle.comp_mutator.specs.Locks.{Journals}
use Rattle.comp_trace.specs.Acting.{null_registers, registers_after, shown_at}
use Rattle.comp_trace.specs.LineBuilds.{built_after, touched}
use Rattle.comp_trace.specs.declared.text.line.Line.{Line}
use Rattle.comp_trace.specs.declared.steps.shown.Shown.{Shown}
use Rattle.comp_trace.specs.Lines.{with_entries, Acts}

-- A moment of a run.
--     registers    the words in the registers of each mutator
--     added        the entries that were added since the run began, each with its page
--     shown        the values that were shown, each with its line
--     built        the pages that were built, each with the mutator that built it
pub record Moment : Type 0 where
  pub registers : ℕ → List ℕ
  pub added : List (ℕ × Entry)
  pub shown : List Shown
  pub built : List (ℕ × ℕ)

-- no register has been set, and nothing was added, shown or built
abbrev pub beginning : Moment
beginning = record { registers = λ m. null_registers; added = []; shown = []; built = [] }

-- What line n does.
pub record Does (u : Setup) (start : Journals) (n : ℕ) (line : Line) (before after : Moment) : Type 0 where
  pub answer : ℕ
  pub new : List (ℕ × Entry)
  pub acts : Acts u (with_entries start before.added) line.mutator line.action (before.registers line.mutator) new answer
  pub registers : after.registers ≡ but before.registers line.mutator (registers_after line.action (before.registers line.mutator) answer)
  pub added : after.added ≡ before.added ++ new
  pub shown : after.shown ≡ before.shown ++ shown_at n line.action answer
  pub built : after.built ≡ built_after before.built line.mutator (touched u line.action (before.registers line.mutator) answer)

-- the lines from line n on are run, from one moment to another
abbrev pub Runs : Setup → Journals → ℕ → List Line → Moment → Moment → Type 0
Runs u start n [] before after = after ≡ before
Runs u start n (line ∷ lines) before after = (middle : Moment) × Does u start n line before middle × Runs u start (n + 1) lines middle after

-- ---- a run is determined

-- an entry without its stamp
abbrev pub unstamped : Entry → Entry
unstamped e = record e { stamp = 0 }

-- the same of an entry with its page
abbrev pub unstamped_on : ℕ × Entry → ℕ × Entry
unstamped_on x = (x.0, unstamped x.1)

-- The moments are the same, except for the stamps of entries.
pub record AreAlike (a b : Moment) : Type 0 where
  pub registers : a.registers ≡ b.registers
  pub added : map unstamped_on a.added ≡ map unstamped_on b.added
  pub shown : a.shown ≡ b.shown
  pub built : a.built ≡ b.built

-- journals with which a run may begin
pub record MayBegin (u : Setup) (lines : List Line) (start : Journals) : Type 0 where
  pub slid : u.compacted ≡ sliding.pages (live u.heap)
  pub lawful : (p : ℕ) → IsLawful u p (start p)
  pub mutators : All (λ (line : Line). line.mutator < u.mutators) lines

-- Two runs of the same lines begin with journals that are the same except for stamps. They then show the same values
-- and leave the same words in the registers. The same mutators build the same pages. The same entries are added, except
-- for stamps.
abbrev pub IsDetermined : Setup → List Line → Type 0
IsDetermined u lines = (start other : Journals) → MayBegin u lines start → ((p : ℕ) → map unstamped (start p) ≡ map unstamped (other p))
    → (a b : Moment) → Runs u start 1 lines beginning a → Runs u other 1 lines beginning b → AreAlike a b
