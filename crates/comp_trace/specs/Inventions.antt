-- What a race shows and refuses is made of what its lines wrote.
use Rattle.std.specs.Prelude.{◌≡◌, ℕ, ◌≤◌, List, length, Option, None, Some}
use mathlib.Core.Option.{some}
use lib.ListN.{get_elem?}
use Rattle.heap_layout.specs.Header.{header_with, Head}
use Rattle.heap_layout.specs.declared.kind.Kind.TheVariants.{Data, Header}
use Rattle.comp_mutator.specs.Entry.{Entry}
use Rattle.comp_mutator.specs.Lists.{Each, StartsWith}
use Rattle.comp_mutator.specs.Locks.{Journals}
use Rattle.comp_mutator.specs.Reads.{Reads}
use Rattle.comp_mutator.specs.Setup.{Setup}
use Rattle.comp_mutator.specs.Refusal.TheVariants.{JournalFull}
use Rattle.comp_trace.specs.LineBuilds.{kind_if}
use Rattle.comp_trace.specs.declared.steps.shown.Shown.{Shown}
use Rattle.comp_trace.specs.declared.text.line.Action.{Action}
use Rattle.comp_trace.specs.declared.text.line.Action.TheVariants.{Root, Load, Get, Store, Put, New, Nil, Immediate}
use Rattle.comp_trace.specs.declared.text.line.Line.{Line}
use Rattle.comp_trace.specs.Races.{numbered, own_lines}
use Rattle.comp_trace.specs.declared.races.racing.Run.{Run}

-- the entry has this header
abbrev pub WritesHeader : Option Head → Entry → Type 0
WritesHeader None e = ⊥
WritesHeader (Some header) e = (e.kind ≡ Header) × (e.value ≡ header.word)

-- such a line may write this entry
abbrev pub MayWrite : Setup → Action → Entry → Type 0
MayWrite u (Root to root) e = ⊥
MayWrite u (Load weak to object field) e = ⊥
MayWrite u (Get object field) e = ⊥
MayWrite u (Store weak object field value) e = e.kind ≡ kind_if weak
MayWrite u (Put object field value) e = (e.kind ≡ Data) × (e.value ≡ value)
MayWrite u (New to refs weak data_words tag) e = WritesHeader (header_with u.heap.edition refs weak data_words tag) e
MayWrite u (Nil to) e = ⊥
MayWrite u (Immediate to payload) e = ⊥

-- one of these lines may have written the entry
abbrev pub IsOfLines : Setup → List (ℕ × Line) → Entry → Type 0
IsOfLines u lines e = (j : ℕ) × (line : ℕ × Line) × (get_elem? lines j ≡ some line) × MayWrite u line.1.action e

-- The value is the word of a data field, if each page has a beginning of its journal.
pub record IsReadOf (u : Setup) (journals : Journals) (shown : Shown) : Type 0 where
  pub part : Journals
  pub begins : (p : ℕ) → StartsWith (journals p) (part p)
  pub object : ℕ
  pub field : ℕ
  pub reads : Reads u part Data object field shown.value

-- There is one journal of each page, the same for all mutators.
pub record InventNothing (u : Setup) (lines : List Line) (runs : List Run) : Type 0 where
  pub journals : Journals
  -- each entry is one that a line of its writer wrote
  pub written : (p : ℕ) → Each (journals p) (λ (e : Entry). IsOfLines u (own_lines e.writer (numbered 1 lines)) e)
  -- each value that was shown was read
  pub read : (k : ℕ) (run : Run) → get_elem? runs k ≡ some run → Each run.shown.items (IsReadOf u journals)
  -- a journal for which a line was refused is full
  pub full : (k line p : ℕ) (run : Run) → get_elem? runs k ≡ some run → run.fault ≡ Some (record { line = line; refusal = JournalFull p }) → 1024 ≤ length (journals p)
