-- What a journal without a fault means for the cells.
use Rattle.std.specs.Prelude.{◌≡◌, ◌↔◌, ℕ, List, []}
use Rattle.comp_journal.specs.declared.entry.Entry.{Entry}
use Rattle.comp_history.specs.Lists.{Rises}
use Rattle.comp_history.specs.Setup.{Setup}
use Rattle.comp_history.specs.Lawful.{IsLawful}
use Rattle.comp_audit.specs.Checks.{entry_faults}

-- a journal has no fault if and only if it is lawful and its stamps rise
abbrev pub FaultlessIsLawful : Type 0
FaultlessIsLawful = (u : Setup) (p : ℕ) (journal : List Entry) → (entry_faults u p 0 0 [] journal ≡ []) ↔ (IsLawful u p journal × ((n : ℕ) × Rises 0 journal n))
