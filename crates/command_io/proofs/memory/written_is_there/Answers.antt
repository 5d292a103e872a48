use Rattle.std.proofs.Common.{ℕ, List, ◌++◌, ap, subst, ◌∙◌}
use Rattle.command_io.specs.Memory.{HasPut}
use Rattle.command_io.proofs.memory.written_is_there.Goals as goal

-- the writer was empty, and took these bytes
pub returns : goal.returns
returns c = λ from to output path bytes h. subst (λ (xs : List ℕ). HasPut from path xs to) (h.appended ∙ ap (λ (xs : List ℕ). xs ++ bytes) h.given) h.kept
