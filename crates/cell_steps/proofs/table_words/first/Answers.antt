use Rattle.std.proofs.Common.{ℕ, List, ap, ◌∙◌}
use Rattle.std.proofs.Math.ListN.{take}
use Rattle.std.proofs.lemmas.List.{take-replicate}
use Rattle.cell_steps.proofs.table_words.first.Goals as goal

pub returns : goal.returns
returns g c = ap (λ (l : List ℕ). take c.args.n l) c.requires.zeros ∙ take-replicate _ _ 0 c.requires.few
