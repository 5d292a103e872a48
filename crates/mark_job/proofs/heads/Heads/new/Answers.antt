use Rattle.std.proofs.Common.{List, ℕ, [], subst, sym, ◌∙◌}
use Rattle.atomic_table.specs.Table.{opening}
use Rattle.mark_job.specs.Heads.{Grows, knows_first}
use Rattle.mark_job.proofs.Growing.{opens}
use Rattle.mark_job.proofs.heads.Heads.new.Goals as goal

pub of_words-requires : goal.of_words-requires
of_words-requires c =
    let first = c.args.first.now in
    subst (λ (ws : List ℕ). Grows first (opening ws [] (knows_first first))) (sym (c.deref.ensures.value ∙ c.first.view_is)) (opens first)
