use Rattle.std.proofs.Common.{ℕ, ◌∙◌, All, ap, sym, subst, drop, length}
use Rattle.std.proofs.lemmas.List.{take_at}
use Rattle.comp_history.specs.CellEnds.{lists as items_of}
use Rattle.comp_dump.specs.Dumped.{IsStoredList}
use Rattle.comp_audit.proofs.checks.claims.count_builds.Goals as goal

pub count_lists-requires-clause-below : goal.count_lists-requires-clause-below
count_lists-requires-clause-below c =
    subst (λ (n : ℕ). All (IsStoredList n) (items_of c.args.builds.now)) (sym (c.deref_mut.ensures.len ∙ c.in_ok-counts.ensures.len)) c.requires

pub returns-clause-length : goal.returns-clause-length
returns-clause-length c =
    let new = c.count_lists.new.counts in
    let same = c.count_lists.ensures.length ∙ c.deref_mut.ensures.len in
    ap length (take_at new (drop (length new) c.in_ok-counts.counts.items) c.in_ok-counts.counts.len same) ∙ same ∙ c.in_ok-counts.ensures.len
