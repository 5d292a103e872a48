use Rattle.std.proofs.Common.{List, ℕ, OnErr, subst}
use Rattle.young_heap.specs.Cards.{AreCleanCards}
use Rattle.young_heap.specs.Young.{AreOld}
use Rattle.young_heap.proofs.Watermarks.{err-against}
use Rattle.young_heap.proofs.old_tables.OldTables.check.Goals as goal

pub returns-clause-only : goal.returns-clause-only
returns-clause-only c =
    let e = c.args.edition in
    let words = c.args.words.now in
    let cards = c.args.cards.now in
    let old = c.self.inside.watermark in
    let against = err-against e words c.deref.result.now old cards c.check_old.result c.check_old.ensures.fault in
    rw (← c.self.view_is)
    (subst (λ (starts : List ℕ). OnErr c.check_old.result (AreOld e words starts old → AreCleanCards e words starts old cards → ⊥)) c.deref.ensures.value against)
