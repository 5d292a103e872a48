use Rattle.std.specs.declared.alloc.AllocError.{AllocError}
use Rattle.std.proofs.Common.{Global, Vec, ℕ, List, ap, subst, ◌∙◌}
use Rattle.std.proofs.lemmas.Result.{IfOk-weaker}
use Rattle.std.specs.Mem.Slots.{slots_items}
use Rattle.mark_job.specs.Heads.{AreAmong}
use Rattle.mark_job.specs.Met.{KnownMet}
use Rattle.mark_job.proofs.Growing.{copied, ends}
use Rattle.mark_job.proofs.heads.Heads.close.Goals as goal

pub close_with-closed-requires : goal.close_with-closed-requires
close_with-closed-requires c = ap (λ (m : KnownMet). m.table) c.met.view_is ∙ c.requires.table

pub returns-clause-begun : goal.returns-clause-begun
returns-clause-begun c =
    let key = c.args.self.table.shared.key in
    let seat = c.met.inside.seat in
    let closed = c.close_with-closed.result in
    let words = slots_items closed.words in
    let set = ends key words (slots_items closed.slots) seat.id seat.me.0 c.close_with-closed.ensures.values.2 in
    IfOk-weaker {X = Vec ℕ Global} {Y = AllocError} _ _ _ (λ heads same. copied key words heads.items c.args.count set.0 same) c.first_blocks-heads.ensures.same

pub returns-clause-met : goal.returns-clause-met
returns-clause-met c =
    let seat = c.met.inside.seat in
    let closed = c.close_with-closed.result in
    let words = slots_items closed.words in
    let set = ends c.args.self.table.shared.key words (slots_items closed.slots) seat.id seat.me.0 c.close_with-closed.ensures.values.2 in
    let known : AreAmong c.args.met.bits words = subst (λ (bits : List ℕ). AreAmong bits words) (ap (λ (m : KnownMet). m.bits) c.met.view_is) set.1 in
    IfOk-weaker {X = Vec ℕ Global} {Y = AllocError} _ _ _ (λ heads same. copied c.args.met.bits words heads.items c.args.count known same) c.first_blocks-heads.ensures.same
