use Rattle.std.proofs.Common.{ℕ, ◌<◌, ◌≤◌, ◌*◌, ◌∙◌, List, length, ap, sym, arith}
use Rattle.mark_tables.specs.LiveWords.{live_below}
use Rattle.mark_tables.proofs.NewPlaces.{below-few, below-all, counted-below}
use Rattle.mark_tables.proofs.tables.Tables.live_below.Goals as goal

pub overflow_add-index : goal.overflow_add-index
overflow_add-index c =
    let bits = c.self.inside.bits.items in
    let within : c.args.i < 64 * length bits = omega arith in
    let counted = counted-below bits c.self.inside.offsets.items c.self.invariant c.args.i within c.index.result.now c.index-2.result.now c.index.ensures c.index-2.ensures in
    omega (arith, counted, below-few bits c.args.i within)

pub returns-then-block-len : goal.returns-then-block-len
returns-then-block-len c =
    let bits = c.self.inside.bits.items in
    let past : 64 * length bits ≤ c.args.i = omega arith in
    c.live_words.ensures ∙ ap length (sym c.self.view_is) ∙ sym (below-all bits c.args.i past) ∙ ap (λ (xs : List ℕ). live_below xs c.args.i) c.self.view_is

pub returns : goal.returns
returns c =
    let bits = c.self.inside.bits.items in
    let within : c.args.i < 64 * length bits = omega arith in
    let counted = counted-below bits c.self.inside.offsets.items c.self.invariant c.args.i within c.index.result.now c.index-2.result.now c.index.ensures c.index-2.ensures in
    c.from.ensures ∙ counted ∙ ap (λ (xs : List ℕ). live_below xs c.args.i) c.self.view_is
