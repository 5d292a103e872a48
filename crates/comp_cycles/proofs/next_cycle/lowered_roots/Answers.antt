use Rattle.std.proofs.Common.{rules, ◌≡◌, ◌∙◌, ℕ, map, sym}
use Rattle.comp_cycles.specs.NextHeap.{held, lowered}
use Rattle.comp_cycles.proofs.Handed.{lowered_twice}
use Rattle.comp_cycles.proofs.next_cycle.lowered_roots.Goals as goal

pub returns : goal.returns
returns c =
    let each : c.in_ok-collect.field-0.items ≡ map (λ (a : ℕ). lowered c.args.edition (held a)) c.args.roots.now = search rules in
    each ∙ sym (lowered_twice c.args.edition c.args.roots.now)
