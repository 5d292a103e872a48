use Rattle.std.proofs.Common.{◌≡◌, ◌*◌, List, ℕ, length, ap, ◌∙◌, arith}
use Rattle.std.proofs.lemmas.Grind.{common_steps}
use Rattle.reachability.specs.Queue.{met_below}
use Rattle.reachability.proofs.Indices.{indices-reachable}
use Rattle.reachability.proofs.rounds.marks_by_threads.Goals as goal

pub returns-clause-reachable : goal.returns-clause-reachable
returns-clause-reachable g c =
    let row : c.deref-3.result.now ≡ c.deref-2.result.now = grind (arith, common_steps) in
    let unmet : c.deref-4.result.now ≡ c.meet_reached_by_threads.new.unmet = grind (arith, common_steps) in
    indices-reachable c.args.edition c.args.words.now c.args.roots.now c.deref-2.result.now c.meet_reached_by_threads.new.unmet c.in_ok-indices.field-0.items
    (c.in_ok-indices.ensures
    ∙ ap (λ (bits : List ℕ). met_below bits c.deref-4.result.now (64 * length bits)) row
    ∙ ap (λ (bits : List ℕ). met_below c.deref-2.result.now bits (64 * length c.deref-2.result.now)) unmet)
    c.in_ok-queue.ensures.reachable c.in_ok-queue.ensures.all
