use Rattle.std.proofs.Common.{◌≡◌, ℕ, List, length, ap, ◌∙◌}
use Rattle.stopped_heap.proofs.Guardians.{parted-long}
use Rattle.rest_handle.proofs.guarding.found_guarded.Goals as goal

pub returns-in-Ok-clause-long : goal.returns-in-Ok-clause-long
returns-in-Ok-clause-long c =
    let parted = c.in-Ok.ensures.parted in
    ap (λ (xs : List ℕ). length xs) parted.1.order ∙ parted-long c.args.edition parted.0 c.args.guarded.now
