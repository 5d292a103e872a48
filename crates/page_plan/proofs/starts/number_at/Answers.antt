use Rattle.std.proofs.Common.{◌≡◌, ℕ, ◌+◌, ◌/◌, get_or, subst, arith}
use Rattle.heap_layout.specs.Heap.{live}
use Rattle.page_plan.specs.Planned.{Covers}
use Rattle.page_plan.proofs.Ranks.{covered, number-found}
use Rattle.page_plan.proofs.starts.number_at.Goals as goal

pub returns : goal.returns
returns c =
    let objects = live c.args.plan.now in
    let n = c.args.new_index in
    let bits = c.starts.result.now in
    let firsts = c.first_objects.result.now in
    let (k, covers) = covered objects n c.requires in
    let first = c.first_objects.ensures.first.each (n / 64) (omega (arith, c.first_objects.ensures.first.long)) in
    let found = number-found objects bits c.starts.ensures.starts n (get_or firsts (n / 64) 0) k first covers in
    let number : k ≡ get_or firsts (n / 64) 0 + c.later_starts-later.result = omega (arith, found, c.later_starts-later.ensures) in
    subst (λ (m : ℕ). Covers objects n m) number covers
