use Rattle.std.proofs.Common.{◌≡◌, length, drop, List, ℕ, subst, arith}
use Rattle.std.proofs.lemmas.Grind.{common_steps}
use Rattle.std.proofs.lemmas.List.{take_at}
use Rattle.rest_marks.specs.LaneParts.{AreBoth}
use Rattle.rest_marks.proofs.lane_bits.united.Goals as goal

pub returns-clause-both : goal.returns-clause-both
returns-clause-both c =
    let bits = c.args.bits in
    let new = c.unite.new.bits in
    let long : length new ≡ bits.len = grind (arith, common_steps, c.unite.ensures.length) in
    rw (take_at new (drop (length new) bits.items) bits.len long)
    (subst (λ (xs : List ℕ). AreBoth xs c.args.other.items new) c.deref_mut.ensures.value
    (subst (λ (ys : List ℕ). AreBoth c.deref_mut.result.now ys new) c.deref.ensures.value c.unite.ensures.both))
