use Rattle.std.proofs.Common.{◌≡◌, ◌∙◌, arith, subst, sym}
use Rattle.heap_layout.specs.Heap.{Heap}
use Rattle.proved_crews.specs.Crews.{KeepsEnd}
use Rattle.proved_crews.proofs.lives.turn.Goals as goal

pub mix_up-requires : goal.mix_up-requires
mix_up-requires c =
    let one = (c.flip.ensures.flipped c.if-not-flip.false).2 in
    let two = (c.flip-2.ensures.flipped c.if-not-flip-2.false).2 in
    (one.0, two.0, one.1, two.1, λ same. let e : 1 ≡ 2 = sym one.2 ∙ same ∙ two.2 in omega (arith, e))

pub returns : goal.returns
returns c = λ done heap keeps.
    let planned = c.plan.ensures c.if-not-plan.false heap keeps in
    let flipped = c.flip.ensures.flipped c.if-not-flip.false in
    let same : flipped.0 ≡ heap = cc (flipped.1, planned) in
    let crew = flipped.2.0 in
    let mixed = c.mix_up.ensures.first c.if-not-mix_up.false crew flipped.2.1 in
    let finished = c.finish-2.ensures c.if-not-finish-2.false crew mixed in
    c.follow.ensures done heap (subst (λ (h : Heap). KeepsEnd h c.finish-2.new.end.kept) (flipped.2.3 ∙ same) finished)
