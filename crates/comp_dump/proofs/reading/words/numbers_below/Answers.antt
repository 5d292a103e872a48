use Rattle.std.proofs.Common.{◌∙◌, ◌++◌, ◌∷◌, [], ℕ, List, ap, arith, sym}
use Rattle.comp_dump.proofs.LeftWords.{numbers_next}
use Rattle.comp_dump.proofs.reading.words.numbers_below.Goals as goal

pub loop-p-preserved : goal.loop-p-preserved
loop-p-preserved c =
    let inv = c.loop-p.invariant in
    record {
      same = c.push_reserved.ensures.items ∙ ap (λ (front : List ℕ). front ++ c.loop-p.p ∷ []) inv.same ∙ sym (numbers_next c.loop-p.p);
      count = omega (arith, c.push_reserved.ensures.len, inv.count);
      room = omega (arith, c.push_reserved.ensures.capacity, inv.room);
    }
