use Rattle.std.proofs.Common.{◌≡◌, ◌+◌, ◌*◌, ◌∙◌, ℕ, List, sym, subst, arith}
use Rattle.comp_cycles.specs.Ends.{AreMoved}
use Rattle.comp_cycles.proofs.MovedWords.{blank_added}
use Rattle.comp_cycles.proofs.moving.add_blank.Goals as goal

pub loop-offset-preserved : goal.loop-offset-preserved
loop-offset-preserved c =
    let i = c.loop-offset.invariant in
    let o = c.loop-offset.offset in
    record {
      moved = λ u journals p starts begun blank.
          subst (λ (words : List ℕ). AreMoved u journals (64 * p + (o + 1)) words starts) (sym c.push_reserved.ensures.items)
          (blank_added u journals p o c.loop-offset.words.items starts (omega arith) blank (i.moved u journals p starts begun blank));
      few = omega arith;
      len = omega (arith, i.len);
      capacity = c.push_reserved.ensures.capacity ∙ i.capacity;
    }

pub returns-clause-moved : goal.returns-clause-moved
returns-clause-moved c = λ u journals p starts begun blank.
    let all : 64 * p + c.loop-offset.offset ≡ 64 * (p + 1) = omega arith in
    subst (λ (n : ℕ). AreMoved u journals n c.loop-offset.words.items starts) all (c.loop-offset.invariant.moved u journals p starts begun blank)
