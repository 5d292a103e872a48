use Rattle.std.proofs.Common.{◌≡◌, ◌+◌, ◌*◌, sym, subst, ℕ, ◌∙◌, arith}
use Rattle.rest_marks.specs.Starts.{IsStart}
use Rattle.rest_marks.proofs.Starting.{start-same, start-set, starts-none, starts-more, starts-all}
use Rattle.rest_marks.proofs.starts.put_starts.Goals as goal
use Rattle.rest_marks.proofs.starts.put_starts.Goals.{then-block-ne0, else-block-ne0}

pub loop-block-init : goal.loop-block-init
loop-block-init c = record {
  starts = rw c.clear.ensures.items (starts-none c.args.heads.now);
  base = omega arith;
  room = c.clear.ensures.capacity;
}

pub push_reserved-requires : goal.push_reserved-requires
push_reserved-requires c = omega (arith, c.loop-block.invariant.starts.long, c.loop-block.invariant.room, c.loop-block-test.true, c.requires.room)

pub overflow_add-last : goal.overflow_add-last
overflow_add-last c = omega (arith, c.loop-block.invariant.base, c.loop-block-test.true, c.requires.few, c.last_set.ensures.known)

pub overflow_add-base : goal.overflow_add-base
overflow_add-base c = omega (arith, c.loop-block.invariant.base, c.loop-block-test.true, c.requires.few)

pub loop-block-preserved : goal.loop-block-preserved
loop-block-preserved c =
    let heads = c.args.heads.now in
    let b = c.loop-block.block-index in
    let base = c.loop-block.invariant.base in
    let next : IsStart heads (b + 1) c.if-block-ne0.last = elim c.if-block-ne0.branch [
      | then-block-ne0 w ↦
          let at : c.if-block-ne0.last ≡ 64 * b + w.last_set.result = omega (arith, w.last-is, base) in
          subst (λ (n : ℕ). IsStart heads (b + 1) n) (sym at) (start-set heads b w.last_set.result w.last_set.ensures.known w.last_set.ensures.here w.last_set.ensures.last)
      | else-block-ne0 w ↦ subst (λ (n : ℕ). IsStart heads (b + 1) n) (sym w.last-is) (start-same heads b c.loop-block.last c.loop-block.invariant.starts.next w.if-block-ne0.false)
    ] in
    record {
      starts = rw c.push_reserved.ensures.items (starts-more heads c.loop-block.starts.items b c.loop-block.last c.if-block-ne0.last c.loop-block.invariant.starts next);
      base = omega (arith, base);
      room = c.push_reserved.ensures.capacity ∙ c.loop-block.invariant.room;
    }

pub returns-clause-starts : goal.returns-clause-starts
returns-clause-starts c = starts-all c.args.heads.now c.loop-block.starts.items c.loop-block.block-index c.loop-block.last (omega arith) c.loop-block.invariant.starts
