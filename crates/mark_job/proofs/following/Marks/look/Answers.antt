use Rattle.std.proofs.Common.{ℕ, List, subst, ◌∙◌, arith}
use Rattle.rest_marks.specs.Following.{IsAhead}
use Rattle.rest_marks.proofs.Copied.{ahead-stays}
use Rattle.mark_job.proofs.following.Marks.look.Goals as goal

pub loop-preserved : goal.loop-preserved
loop-preserved c =
    let before = c.loop.lane-inside.objects.items in
    let headers = c.shape-shape.new.headers in
    let words = c.args.words.now in
    let at = subst (λ (xs : List ℕ). IsAhead words xs headers c.shape-shape.new.self) c.deref.ensures.value c.shape-shape.ensures.ahead in
    record {
      table = c.follow.ensures.table ∙ c.loop.invariant.table;
      ahead = ahead-stays words before c.follow.new.objects.items headers c.shape-shape.new.self at c.in_ok-follow.ensures.places;
      order = omega (arith, c.shape-shape.ensures.order);
    }
