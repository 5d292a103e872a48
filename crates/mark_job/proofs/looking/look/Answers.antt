use Rattle.std.proofs.Common.{◌≡◌, ℕ, ◌<◌, List, length, get_or, refl, sym, ap, subst, ◌∙◌, arith}
use Rattle.std.proofs.lemmas.List.{get_or_default}
use Rattle.std.proofs.lemmas.List.Elements.{All-get_or}
use Rattle.rest_marks.specs.Following.{IsAhead}
use Rattle.rest_marks.proofs.Copied.{ahead-stays}
use Rattle.rest_marks.proofs.Reaching.{reached-inside}
use Rattle.mark_job.specs.Asked.{Asked, IsMetIn}
use Rattle.mark_job.proofs.looking.look.Goals as goal

pub shape-shape-requires-clause-inside : goal.shape-shape-requires-clause-inside
shape-shape-requires-clause-inside c =
    let objects = c.loop.lane-inside.objects.items in
    let next = c.loop.lane-inside.next in
    let image = c.args.image.now in
    let within : next < length objects = omega (arith, c.if-lane-len.false, c.len.ensures) in
    let here : get_or objects next 0 ≡ c.index.result.now = get_or_default objects next 0 c.index.result.now within ∙ sym c.index.ensures in
    let inside : get_or objects next 0 < length image.words =
    reached-inside image.edition image.words image.roots (get_or objects next 0) (All-get_or (IsMetIn image) objects next 0 within c.loop.invariant.met) in
    let same : c.deref.result.now ≡ image.words = c.deref.ensures.value ∙ ap (λ (asked : Asked). asked.words) c.image.view_is in
    subst (λ (xs : List ℕ). c.index.result.now < length xs) (sym same) (subst (λ (n : ℕ). n < length image.words) here inside)

pub loop-preserved : goal.loop-preserved
loop-preserved c =
    let before = c.loop.lane-inside.objects.items in
    let headers = c.shape-shape.new.headers in
    let words = c.args.image.now.words in
    let at = subst (λ (xs : List ℕ). IsAhead c.deref.result.now xs headers c.shape-shape.new.self) c.deref-in-loop.ensures.value c.shape-shape.ensures.ahead in
    let same : c.deref.result.now ≡ words = c.deref.ensures.value ∙ ap (λ (asked : Asked). asked.words) c.image.view_is in
    record {
      met = c.follow.ensures.met;
      ahead = ahead-stays words before c.follow.new.objects.items headers c.shape-shape.new.self
          (subst (λ (xs : List ℕ). IsAhead xs before headers c.shape-shape.new.self) same at) (c.if-not-follow.ensures.stay refl);
      order = omega (arith, c.shape-shape.ensures.order);
    }
