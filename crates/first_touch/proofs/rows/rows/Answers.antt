use Rattle.std.proofs.Common.{◌≡◌, ℕ, ◌-◌, ◌*◌, ◌<◌, ◌++◌, List, [], ◌∷◌, Some, length, min, subst, sym, ◌∙◌, ap, arith}
use Rattle.first_touch.specs.Pages.{Slot}
use Rattle.first_touch.specs.Rows.{AreRows}
use Rattle.first_touch.proofs.Cutting.{rows_more, some_more, left_more}
use Rattle.first_touch.proofs.rows.rows.Goals as goal

pub loop-rest-preserved : goal.loop-rest-preserved
loop-rest-preserved c =
    let source = c.args.source.now in
    let rows = c.loop-rest.rows.items in
    let page = c.split_at_mut-page.result.0 in
    let behind = c.split_at_mut-page.result.1 in
    let rest = length c.loop-rest.rest.now in
    let left = c.loop-rest.invariant.left in
    let items : c.push.new.self.items ≡ rows ++ Some page ∷ [] = c.in_ok-push.ensures.items in
    let n = c.page_size-n.ensures ∙ ap (λ (s : ℕ). min s rest) c.loop-rest.invariant.size in
    let long = c.split_at_mut-page.ensures.front_len ∙ n in
    record {
      size = c.loop-rest.invariant.size;
      rows = subst (AreRows source) (sym items) (rows_more source rows page rest left long c.loop-rest.invariant.rows);
      some = subst (λ (xs : List Slot). (k : ℕ) → k < length xs → k * source.size < length source.found.indices)
          (sym items)
          (some_more source rows page rest left long (omega (arith, c.loop-rest-test.true)) c.loop-rest.invariant.some);
      left = subst (λ (xs : List Slot). length behind.now ≡ length source.found.indices - length xs * source.size)
          (sym items)
          (left_more source rows page rest left long
          (length behind.now) c.page_size-n.result n c.split_at_mut-page.ensures.back_len);
    }
