use Rattle.std.proofs.Common.{◌≡◌, ℕ, ◌+◌, ◌*◌, ◌<◌, List, [], ◌∷◌, ◌++◌, ap, get_or, ◌∙◌, arith, below_more}
use Rattle.comp_access.proofs.FillCounts.{length_pushed, zero_pushed}
use Rattle.comp_access.proofs.hand.empty_fills.Goals as goal

pub loop-page-preserved : goal.loop-page-preserved
loop-page-preserved c =
    let h = c.loop-page.invariant in
    let before = c.loop-page.fills.items in
    let items : c.push_reserved.new.self.items ≡ before ++ 0 ∷ [] = c.push_reserved.ensures.items ∙ ap (λ (l : List ℕ). l ++ 0 ∷ []) c.in_ok-reserve.ensures.items in
    let long = length_pushed _ before items in
    record {
      page_is = omega (arith, h.page_is, ap (λ n. n * c.args.mutators) long);
      few = omega (arith, h.few, h.below);
      below = omega (arith, h.below);
      zero = λ i. ap (λ (l : List ℕ). get_or l i 0) items ∙ zero_pushed before h.zero i;
      there = λ i lt. below_more (λ k. c.args.number + k * c.args.mutators < c.args.fresh) _ h.there (omega (arith, h.page_is)) i (omega (arith, lt));
    }
