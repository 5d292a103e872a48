use Rattle.std.proofs.Common.{◌≡◌, List, ℕ, length, replicate, get_or, ap, ◌∙◌, arith}
use Rattle.first_touch.proofs.Lists.{all_zero}
use Rattle.first_touch.proofs.Steps.{opens}
use Rattle.first_touch.proofs.pages.Pages.new.Goals as goal

pub new-requires : goal.new-requires
new-requires c =
    let same = ap (λ (ws : List ℕ). length ws) c.deref.ensures.value in
    let zeros : c.deref.result.now ≡ replicate c.len.result 0 =
    c.deref.ensures.value ∙ c.in_ok-words.ensures.items_if_clones_equal (λ y is. is) in
    opens c.args.source.now c.in_ok-rows.rows.items c.deref.result.now
    (omega (arith, same, c.in_ok-words.ensures.len, c.len.ensures))
    (λ k. ap (λ (ws : List ℕ). get_or ws k 0) zeros ∙ all_zero c.len.result k) c.in_ok-rows.ensures.rows
