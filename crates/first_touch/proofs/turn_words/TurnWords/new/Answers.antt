use Rattle.std.proofs.Common.{◌≡◌, List, ℕ, replicate, get_or, ap, ◌∙◌, arith}
use Rattle.first_touch.proofs.Lists.{all_zero}
use Rattle.first_touch.proofs.TurnSteps.{opens}
use Rattle.first_touch.proofs.turn_words.TurnWords.new.Goals as goal

pub of_words-requires : goal.of_words-requires
of_words-requires c =
    let pages = c.args.pages in
    let zeros : c.deref.result.now ≡ replicate pages 0 =
    c.deref.ensures.value ∙ c.in_ok-words.ensures.items_if_clones_equal (λ y is. is) in
    opens pages c.deref.result.now (omega (arith, c.deref.ensures.len, c.in_ok-words.ensures.len))
    (λ k. ap (λ (ws : List ℕ). get_or ws k 0) zeros ∙ all_zero pages k)
