use Rattle.std.proofs.Common.{◌≡◌, ◌+◌, List, ◌∷◌, [], ◌++◌, ℕ, All, length, length-append, refl, sym, ap, subst, ◌∙◌, arith}
use Rattle.std.proofs.lemmas.List.Elements.{All-push}
use Rattle.comp_ledger.specs.Shares.{numbers_of, posted_of}
use Rattle.comp_ledger.proofs.Numbers.{below-push, numbers_of-push}
use Rattle.comp_ledger.proofs.ledger.Ledger.new.Goals as goal

pub loop-number-preserved : goal.loop-number-preserved
loop-number-preserved g c =
    let before = c.loop-number.invariant in
    let made = c.loop-number.shares.items in
    let number = c.loop-number.number in
    let split = c.split_off-token.ensures in
    let push = c.push_reserved.ensures in
    record {
      parts = omega (arith, before.parts, split.parts_left);
      amount = omega (arith, before.amount, split.amount_left);
      numbers = ap numbers_of push.items ∙ numbers_of-push made _ ∙ ap (λ (l : List ℕ). l ++ number ∷ []) before.numbers ∙ sym (below-push number);
      none = subst (All (λ share. posted_of share ≡ 0)) (sym push.items) (All-push (λ share. posted_of share ≡ 0) made _ before.none refl);
      long = ap length push.items ∙ length-append made _ ∙ (let z : length made + 1 ≡ number + 1 = omega (arith, before.long) in z);
      room = omega (arith, before.room, push.capacity);
    }
