use Rattle.std.proofs.Common.{◌+◌, [], ◌∷◌, ◌++◌, vec_capacity, length, refl, ap, ◌∙◌, arith, length-append}
use Rattle.comp_access.specs.Hands.{pass_of}
use Rattle.comp_access.proofs.HandRows.{moved, room_left, words_left}
use Rattle.comp_crew.proofs.Parts.{bound_all, bound_more}
use Rattle.comp_crew.proofs.finishing.calls.parted.Goals as goal

pub overflow_add-all : goal.overflow_add-all
overflow_add-all c =
    let before = c.loop-hand.invariant in
    let many = before.many in
    let all = bound_all c.loop-hand.all _ before.bound (omega (arith, many)) in
    let small = c.made_words-all.ensures.few in
    record { fits = omega (arith, all, small) }

pub loop-hand-preserved : goal.loop-hand-preserved
loop-hand-preserved c =
    let before = c.loop-hand.invariant in
    let hand = c.in-Some.hand in
    let left = c.loop-hand.hand-iterator.rest.items in
    let rest = c.next.new.self.rest.items in
    let first = c.in-Some.ensures.steps.0 in
    let pushed = c.push_reserved.ensures in
    let pass = c.into_pass.result in
    let done = c.loop-hand.passes.items in
    let more = c.push_reserved.new.self.items in
    let items = pushed.items ∙ ap (λ p. done ++ p ∷ []) c.into_pass.ensures.pass in
    let words = c.made_words-all.result in
    let long = ap length pushed.items ∙ length-append done (pass ∷ []) in
    record {
      passes = moved hand left rest first pass_of done more _ items before.passes;
      words = words_left hand left rest first pass_of c.loop-hand.all (c.loop-hand.all + words) _ (ap (λ n. c.loop-hand.all + n) c.made_words-all.ensures.counted) before.words;
      bound = bound_more c.loop-hand.all (c.loop-hand.all + words) words (length done) _ refl c.made_words-all.ensures.few long before.bound;
      many = room_left hand left rest first done more pass 255 255 pushed.items refl before.many;
      room = room_left hand left rest first done more pass (vec_capacity c.loop-hand.passes) (vec_capacity c.push_reserved.new.self) pushed.items pushed.capacity before.room;
    }
