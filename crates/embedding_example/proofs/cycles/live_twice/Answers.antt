use Rattle.std.proofs.Common.{◌∙◌, subst}
use Rattle.std.proofs.lemmas.Option.{IfSome_then}
use Rattle.heap_layout.specs.Heap.{Heap}
use Rattle.comp_mutator.specs.Ends.{IsEndOf}
use Rattle.embedding_example.specs.Lives.{IsFollowed}
use Rattle.embedding_example.proofs.Living.{lives}
use Rattle.embedding_example.proofs.cycles.live_twice.Goals as goal

pub returns : goal.returns
returns g c =
    let heap = c.args.heap in
    let left = c.in_ok-left.left in
    let next = c.in_ok-next.next in
    let left_again = c.in_ok-left_again.left_again in
    let marks = c.args.marks.items in
    let last_marks = c.args.last_marks.items in
    let end = subst (λ (h : Heap). IsEndOf h left) c.in_ok-plan.ensures c.in_ok-left.ensures.end in
    let followed = subst (λ (h : Heap). IsFollowed h left marks next) (c.deref.ensures ∙ c.in_ok-plan.ensures) c.in_ok-next.ensures in
    let again = subst (λ (h : Heap). IsEndOf h left_again) c.in_ok-second.ensures c.in_ok-left_again.ensures.end in
    record {
      lives = IfSome_then c.followed-2.result c.followed-2.ensures (λ last done.
          lives c.one_life.ensures heap next last left left_again marks last_marks end followed again
          (subst (λ (h : Heap). IsFollowed h left_again last_marks last) (c.deref-2.ensures ∙ c.in_ok-second.ensures) done));
    }
