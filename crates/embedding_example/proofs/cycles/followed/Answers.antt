use Rattle.comp_mutator.specs.NumberedHeaps.{first_numbers, first_numbered}
use Rattle.embedding_example.proofs.cycles.followed.Goals as goal

pub returns-in-Ok : goal.returns-in-Ok
returns-in-Ok c =
    let heap = c.args.plan.now in
    let made = c.in-Ok.ensures in
    record { next_is = made.next; cycle = made.cycle; chapter = made.chapter (first_numbers heap) (first_numbered heap) (c.first_numbering.ensures heap) }
