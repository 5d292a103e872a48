use Rattle.std.proofs.Common.{is_ok}
use Rattle.comp_mutator.specs.Mutators.{IsMutatorOf}
use Rattle.embedding_example.proofs.Pushed.{all_tried}
use Rattle.embedding_example.proofs.cycle.go_on.Goals as goal

pub returns : goal.returns
returns g c =
    let of = IsMutatorOf c.args.space.now in
    let both = c.meet.ensures.of in
    let one = all_tried of (is_ok c.push.result) c.in_ok-back.back.items c.push.new.self.items c.meet.new.other c.push.ensures.items c.in_ok-back.ensures.others both.0 in
    record { of = all_tried of (is_ok c.push-2.result) c.push.new.self.items c.push-2.new.self.items c.meet.new.m c.push-2.ensures.items one both.1 }
