use Rattle.std.proofs.Common.{eqb-true}
use Rattle.proved_crews.proofs.Done.{take_done, taken_from}
use Rattle.proved_crews.proofs.calls.take.Goals as goal

pub returns-clause-taken : goal.returns-clause-taken
returns-clause-taken c = λ zero. take_done c.args.crew.now.kept c.take_member.new.crew.kept c.args.m.now.kept c.take_member.new.out.kept c.take_member.result c.take_member.ensures (eqb-true c.take_member.result.status 0 zero)

pub returns-clause-crews : goal.returns-clause-crews
returns-clause-crews c = λ zero. taken_from c.args.crew.now.kept c.take_member.new.crew.kept c.take_member.new.out.kept
    (take_done c.args.crew.now.kept c.take_member.new.crew.kept c.args.m.now.kept c.take_member.new.out.kept c.take_member.result c.take_member.ensures (eqb-true c.take_member.result.status 0 zero))
