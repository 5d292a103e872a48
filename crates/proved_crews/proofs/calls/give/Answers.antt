use Rattle.std.proofs.Common.{eqb-true}
use Rattle.proved_crews.proofs.Done.{give_done, given_to}
use Rattle.proved_crews.proofs.calls.give.Goals as goal

pub returns-clause-given : goal.returns-clause-given
returns-clause-given c = λ zero. give_done c.args.crew.now.kept c.give_member.new.crew.kept c.args.m.now.kept c.give_member.new.h.kept c.give_member.result c.give_member.ensures (eqb-true c.give_member.result.status 0 zero)

pub returns-clause-crews : goal.returns-clause-crews
returns-clause-crews c = λ zero. given_to c.args.crew.now.kept c.args.m.now.kept c.give_member.new.crew.kept c.give_member.new.h.kept
    (give_done c.args.crew.now.kept c.give_member.new.crew.kept c.args.m.now.kept c.give_member.new.h.kept c.give_member.result c.give_member.ensures (eqb-true c.give_member.result.status 0 zero))
