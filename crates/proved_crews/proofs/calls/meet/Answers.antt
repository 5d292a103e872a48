use Rattle.std.proofs.Common.{eqb-true}
use Rattle.proved_crews.proofs.Done.{meet_done, met_of}
use Rattle.proved_crews.proofs.calls.meet.Goals as goal

pub returns-clause-met : goal.returns-clause-met
returns-clause-met c = λ zero. meet_done c.args.m.now.kept c.args.other.now.kept c.meet_members.new.h.kept c.meet_members.new.other.kept c.meet_members.result c.meet_members.ensures (eqb-true c.meet_members.result.status 0 zero)

pub returns-clause-crews : goal.returns-clause-crews
returns-clause-crews c = λ zero. met_of c.args.m.now.kept c.args.other.now.kept c.meet_members.new.h.kept c.meet_members.new.other.kept
    (meet_done c.args.m.now.kept c.args.other.now.kept c.meet_members.new.h.kept c.meet_members.new.other.kept c.meet_members.result c.meet_members.ensures (eqb-true c.meet_members.result.status 0 zero))
