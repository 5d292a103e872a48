use Rattle.comp_audit.proofs.Had.{unused}
use Rattle.comp_audit.proofs.explaining.stamps.explain_repeated.Goals as goal

pub returns-in-None : goal.returns-in-None
returns-in-None c = λ heap more. unused c.args.dump.now c.args.stamp c.first_use.result c.in-None.is c.first_use.ensures more
