use Rattle.std.proofs.Common.{arith}
use Rattle.comp_dump.proofs.Lending.{all_typed}
use Rattle.comp_dump.proofs.kept_pages.pages_are_typed.Goals as goal

pub returns : goal.returns
returns c = all_typed c.args.pages.now c.loop-p.p (omega arith) c.loop-p.invariant
