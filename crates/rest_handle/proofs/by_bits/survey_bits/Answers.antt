use Rattle.std.proofs.Common.{inr}
use Rattle.rest_marks.specs.declared.fault.BitsFault.TheVariants as given
use Rattle.rest_handle.proofs.by_bits.survey_bits.Goals as goal

pub returns-else-keep_found : goal.returns-else-keep_found
returns-else-keep_found c = inr (c.keep_found.ensures.empty c.if-keep_found.false, (given.OutOfMemory, c.untaken-else-keep_found.ensures, c.in-Ok.ensures.taken))
