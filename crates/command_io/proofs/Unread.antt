-- Texts that were not read whole.
use Rattle.std.proofs.Common.{ℕ, [], List, Option, None, Some, refl}
use Rattle.comp_trace.specs.declared.text.fault.TraceFault.TheVariants as traces
use Rattle.command_io.specs.LongLines.{read_of}
use Rattle.command_io.specs.Texts.{RefusesText}
use Rattle.command_io.specs.declared.refusal.CommandRefusal.TheVariants.{Trace}

-- if memory runs out a text is no trace, whatever it says
pub unread : (mutators roots : ℕ) (known : Option (List ℕ)) → RefusesText mutators roots (Trace traces.OutOfMemory) known
unread mutators roots None = ([], tt, tt)
unread mutators roots (Some bytes) = (read_of bytes, refl, tt)
