use Rattle.std.proofs.Common.{inr, ◌∙◌}
use Rattle.heap_layout.specs.declared.fault.LayoutFault.TheVariants as layout
use Rattle.file_handle.proofs.imaging.read_into.Goals as goal

pub returns-else-keep : goal.returns-else-keep
returns-else-keep c = inr (c.if-keep.ensures ∙ c.requires, (layout.OutOfMemory, c.unaccepted.ensures, tt))
