use Rattle.std.proofs.Common.{ap, inl}
use Rattle.handle_base.specs.HandleKinds.{marking_in}
use Rattle.handle_base.specs.Knowing.{knowing}
use Rattle.beside_handle.proofs.marking.begin.Goals as goal

pub returns-then-keep : goal.returns-then-keep
returns-then-keep c = inl (knowing c.in-Ok.marker, ap marking_in c.if-keep.ensures, c.in-Ok.ensures.begun, c.in-Ok.ensures.knows, c.done.ensures)
