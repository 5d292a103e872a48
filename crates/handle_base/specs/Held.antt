-- What a handle owns: nothing at null, or what a box owns, of which what is kept holds.
use Rattle.std.specs.Prelude.{Option, None, Some}
use base.Fml.{Fml, feq, fex, fsep, ftrue}
use base.Stored.{Coded}
use denote.RawPtr.{Ptr, null_ptr}
use Rattle.std.specs.Box.Ownership.{box_owns}
use Rattle.std.specs.Global.{Global}
use Rattle.std_heap.specs.contracts.GlobalAllocator.TheImpl.{ghosts}
use Rattle.handle_base.specs.contracts.kept.Kept.{the_row}
use Rattle.handle_base.specs.Keeping.{IsKept}
use Rattle.core.specs.contracts.option.Option as OP

abbrev pub handle_owns : Global → Ptr → Option the_row.Denot → Fml
handle_owns alloc at None = feq Ptr at null_ptr
handle_owns alloc at (Some kept) = fsep (fex (IsKept kept) (λ _. ftrue)) (box_owns (ghosts.dealloc_token alloc) the_row at kept)

abbrev pub kept_coded : Coded (Option the_row.Denot)
kept_coded = (OP.the_row the_row).coded
