-- What clauses say of a writer that was flushed.
use Rattle.heap_layout.specs.declared.counted.Counted.{Counted}
use Rattle.command_io.specs.declared.flushed.Flushed.{Flushed}

-- the writer, with the count of its calls that failed
abbrev pub counted_in : {W : Type 0} → Flushed W → Counted W
counted_in flushed = flushed.written
