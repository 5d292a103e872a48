-- The files that are made.
use Rattle.std.specs.Prelude.{ℕ, List}
use Rattle.heap_layout.specs.Encoding.{encoding}
use Rattle.comp_dump.specs.DumpEncoding.{dump_bytes}
use Rattle.command_io.specs.declared.made.Made.{Made}
use Rattle.command_io.specs.declared.made.Made.TheVariants.{Dump, Image, Picture}
use Rattle.command_io.specs.declared.refusal.Output.{Output}
use Rattle.command_io.specs.declared.refusal.Output.TheVariants as outputs

-- which file is made, and of which bytes
abbrev pub made_of : Made → Output × List ℕ
made_of (Dump dump) = (outputs.Dump, dump_bytes dump.now)
made_of (Image heap) = (outputs.New, encoding heap.now)
made_of (Picture picture) = (outputs.Map, picture.now)
