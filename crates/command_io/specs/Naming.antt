-- How files are named in refusals.
use Rattle.std.specs.Prelude.{ℕ, List, codes}
use Rattle.command_io.specs.declared.refusal.Input.{Input}
use Rattle.command_io.specs.declared.refusal.Input.TheVariants.{Image, Trace, Dump, Marks, Roots, Moved, Program}
use Rattle.command_io.specs.declared.refusal.Output.{Output}
use Rattle.command_io.specs.declared.refusal.Output.TheVariants as outputs

-- the name of a file that is read, in refusals
abbrev pub input_name : Input → List ℕ
input_name Image = codes "image"
input_name Trace = codes "trace"
input_name Dump = codes "dump"
input_name Marks = codes "marks"
input_name Roots = codes "roots"
input_name Moved = codes "moved"
input_name Program = codes "program"

-- the name of a file that is made
abbrev pub output_name : Output → List ℕ
output_name outputs.Dump = codes "dump"
output_name outputs.New = codes "new"
output_name outputs.Map = codes "map"
