-- What a trace has, and what it was parsed for.
use Rattle.std.specs.Prelude.{ℕ, List}
use Rattle.comp_trace.specs.declared.text.line.Line.{Line}
use Rattle.comp_trace.specs.declared.text.trace.Trace.{Trace}

-- its lines, in order
abbrev pub lines_of : Trace → List Line
lines_of trace = trace.lines.items

-- the number of mutators that it was parsed for
abbrev pub mutators_of : Trace → ℕ
mutators_of trace = trace.mutators

-- the number of roots that it was parsed for
abbrev pub roots_of : Trace → ℕ
roots_of trace = trace.roots
